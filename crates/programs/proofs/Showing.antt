-- Marks printed one after the other.
use Rattle.std.proofs.Common.{◌≡◌, ℕ, ◌+◌, ◌<◌, ◌≤◌, List, [], ◌∷◌, ◌++◌, Option, length, drop, get_or, sym, ap, ◌∙◌, subst, append-nil, append_assoc}
use Rattle.std.proofs.lemmas.List.{drop_more, drop_all}
use Rattle.std.proofs.KnownBytes.{Appends-trans}
use Rattle.std.specs.Io.KnownBytes.{Appends}
use Rattle.programs.specs.Printed.{lines_shown}

-- the first n of some marks are printed
pub record Shown {T : Type 0} (text : T → List ℕ) (marks : List T) (before : Option (List ℕ)) (n : ℕ) (now : Option (List ℕ)) : Type 0 where
  pub written : List ℕ
  pub appended : Appends before now written
  pub listed : written ++ lines_shown text (drop n marks) ≡ lines_shown text marks

module _ {T : Type 0} (text : T → List ℕ) (marks : List T) (before now : Option (List ℕ)) (n : ℕ) (s : Shown text marks before n now) where
  pub one_shown : (mark : T) (now' : Option (List ℕ)) → mark ≡ get_or marks n mark → n < length marks → Appends now now' (text mark ++ 10 ∷ []) → Shown text marks before (n + 1) now'
  one_shown mark now' e l a =
      let line : List ℕ = text mark ++ 10 ∷ [] in
      let left = drop_more marks n mark l ∙ ap (λ x. x ∷ drop (n + 1) marks) (sym e) in
      record {
        written = s.written ++ line;
        appended = Appends-trans before now now' s.written line s.appended a;
        listed = append_assoc s.written line (lines_shown text (drop (n + 1) marks)) ∙ ap (λ x. s.written ++ lines_shown text x) (sym left) ∙ s.listed;
      }

  pub all_shown : length marks ≤ n → Appends before now (lines_shown text marks)
  all_shown l =
      let all = sym (append-nil s.written) ∙ ap (λ x. s.written ++ lines_shown text x) (sym (drop_all n marks l)) ∙ s.listed in
      subst (Appends before now) all s.appended
