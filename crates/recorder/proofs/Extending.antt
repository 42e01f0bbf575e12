-- Marks made after others leave a recorder as if all were made at once.
use Rattle.std.proofs.Common.{◌≡◌, ℕ, ◌+◌, ◌-◌, ◌≤◌, List, drop, sym, refl, ap, ◌∙◌, le_refl, arith, drop-drop}
use Rattle.recorder.specs.declared.recorder.Recorder.{Recorder}
use Rattle.recorder.specs.Recording.{Extended, slots}

module _ {T : Type 0} where
  -- what is alike past j slots is alike past k
  further : (j k : ℕ) (xs ys : List T) → j ≤ k → drop j xs ≡ drop j ys → drop k xs ≡ drop k ys
  further j k xs ys h e =
      let all : j + (k - j) ≡ k = omega arith in
      ap (λ n. drop n xs) (sym all) ∙ sym (drop-drop (k - j) j xs) ∙ ap (drop (k - j)) e ∙ drop-drop (k - j) j ys ∙ ap (λ n. drop n ys) all

  pub extended_none : (r : Recorder T) → Extended r r
  extended_none r = record { place = refl; more = le_refl r.kept; untouched = refl }

  pub extended_on : (a b c : Recorder T) → Extended a b → Extended b c → Extended a c
  extended_on a b c first second = record {
    place = second.place ∙ first.place;
    more = omega arith;
    untouched = second.untouched ∙ further b.kept c.kept (slots b) (slots a) second.more first.untouched;
  }
