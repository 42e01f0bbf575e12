-- What has been read of a line, and what is left of the input.
use Rattle.std.proofs.Common.{◌≡◌, ℕ, zero, suc, ◌<◌, Bool, true, false, cond, eqb, List, [], ◌∷◌, ◌++◌, take, length, Some, None, Ok, Option, Result, IfSome, get_or, sym, refl, ap, ◌∙◌, arith, subst, append-nil, append_assoc}
use Rattle.std.proofs.lemmas.Bool.{both_ways}
use Rattle.std.proofs.lemmas.Bool.Decides.{nat_tests}
use Rattle.std.proofs.Math.Seq.{take-nil}
use Rattle.std.specs.Io.KnownBytes.{Consumes, IsAtEnd, ReadConsumes}
use Rattle.script.specs.Inputs.{first_of, after_first, first_kept}

-- of an input of these bytes a line is gathered so far, and so many bytes are left
pub record Gathered (kept : ℕ) (bytes line : List ℕ) (any : Bool) (remaining : Option (List ℕ)) : Type 0 where
  pub left : List ℕ
  pub known : remaining ≡ Some left
  pub rest : after_first left ≡ after_first bytes
  pub whole : take kept (line ++ first_of left) ≡ take kept (first_of bytes)
  pub short : take kept line ≡ line
  pub found : any ≡ true → first_kept kept bytes ≡ Some (take kept (first_of bytes))
  pub fresh : any ≡ false → left ≡ bytes

-- what holds of known bytes
pub if_known : (o : Option (List ℕ)) (P : List ℕ → Type 0) → ((bytes : List ℕ) → o ≡ Some bytes → P bytes) → IfSome o P
if_known None P f = tt
if_known (Some bytes) P f = f bytes refl

-- what a reader has left after bytes are consumed
consumed : (left bs : List ℕ) (old new : Option (List ℕ)) → old ≡ Some left → Consumes old new bs → (ys : List ℕ) × (new ≡ Some ys) × (left ≡ bs ++ ys)
consumed left bs old new e h = at new (subst (λ o. Consumes o new bs) e h)
  where
    at : (new : Option (List ℕ)) → Consumes (Some left) new bs → (ys : List ℕ) × (new ≡ Some ys) × (left ≡ bs ++ ys)
    at None h = absurd h
    at (Some ys) h = (ys, refl, h)

-- a read that gave no byte, with room for one
pub none_read : {E : Type 0} (old new : Option (List ℕ)) (buf : List ℕ) (r : Result ℕ E) (n : ℕ) → ReadConsumes old new r buf → r ≡ Ok n → n ≡ 0 → 0 < length buf
    → Consumes old new [] × IsAtEnd new
none_read old new buf r n h e z room =
    let read = subst (λ x. ReadConsumes old new x buf) (e ∙ ap (λ x. Ok x) z) h in
    (read.0, read.1 refl room)

-- what is kept is kept again
take_onto : (k : ℕ) (a c : List ℕ) → take k (take k a ++ c) ≡ take k (a ++ c)
take_onto zero a c = refl
take_onto (suc k) [] c = refl
take_onto (suc k) (x ∷ a) c = ap (λ t. x ∷ t) (take_onto k a c)

take_twice : (k : ℕ) (a : List ℕ) → take k (take k a) ≡ take k a
take_twice zero a = refl
take_twice (suc k) [] = refl
take_twice (suc k) (x ∷ a) = ap (λ t. x ∷ t) (take_twice k a)

-- one byte of one
one_byte : (n : ℕ) (buf : List ℕ) → length buf ≡ 1 → 0 < n → take n buf ≡ get_or buf 0 0 ∷ []
one_byte n [] h p = absurd (omega (arith, h))
one_byte zero (b ∷ buf) h p = absurd (omega (arith, p))
one_byte (suc n) (b ∷ []) h p = ap (λ t. b ∷ t) (take-nil n)
one_byte (suc n) (b ∷ c ∷ buf) h p = absurd (omega (arith, h))

-- an input with a byte has a first line
has_first : (kept b : ℕ) (ys bytes : List ℕ) → b ∷ ys ≡ bytes → first_kept kept bytes ≡ Some (take kept (first_of bytes))
has_first kept b ys bytes e = subst (λ x. first_kept kept x ≡ Some (take kept (first_of x))) e refl

module _ (kept : ℕ) (bytes line : List ℕ) (any : Bool) (old new : Option (List ℕ)) (g : Gathered kept bytes line any old) where
  -- at the end of the input nothing is left
  ended : Consumes old new [] → IsAtEnd new → (new ≡ Some []) × (g.left ≡ [])
  ended h z =
      let after = consumed g.left [] old new g.known h in
      let none : after.0 ≡ [] = subst IsAtEnd after.1 z in
      (after.1 ∙ ap (λ x. Some x) none, after.2 ∙ none)

  pub ended_rest : Consumes old new [] → IsAtEnd new → new ≡ Some (after_first bytes)
  ended_rest h z =
      let e = ended h z in
      e.0 ∙ ap (λ x. Some x) (ap after_first (sym e.1) ∙ g.rest)

  pub ended_line : Consumes old new [] → IsAtEnd new → cond any (Some line) None ≡ first_kept kept bytes
  ended_line h z = at any (ended h z).1 g.found g.fresh
    where
      at : (a : Bool) → g.left ≡ [] → (a ≡ true → first_kept kept bytes ≡ Some (take kept (first_of bytes))) → (a ≡ false → g.left ≡ bytes)
          → cond a (Some line) None ≡ first_kept kept bytes
      at true l found fresh =
          let whole = sym g.short ∙ ap (take kept) (sym (append-nil line)) ∙ ap (λ x. take kept (line ++ first_of x)) (sym l) ∙ g.whole in
          ap (λ x. Some x) whole ∙ sym (found refl)
      at false l found fresh = ap (first_kept kept) (sym l ∙ fresh refl)

  module _ (n : ℕ) (buf : List ℕ) (one : length buf ≡ 1) (some : 0 < n) (h : Consumes old new (take n buf)) where
    -- otherwise one byte is read
    byte_read : (ys : List ℕ) × (new ≡ Some ys) × (g.left ≡ get_or buf 0 0 ∷ ys)
    byte_read = let after = consumed g.left (take n buf) old new g.known h in (after.0, after.1, after.2 ∙ ap (λ x. x ++ after.0) (one_byte n buf one some))

    nonempty : (a : Bool) → (a ≡ true → first_kept kept bytes ≡ Some (take kept (first_of bytes))) → (a ≡ false → g.left ≡ bytes)
        → first_kept kept bytes ≡ Some (take kept (first_of bytes))
    nonempty true found fresh = found refl
    nonempty false found fresh = has_first kept (get_or buf 0 0) byte_read.0 bytes (sym byte_read.2 ∙ fresh refl)

    -- which ends the line
    pub line_rest : get_or buf 0 0 ≡ 10 → new ≡ Some (after_first bytes)
    line_rest e =
        let left : g.left ≡ 10 ∷ byte_read.0 = byte_read.2 ∙ ap (λ b. b ∷ byte_read.0) e in
        byte_read.1 ∙ ap (λ x. Some x) (ap after_first (sym left) ∙ g.rest)

    pub line_line : get_or buf 0 0 ≡ 10 → Some line ≡ first_kept kept bytes
    line_line e =
        let left : g.left ≡ 10 ∷ byte_read.0 = byte_read.2 ∙ ap (λ b. b ∷ byte_read.0) e in
        let whole = sym g.short ∙ ap (take kept) (sym (append-nil line)) ∙ ap (λ x. take kept (line ++ first_of x)) (sym left) ∙ g.whole in
        ap (λ x. Some x) whole ∙ sym (nonempty any g.found g.fresh)

    -- or goes on it
    pub more : (get_or buf 0 0 ≡ 10 → ⊥) → Gathered kept bytes (take kept (line ++ get_or buf 0 0 ∷ [])) true new
    more other =
        let b : ℕ = get_or buf 0 0 in
        let e : eqb b 10 ≡ false = grind (arith, nat_tests) in
        let ys : List ℕ = byte_read.0 in
        record {
          left = ys;
          known = byte_read.1;
          rest = ap (λ x. cond x ys (after_first ys)) (sym e) ∙ ap after_first (sym byte_read.2) ∙ g.rest;
          whole =
              take_onto kept (line ++ b ∷ []) (first_of ys) ∙ ap (take kept) (append_assoc line (b ∷ []) (first_of ys))
              ∙ ap (λ x. take kept (line ++ cond x [] (b ∷ first_of ys))) (sym e) ∙ ap (λ x. take kept (line ++ first_of x)) (sym byte_read.2) ∙ g.whole;
          short = take_twice kept (line ++ b ∷ []);
          found = λ _. nonempty any g.found g.fresh;
          fresh = λ x. absurd (both_ways true x refl);
        }
