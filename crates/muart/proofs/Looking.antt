-- What one turn of a look keeps.
use Rattle.std.proofs.Common.{◌≡◌, ℕ, ◌+◌, ◌<◌, ◌≤◌, List, ◌++◌, length, get_or, take, drop, set, Some, None, Ok, Err, Option, sym, refl, ap, ◌∙◌, append_assoc, take-append-drop, arith}
use Rattle.std.proofs.lemmas.List.{drop_more, drop-set-lt, take_more_set}
use Rattle.std.specs.Option.{ok_or}
use Rattle.refusals.specs.declared.refusal.Refusal.{Refusal}
use Rattle.refusals.specs.declared.refusal.Refusal.TheVariants.{NoSuchRegister}
use Rattle.registers.specs.declared.register.Register.{Register}
use Rattle.muart.specs.declared.state.Rest.{Rest}
use Rattle.muart.specs.declared.state.Sensitive.{Sensitive}
use Rattle.registers.specs.Bus.{register_of}
use Rattle.muart.specs.declared.read.Reading.{Reading}
use Rattle.muart.specs.Reading.{read_byte, read_leaves, reading}
use Rattle.muart.specs.Looks.{all_known, looked}

-- what a search that gives an error for none found
pub found : (o : Option Register) (g : Register) → Ok g ≡ ok_or o NoSuchRegister → o ≡ Some g
found None g e = let z : ◌≡◌ {A = ℕ} 0 1 = cc in absurd (omega arith)
found (Some h) g e = let is : h ≡ g = cc in ap Some is

pub not_found : (o : Option Register) (f : Refusal) → Err f ≡ ok_or o NoSuchRegister → (o ≡ None) × (f ≡ NoSuchRegister)
not_found None f e = (refl, cc)
not_found (Some h) f e = let z : ◌≡◌ {A = ℕ} 0 1 = cc in absurd (omega arith)

-- the slots read so far, and what the rest of the look makes of the others
abbrev pub so_far : List ℕ → Rest → Sensitive → List ℕ → ℕ → List ℕ
so_far ns r s p i = take i p ++ looked (drop i ns) r s (drop i p)

module _ (r : Rest) (s : Sensitive) (i : ℕ) (ns p : List ℕ) where
  pub reads : (g : Register) → i < length ns → length ns ≤ length p → register_of (get_or ns i 0) ≡ Some g → so_far ns r s p i ≡ so_far ns r (read_leaves g r s) (set p i (read_byte g r s)) (i + 1)
  reads g h k e =
      let room : i < length p = omega arith in
      rw (drop_more ns i 0 h, drop_more p i 0 room, e, looked, take_more_set p i (read_byte g r s) room, drop-set-lt (i + 1) p i (read_byte g r s) (omega arith))
      (sym (append_assoc (take i p) _ _))

  pub stops : i < length ns → length ns ≤ length p → register_of (get_or ns i 0) ≡ None → so_far ns r s p i ≡ p
  stops h k e =
      let room : i < length p = omega arith in
      rw (drop_more ns i 0 h, drop_more p i 0 room, e, looked, ← drop_more p i 0 room) (take-append-drop i p)

module _ (ns : List ℕ) (i : ℕ) where
  pub known_reads : (g : Register) → i < length ns → register_of (get_or ns i 0) ≡ Some g → all_known (drop i ns) ≡ all_known (drop (i + 1) ns)
  known_reads g h e = rw (drop_more ns i 0 h, e, all_known) refl

  pub known_stops : i < length ns → register_of (get_or ns i 0) ≡ None → all_known (drop i ns) ≡ Err NoSuchRegister
  known_stops h e = rw (drop_more ns i 0 h, e, all_known) refl

-- a turn of the loop, as the code has it
pub turn : (A ns p : List ℕ) (r : Rest) (s after : Sensitive) (i : ℕ) (g : Register) (told : Reading) → A ≡ so_far ns r s p i → i < length ns → length ns ≤ length p → register_of (get_or ns i 0) ≡ Some g → told ≡ reading g r s → after ≡ read_leaves g r s → A ≡ so_far ns r after (set p i told.byte) (i + 1)
turn A ns p r s after i g told inv h k e t a =
    inv ∙ reads r s i ns p g h k e ∙ (λ j. so_far ns r (sym a j) (set p i (sym t j).byte) (i + 1))

pub known_turn : (ns : List ℕ) (i : ℕ) (g : Register) → all_known ns ≡ all_known (drop i ns) → i < length ns → register_of (get_or ns i 0) ≡ Some g → all_known ns ≡ all_known (drop (i + 1) ns)
known_turn ns i g inv h e = inv ∙ known_reads ns i g h e
