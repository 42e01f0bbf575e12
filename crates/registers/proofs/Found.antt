-- A place within a list is found, whatever error stands for none.
use Rattle.std.proofs.Common.{◌≡◌, ℕ, zero, suc, ◌<◌, List, [], ◌∷◌, length, refl, arith}
use Rattle.std.specs.Option.{ok_or}
use Rattle.refusals.specs.declared.refusal.Refusal.{Refusal}
use Rattle.registers.specs.Bus.{place, registers, register_of}

within : {X : Type 0} (xs : List X) (n : ℕ) (e f : Refusal) → n < length xs → ok_or (place xs n) e ≡ ok_or (place xs n) f
within [] n e f h = absurd (omega arith)
within (x ∷ xs) zero e f h = refl
within (x ∷ xs) (suc n) e f h = within xs n e f (omega arith)

pub found_alike : (n : ℕ) (e f : Refusal) → n < 16 → ok_or (register_of n) e ≡ ok_or (register_of n) f
found_alike n e f h = within registers n e f h
