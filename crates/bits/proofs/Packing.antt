-- A byte and its eight bits say the same.
use Rattle.std.proofs.Common.{◌≡◌, ℕ, zero, suc, ◌+◌, ◌*◌, ◌/◌, ◌%◌, ◌^◌, ◌<◌, Bool, true, false, cond, List, [], ◌∷◌, length, get_or, drop, sym, refl, ap, ◌∙◌, pow-suc, arith, map, ◌==◌, subst, rules, add-one}
use Rattle.std.specs.List.{range_with_len}
use native.Mathlib.Nat.{div-div-eq-div-mul}
use Rattle.std.proofs.lemmas.List.{at_drop_more}
use Rattle.std.proofs.lemmas.Bool.{eq-eqb, ne_eqb}
use Rattle.std.proofs.lemmas.Bool.Decides.{nat_tests}
use Rattle.bits.specs.Bytes.{odd, flags, byte}

weighed : (n : ℕ) → cond (odd n) 1 0 ≡ n % 2
weighed n = grind (arith, nat_tests)

odd_byte : (b : Bool) (n : ℕ) → odd (cond b 1 0 + 2 * n) ≡ b
odd_byte true n = eq-eqb ((1 + 2 * n) % 2) 1 (omega arith)
odd_byte false n = ne_eqb ((0 + 2 * n) % 2) 1 (λ e. omega arith)

half_byte : (b : Bool) (n : ℕ) → (cond b 1 0 + 2 * n) / 2 ≡ n
half_byte true n = omega arith
half_byte false n = omega arith

-- the lowest k bits of a number, by halving
abbrev bits : ℕ → ℕ → List Bool
bits zero n = []
bits (suc k) n = odd n ∷ bits k (n / 2)

bits_byte : (s : List Bool) → bits (length s) (byte s) ≡ s
bits_byte [] = refl
bits_byte (b ∷ s) = let e = odd_byte b (byte s) in let f = half_byte b (byte s) in let g = bits_byte s in cc

flags_bits : (n : ℕ) → flags n ≡ bits 8 n
flags_bits n = simp div-div-eq-div-mul

byte_bits : (k n : ℕ) → n < 2 ^ k → byte (bits k n) ≡ n
byte_bits zero n h = omega arith
byte_bits (suc k) n h =
    let lt : n / 2 < 2 ^ k = omega (arith, pow-suc 2 k) in
    let rest = byte_bits k (n / 2) lt in
    let low = weighed n in omega arith

pub byte_flags : (n : ℕ) → n < 256 → byte (flags n) ≡ n
byte_flags n h = ap byte (flags_bits n) ∙ byte_bits 8 n h

pub flags_byte : (s : List Bool) → length s ≡ 8 → flags (byte s) ≡ s
flags_byte s h = flags_bits (byte s) ∙ ap (λ k. bits k (byte s)) (sym h) ∙ bits_byte s

-- a set's byte is below its length in bits
pub byte_bound : (s : List Bool) → byte s < 2 ^ length s
byte_bound [] = omega arith
byte_bound (true ∷ s) = omega (arith, byte_bound s, pow-suc 2 (length s))
byte_bound (false ∷ s) = omega (arith, byte_bound s, pow-suc 2 (length s))

weighs : (b : Bool) (w n : ℕ) → w * (cond b 1 0 + 2 * n) ≡ cond b w 0 + 2 * w * n
weighs true w n = grind (arith, rules)
weighs false w n = grind (arith, rules)

-- what the places from i on weigh, one place further
place_more : (s : List Bool) (i : ℕ) → i < length s
    → 2 ^ i * byte (drop i s) ≡ cond (get_or s i false) (2 ^ i) 0 + 2 ^ (i + 1) * byte (drop (i + 1) s)
place_more s i h =
    ap (λ n. 2 ^ i * n) (at_drop_more byte s i false h)
    ∙ weighs (get_or s i false) (2 ^ i) (byte (drop (i + 1) s))
    ∙ ap (λ w. cond (get_or s i false) (2 ^ i) 0 + w * byte (drop (i + 1) s)) (grind (arith, pow-suc 2 i, add-one))

-- a loop that adds what each place weighs: a step of it, and that the sum stays a byte
pub adds_more : (s : List Bool) (i b v : ℕ) → i < length s → b + 2 ^ i * byte (drop i s) ≡ byte s
    → v ≡ cond (get_or s i false) (2 ^ i) 0 → b + v + 2 ^ (i + 1) * byte (drop (i + 1) s) ≡ byte s
adds_more s i b v h e k = omega (arith, place_more s i h)

pub adds_within : (s : List Bool) (i b v : ℕ) → length s ≡ 8 → i < length s → b + 2 ^ i * byte (drop i s) ≡ byte s
    → v ≡ cond (get_or s i false) (2 ^ i) 0 → b + v < 256
adds_within s i b v n h e k =
    let bound : byte s < 2 ^ 8 = subst (λ m. byte s < 2 ^ m) n (byte_bound s) in
    omega (arith, adds_more s i b v h e k)

-- the flags as an array that a closure gives
pub flags_made : (n : ℕ) → map (λ k. n / 2 ^ k % 2 == 1) (range_with_len 0 8) ≡ flags n
flags_made n = let e : n / 1 ≡ n = omega arith in ap (λ m. odd m ∷ odd (n / 2) ∷ odd (n / 4) ∷ odd (n / 8) ∷ odd (n / 16) ∷ odd (n / 32) ∷ odd (n / 64) ∷ odd (n / 128) ∷ []) e
