-- What a line says is decided by its first 81 bytes.
use Rattle.std.proofs.Common.{◌≡◌, ℕ, zero, suc, ◌+◌, ◌-◌, ◌*◌, ◌<◌, ◌≤◌, Bool, true, false, cond, ◌&&◌, eqb, leb, List, [], ◌∷◌, length, take, drop, Some, None, Ok, codes, Option, sym, refl, ap, ◌∙◌, le_of_suc-le-suc, not-suc-le-zero, arith, lit≤, length-take, take_all}
use Rattle.std.proofs.lemmas.List.{drop-take, take-take}
use Rattle.std.proofs.lemmas.Bool.Decides.{nat_tests}
use Rattle.std.specs.Char.{is_ascii_digit}
use Rattle.script.specs.Codes.{starts, code_of, first_limit, second_limit, operation_of}
use Rattle.script.specs.Fields.{at, is_padding, read_on, field_of, and_then, bounded_of}
use Rattle.script.specs.Lines.{step, fielded, operated, noted, parsed, kept_bytes, DecidedBy, StartDecides}
use Rattle.script.specs.declared.codes.Code.{Code}
use Rattle.script.specs.declared.codes.Code.TheVariants.{Rd, Wr, Ck, Pn, Ak, Ab, Rs, Lk}

starts_kept : (text line : List ℕ) (n : ℕ) → length text ≤ n → starts text (take n line) ≡ starts text line
starts_kept [] line n h = refl
starts_kept (letter ∷ text) line zero h = absurd (not-suc-le-zero h)
starts_kept (letter ∷ text) [] (suc n) h = refl
starts_kept (letter ∷ text) (byte ∷ line) (suc n) h = ap (λ r. eqb byte letter && r) (starts_kept text line n (le_of_suc-le-suc h))

read_kept : (left column : ℕ) (seen : Bool) (number : ℕ) (bytes : List ℕ) (n : ℕ) → left ≤ n → read_on left column seen number (take n bytes) ≡ read_on left column seen number bytes
read_kept zero column seen number bytes n h = refl
read_kept (suc left) column seen number bytes zero h = absurd (not-suc-le-zero h)
read_kept (suc left) column seen number [] (suc n) h = refl
read_kept (suc left) column seen number (byte ∷ bytes) (suc n) h =
    let more = le_of_suc-le-suc h in
    λ i. cond (is_ascii_digit byte) (read_kept left (column + 1) true (number * 10 + (byte - 48)) bytes n more i)
    (cond (is_padding byte seen left) (read_kept left (column + 1) false number bytes n more i)
    (at column))

module _ (line : List ℕ) (n : ℕ) where
  field_kept : (first last : ℕ) → first - 1 + (last + 1 - first) ≤ n → field_of first last (take n line) ≡ field_of first last line
  field_kept first last h =
      let all : first - 1 + (n - (first - 1)) ≡ n = omega arith in
      ap (read_on (last + 1 - first) first false 0) (ap (λ k. drop (first - 1) (take k line)) (sym all) ∙ drop-take (first - 1) (n - (first - 1)) line)
      ∙ read_kept (last + 1 - first) first false 0 (drop (first - 1) line) (n - (first - 1)) (omega arith)

  bounded_kept : (first last limit : ℕ) → first - 1 + (last + 1 - first) ≤ n → bounded_of first last limit (take n line) ≡ bounded_of first last limit line
  bounded_kept first last limit h = ap (λ r. and_then r (λ number. cond (leb number limit) (Ok number) (at first))) (field_kept first last h)

  length_kept : (most : ℕ) → most < n → leb (length (take n line)) most ≡ leb (length line) most
  length_kept most h = rw length-take (grind (arith, nat_tests))

module _ (line : List ℕ) where
  begins : (text : List ℕ) → length text ≤ 81 → starts text (take 81 line) ≡ starts text line
  begins text h = starts_kept text line 81 h

  code_kept : code_of (take 81 line) ≡ code_of line
  code_kept = λ i.
      cond (begins (codes "RD") (lit≤ tt) i) (Some Rd)
      (cond (begins (codes "WR") (lit≤ tt) i) (Some Wr)
      (cond (begins (codes "CK") (lit≤ tt) i) (Some Ck)
      (cond (begins (codes "PN") (lit≤ tt) i) (Some Pn)
      (cond (begins (codes "AK") (lit≤ tt) i) (Some Ak)
      (cond (begins (codes "AB") (lit≤ tt) i) (Some Ab)
      (cond (begins (codes "RS") (lit≤ tt) i) (Some Rs)
      (cond (begins (codes "LK") (lit≤ tt) i) (Some Lk)
      None)))))))

  fielded_kept : (code : Option Code) → fielded code (take 81 line) ≡ fielded code line
  fielded_kept None = refl
  fielded_kept (Some code) = λ i.
      and_then (bounded_kept line 81 3 12 (first_limit code) (lit≤ tt) i) (λ first.
      and_then (bounded_kept line 81 13 16 (second_limit code) (lit≤ tt) i) (λ second.
      cond (length_kept line 81 16 (lit≤ tt) i) (Ok (operation_of code first second)) (at 17)))

  operated_kept : operated (take 81 line) ≡ operated line
  operated_kept = ap (λ code. fielded code (take 81 line)) code_kept ∙ fielded_kept (code_of line)

  noted_so : (fits : Bool) → leb (length line) 80 ≡ fits → noted (take 81 line) ≡ noted line
  noted_so true e =
      let whole : length line ≤ 81 = grind (arith, nat_tests) in
      ap noted (take_all 81 line whole)
  noted_so false e =
      let long : leb (length (take 81 line)) 80 ≡ false = length_kept line 81 80 (lit≤ tt) ∙ e in
      rw (long, e)

  parsed_kept : parsed (take 81 line) ≡ parsed line
  parsed_kept = λ i.
      cond (begins (codes "*") (lit≤ tt) i) (noted_so (leb (length line) 80) refl i)
      (and_then (operated_kept i) (λ operation. Ok (step operation)))

pub start_decides : StartDecides
start_decides line = parsed_kept line

-- a longer start has these bytes too
pub more_decides : (n : ℕ) → kept_bytes ≤ n → DecidedBy n
more_decides n h line =
    sym (start_decides (take n line)) ∙ ap parsed (take-take 81 n line h) ∙ start_decides line
