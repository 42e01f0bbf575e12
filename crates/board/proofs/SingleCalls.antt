-- Single calls: what a refused one leaves, and spans one after the other.
use Rattle.std.proofs.Common.{◌≡◌, ℕ, zero, suc, ◌+◌, ◌≤◌, Bool, true, false, cond, ltb, Ok, Err, Result, sym, refl, ap, ◌∙◌, true≢false, add-zero, add-suc, suc-add, arith}
use Rattle.std.proofs.lemmas.Bool.{le-ltb, ltb-false}
use Rattle.timing.specs.Run.{times}
use Rattle.refusals.specs.declared.refusal.Refusal.{Refusal}
use Rattle.refusals.specs.declared.refusal.Refusal.TheVariants.{SpanTooLong, ClockPastEnd}
use Rattle.board.specs.Views.{View, settled, clock_once, last_clock}
use Rattle.board.specs.Perform.{plain_answer, longest_span, span_result, span, after}
use Rattle.board.specs.Cuts.{accepted}
use Rattle.board.specs.SingleCalls.{RefusedCallChangesNothing, SpansAdd}
use Rattle.board.proofs.Cutting.{clocks, clocks_add, span_accepted, refused_idle}

pub refused_call_changes_nothing : RefusedCallChangesNothing
refused_call_changes_nothing c s e = refused_idle s c e

-- the two tests of a span
abbrev tests : Bool → Bool → Result (Unit {0}) Refusal
tests long past = cond long (Err SpanTooLong) (cond past (Err ClockPastEnd) (Ok tt))

both_pass : (long past : Bool) → accepted (plain_answer (tests long past)) ≡ true → (long ≡ false) × (past ≡ false)
both_pass true past e = absurd (true≢false (sym e))
both_pass false true e = absurd (true≢false (sym e))
both_pass false false e = (refl, refl)

-- a span is accepted exactly if it is not too long and does not pass the last clock number
pub record Fits (n : ℕ) (v : View) : Type 0 where
  pub short : n ≤ longest_span
  pub inside : v.clock + n ≤ last_clock

fits : (n : ℕ) (v : View) → accepted (plain_answer (span_result n v)) ≡ true → Fits n v
fits n v e =
    let b = both_pass (ltb longest_span n) (ltb last_clock (v.clock + n)) e in
    record { short = ltb-false longest_span n b.0; inside = ltb-false last_clock (v.clock + n) b.1 }

accepts : (n : ℕ) (v : View) → Fits n v → accepted (plain_answer (span_result n v)) ≡ true
accepts n v f = (λ i. accepted (plain_answer (tests (le-ltb longest_span n f.short i) (le-ltb last_clock (v.clock + n) f.inside i))))

-- each clock counts up
one_counted : (v : View) → (clock_once v).clock ≡ suc v.clock
unfolding clock_once settled
one_counted v = refl

counted : (n : ℕ) (v : View) → (times n clock_once v).clock ≡ v.clock + n
counted zero v = sym (add-zero v.clock)
counted (suc n) v = counted n (clock_once v) ∙ ap (λ k. k + n) (one_counted v) ∙ suc-add v.clock n ∙ sym (add-suc v.clock n)

pub spans_add : SpansAdd
spans_add n m s e =
    let f = fits (n + m) s.board e in
    let first = accepts n s.board (record { short = omega (arith, f.short); inside = omega (arith, f.inside) }) in
    let c = counted n s.board in
    let second = accepts m (clocks n s).board (record { short = omega (arith, f.short); inside = omega (arith, f.inside, c) }) in
    ap (after (span m)) (span_accepted s n (span_result n s.board) first)
    ∙ span_accepted (clocks n s) m (span_result m (clocks n s).board) second
    ∙ sym (clocks_add n m s) ∙ sym (span_accepted s (n + m) (span_result (n + m) s.board) e)
