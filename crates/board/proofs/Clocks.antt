-- Many clocks of a board.
use Rattle.std.proofs.Common.{◌≡◌, ℕ, zero, suc, ◌+◌, ◌-◌, ◌<◌, ◌≤◌, Bool, true, false, cond, not, ◌&&◌, [], ◌++◌, sym, refl, ap, ◌∙◌, append_assoc, suc-le-suc, zero-le, not-suc-le-zero, add-zero, add-suc, suc-add, zero-add, arith}
use Rattle.timing.specs.Run.{times, when}
use Rattle.timing.proofs.Repeats.{times_add}
use Rattle.line.specs.Meaning.{Meaning, shown, ticked, hearing, elapsed}
use Rattle.recorder.specs.Recording.{Recording, all_marked}
use Rattle.recorder.proofs.Marks.{all_marked_append}
use Rattle.muart.specs.declared.state.StandIn.{StandIn}
use Rattle.muart.specs.Reading.{int_high}
use Rattle.muart.specs.State.{with_rxd, with_receiver}
use Rattle.muart.specs.Serial.{txd_level, rxd_set, form_in}
use Rattle.serial.specs.Receiving.{fallen}
use Rattle.muart.specs.Clock.{clocked, Still}
use Rattle.muart.proofs.Jumping.{still_txd, still_int, still_rxd}
use Rattle.marks.specs.declared.wires.WireMark.{WireMark}
use Rattle.marks.specs.declared.wires.Lines.{Lines}
use Rattle.marks.specs.Marks.{differ, changes}
use Rattle.board.specs.Views.{View, lines_of, with_unit, joined, settled, stirred, clock_once, marks_between, span_marks}

pub same_differ : (a b : Bool) → a ≡ b → differ a b ≡ false
same_differ true true e = refl
same_differ false false e = refl
same_differ true false e = e
same_differ false true e = sym e

no_fall : (b r : Bool) → ((b && not b) && r) ≡ false
no_fall true r = refl
no_fall false r = refl

-- RxD set to the level that it has
pub same_rxd : (v : Bool) (u : StandIn) → v ≡ u.rest.serial.rxd → rxd_set v u ≡ u
same_rxd v u e =
    ap (λ x. rxd_set x u) e
    ∙ ap (λ b. with_rxd u.rest.serial.rxd (when b (λ x. with_receiver (fallen (form_in x) x.rest.serial.receiver) x) u)) (no_fall u.rest.serial.rxd u.rest.registers.control.rxe)

-- lines that stay make no marks
pub same_lines : (c : ℕ) (a b : Lines) → a.txd ≡ b.txd → a.rxd ≡ b.rxd → a.int ≡ b.int → changes c a b ≡ []
same_lines c a b t r i = rw (same_differ a.txd b.txd t) (rw (same_differ a.rxd b.rxd r) (rw (same_differ a.int b.int i)))

-- no line changes in n clocks
pub record Calm (n : ℕ) (v : View) : Type 0 where
  pub txd : (k : ℕ) → k ≤ n → txd_level (times k clocked v.unit) ≡ txd_level v.unit
  pub int : (k : ℕ) → k ≤ n → int_high (times k clocked v.unit).rest (times k clocked v.unit).sensitive ≡ int_high v.unit.rest v.unit.sensitive
  pub rxd : (k : ℕ) → k ≤ n → (times k clocked v.unit).rest.serial.rxd ≡ v.unit.rest.serial.rxd
  pub level : (k : ℕ) → suc k ≤ n → shown (elapsed (suc k) v.partner) ≡ v.unit.rest.serial.rxd

module _ (n : ℕ) (v : View) (calm : Calm (suc n) v) where
  one : 1 ≤ suc n
  one = suc-le-suc zero-le

  pub calm_once : clock_once v ≡ stirred v
  unfolding clock_once settled
  calm_once =
      ap (λ b. joined (record { unit = clocked v.unit; partner = cond b (hearing (txd_level (clocked v.unit)) (ticked v.partner)) (ticked v.partner); clock = suc v.clock })) (same_differ (txd_level v.unit) (txd_level (clocked v.unit)) (sym (calm.txd 1 one)))
      ∙ ap (λ u. with_unit u (stirred v)) (same_rxd (shown (ticked v.partner)) (clocked v.unit) (calm.level 0 one ∙ sym (calm.rxd 1 one)))

  pub calm_marks : marks_between v (stirred v) ≡ []
  calm_marks = same_lines (suc v.clock) (lines_of v.unit) (lines_of (clocked v.unit)) (sym (calm.txd 1 one)) (sym (calm.rxd 1 one)) (sym (calm.int 1 one))

  calm_next : Calm n (stirred v)
  calm_next = record {
    txd = λ k h. calm.txd (suc k) (suc-le-suc h) ∙ sym (calm.txd 1 one);
    int = λ k h. calm.int (suc k) (suc-le-suc h) ∙ sym (calm.int 1 one);
    rxd = λ k h. calm.rxd (suc k) (suc-le-suc h) ∙ sym (calm.rxd 1 one);
    level = λ k h. calm.level (suc k) (suc-le-suc h) ∙ sym (calm.rxd 1 one);
  }

-- n calm clocks run the stand-in and the partner, and count
abbrev pub ran_on : ℕ → View → View
ran_on n v = record { unit = times n clocked v.unit; partner = elapsed n v.partner; clock = v.clock + n }

pub calm_clocks : (n : ℕ) (v : View) → Calm n v → times n clock_once v ≡ ran_on n v
calm_clocks zero v c = λ i. record { unit = v.unit; partner = v.partner; clock = sym (add-zero v.clock) i }
calm_clocks (suc n) v c =
    ap (times n clock_once) (calm_once n v c) ∙ calm_clocks n (stirred v) (calm_next n v c)
    ∙ (λ i. record { unit = times n clocked (clocked v.unit); partner = elapsed n (ticked v.partner); clock = (suc-add v.clock n ∙ sym (add-suc v.clock n)) i })

pub calm_silent : (n : ℕ) (v : View) → Calm n v → span_marks n v ≡ []
calm_silent zero v c = refl
calm_silent (suc n) v c =
    ap (λ w. marks_between v w ++ span_marks n w) (calm_once n v c)
    ∙ (λ i. calm_marks n v c i ++ calm_silent n (stirred v) (calm_next n v c) i)

-- still clocks of the stand-in beside a steady partner are calm
pub still_calm : (n : ℕ) (v : View) → ((k : ℕ) → k ≤ n → Still k v.unit) → (0 < n → v.unit.rest.serial.rxd ≡ shown v.partner) → ((k : ℕ) → k ≤ n → shown (elapsed k v.partner) ≡ shown v.partner) → Calm n v
still_calm n v still steady same = record {
  txd = λ k h. still_txd k v.unit (still k h);
  int = λ k h. still_int k v.unit (still k h);
  rxd = λ k h. still_rxd k v.unit (still k h);
  level = λ k h. same (suc k) h ∙ sym (steady (omega arith));
}

-- no clock at all is still
pub none_still : (n : ℕ) (u : StandIn) → n ≤ 0 → Still n u
none_still zero u h = record { steps = λ k l. absurd (not-suc-le-zero l); sending = zero-le; receiving = zero-le }
none_still (suc n) u h = absurd (not-suc-le-zero h)

pub none_same : (n : ℕ) (m : Meaning) → n ≤ 0 → shown (elapsed n m) ≡ shown m
none_same zero m h = refl
none_same (suc n) m h = absurd (not-suc-le-zero h)

-- the marks of n + m clocks are those of n and then of m
pub span_marks_add : (n m : ℕ) (v : View) → span_marks (n + m) v ≡ span_marks n v ++ span_marks m (times n clock_once v)
span_marks_add zero m v = rw zero-add
span_marks_add (suc n) m v =
    ap (λ k. span_marks k v) (suc-add n m)
    ∙ ap (λ l. marks_between v (clock_once v) ++ l) (span_marks_add n m (clock_once v))
    ∙ sym (append_assoc (marks_between v (clock_once v)) (span_marks n (clock_once v)) (span_marks m (times n clock_once (clock_once v))))

module _ (left quiet : ℕ) (s a b : View) (h : quiet < left) (ea : a ≡ times quiet clock_once s) (eb : b ≡ clock_once a) where
  all : quiet + suc (left - (quiet + 1)) ≡ left
  all = omega arith

  -- a turn of the loop: some clocks skipped, one run, and the rest to come
  pub turn : (end : View) → times left clock_once s ≡ end → times (left - (quiet + 1)) clock_once b ≡ end
  turn end inv =
      ap (times (left - (quiet + 1)) clock_once) (eb ∙ ap clock_once ea)
      ∙ sym (times_add quiet (suc (left - (quiet + 1))) clock_once s) ∙ ap (λ k. times k clock_once s) all ∙ inv

  marks_of_turn : span_marks quiet s ≡ [] → span_marks left s ≡ marks_between a b ++ span_marks (left - (quiet + 1)) b
  marks_of_turn silent =
      ap (λ k. span_marks k s) (sym all) ∙ span_marks_add quiet (suc (left - (quiet + 1))) s
      ∙ (λ i. silent i ++ span_marks (suc (left - (quiet + 1))) (sym ea i))
      ∙ ap (λ w. marks_between a w ++ span_marks (left - (quiet + 1)) w) (sym eb)

  pub marks_turn : (r t end : Recording WireMark) → span_marks quiet s ≡ [] → t ≡ all_marked (marks_between a b) r → all_marked (span_marks left s) r ≡ end → all_marked (span_marks (left - (quiet + 1)) b) t ≡ end
  marks_turn r t end silent et inv =
      ap (all_marked (span_marks (left - (quiet + 1)) b)) et
      ∙ sym (all_marked_append (marks_between a b) (span_marks (left - (quiet + 1)) b) r)
      ∙ ap (λ ms. all_marked ms r) (sym (marks_of_turn silent)) ∙ inv
