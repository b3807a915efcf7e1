-- In a script that fits, a processor that halts in a frame is down in the next frame. A processor that does not
-- commit a frame is down in that frame or in the next one.
use Rattle.std.proofs.Common.{◌≡◌, ℕ, zero, suc, ◌+◌, ◌-◌, ◌<◌, ◌≤◌, Bool, true, false, not, refl, arith, ◌⊎◌, ap, sym, ◌∙◌, List, length, get_or}
use mathlib.Core.Logic.{inl, inr}
use Rattle.std.specs.Prelude.{◌&&◌, ◌==◌, Some, nat_le, slice_get}
use Rattle.std.specs.Int.{bit_at}
use Rattle.std.proofs.lemmas.Option.{slice_get-get_or, slice_get_within}
use Rattle.scram_types.proofs.Booleans.{not_true, and_right, and_left}
use Rattle.scram_types.proofs.Naturals.{low_or_high, equal}
use Rattle.scram_types.specs.declared.scripts.HaltAt.{HaltAt}
use Rattle.scram_types.specs.declared.scripts.RestartAt.{RestartAt}
use Rattle.scram_types.specs.Scripts.{ScriptParts}
use Rattle.scram_types.specs.Specification.{Parts}
use Rattle.scram_types.specs.Bits.{bits_below}
use Rattle.scram_types.proofs.BitSets.{bit_is, bits_lt, no_bit}
use Rattle.scram_types.proofs.Items.{any_is, any_found}
use Rattle.scram_types.proofs.Options.{same_some}
use Rattle.fault_script.specs.Times.{halts_before_mark, halts_in, is_halt_in, is_restart_between, is_up, restarted, words}
use Rattle.fault_script.specs.Environments.{env_at}
use Rattle.fault_script.specs.Fits.{EachNext, Fits, HaltBefore}
use Rattle.fault_script.specs.Laws.{HaltsShow, LossesShow}
use Rattle.fault_script.proofs.Halts.{between, up_after_each_halt}

-- The halts of a list are in the order of frames.
next_frame : (a b : HaltAt) → HaltBefore a b → a.frame ≤ b.frame
next_frame a b before = elim before [ inl less ↦ omega arith | inr same ↦ (let e = same.0 in omega arith) ]

pub later_frame : (halts : List HaltAt) → EachNext HaltBefore halts → (i d : ℕ) (x y : HaltAt) → slice_get halts i ≡ Some x → slice_get halts (i + d) ≡ Some y → x.frame ≤ y.frame
later_frame halts ordered i zero x y first second =
    let plain : i + 0 ≡ i = omega arith in
    let same : x ≡ y = same_some x y (sym first ∙ ap (slice_get halts) (sym plain) ∙ second) in
    let frames = ap (λ (h : HaltAt). h.frame) same in
    omega arith
later_frame halts ordered i (suc d) x y first second =
    let past : i + suc d ≡ (i + d) + 1 = omega arith in
    let there = slice_get_within halts (i + suc d) y second in
    let middle : slice_get halts (i + d) ≡ Some (get_or halts (i + d) x) = slice_get-get_or halts (i + d) x (omega arith) in
    let before = later_frame halts ordered i d x (get_or halts (i + d) x) first middle in
    let after = next_frame (get_or halts (i + d) x) y (ordered (i + d) (get_or halts (i + d) x) y middle (ap (slice_get halts) (sym past) ∙ second)) in
    omega arith

-- Of two halts in different frames, the halt in the earlier frame comes first in the list.
stands_first : (halts : List HaltAt) → EachNext HaltBefore halts → (i j : ℕ) (x y : HaltAt) → slice_get halts i ≡ Some x → slice_get halts j ≡ Some y → x.frame < y.frame → i < j
stands_first halts ordered i j x y first second less = elim (low_or_high i j) [
  | inl fine ↦ fine
  | inr high ↦ (
      let place : j + (i - j) ≡ i = omega arith in
      let frames = later_frame halts ordered j (i - j) y x second (ap (slice_get halts) place ∙ first) in
      absurd (omega arith))
]

-- A processor restarts at most once: two restarts of it are in the same frame.
one_restart : (spec : Parts) (script : ScriptParts) → Fits spec script → (i j : ℕ) (x y : RestartAt)
    → slice_get script.restarts i ≡ Some x → slice_get script.restarts j ≡ Some y → x.proc.0 ≡ y.proc.0 → x.frame ≡ y.frame
one_restart spec script fits i j x y first second proc = elim (low_or_high i j) [
  | inl less ↦ absurd (fits.restarts_once i j x y less first second proc)
  | inr high ↦ elim (low_or_high j i) [
    | inl less ↦ absurd (fits.restarts_once j i y x less second first (sym proc))
    | inr low ↦ (
        let place : i ≡ j = omega arith in
        ap (λ (r : RestartAt). r.frame) (same_some x y (sym first ∙ ap (slice_get script.restarts) place ∙ second)))
  ]
]

not_restarted : (spec : Parts) (script : ScriptParts) → Fits spec script → (p h : ℕ) → halts_in script p h ≡ true → restarted script p h (suc h) ≡ true → ⊥
not_restarted spec script fits p h halts again =
    let found = any_found (is_restart_between p h (suc h)) script.restarts again in
    let restart = between p h (suc h) found.1 found.3 in
    let after = restart.after in
    let by = restart.by in
    let first = fits.restarts_late found.0 found.1 found.2 in
    let early = first.frame in
    let this = any_found (is_halt_in p h) script.halts halts in
    let proc = equal this.1.proc.0 p (and_left (this.1.proc.0 == p) (this.1.frame == h) this.3) in
    let frame = equal this.1.frame h (and_right (this.1.proc.0 == p) (this.1.frame == h) this.3) in
    let place = stands_first script.halts fits.halts_ordered first.place this.0 first.halt this.1 first.there this.2 (omega arith) in
    let one = fits.halts_again first.place this.0 first.halt this.1 place first.there this.2 (first.proc ∙ restart.proc ∙ sym proc) in
    let up_to = one.frame in
    let same = one_restart spec script fits found.0 one.place found.1 one.restart found.2 one.there (restart.proc ∙ sym proc ∙ sym one.proc) in
    omega arith

down_after : (spec : Parts) (script : ScriptParts) → Fits spec script → (p h : ℕ) → halts_in script p h ≡ true → is_up script p (suc h) ≡ false
down_after spec script fits p h halts = not_true (is_up script p (suc h)) (λ up.
    not_restarted spec script fits p h halts ((up_after_each_halt script p (suc h)).0 up h (omega arith) halts))

down_bit : (spec : Parts) (script : ScriptParts) (p f : ℕ) → is_up script p f ≡ false → bit_at (env_at spec script f).up p ≡ 0
down_bit spec script p f down = elim (low_or_high p (length spec.procs)) [
  | inl less ↦ bit_is (λ q. is_up script q f) (length spec.procs) p less ∙ (rw (down) refl)
  | inr past ↦ no_bit (bits_below (λ q. is_up script q f) (length spec.procs)) (length spec.procs) p (bits_lt (λ q. is_up script q f) (length spec.procs)) past
]

pub halts_show : HaltsShow
halts_show spec script fits p h halts =
    let down = down_after spec script fits p h halts in
    (down, down_bit spec script p (suc h) down)

lost_by : (up early : Bool) → (up && not early) ≡ false → (up ≡ false) ⊎ (early ≡ true)
lost_by false early h = inl refl
lost_by true true h = inr refl
lost_by true false h = absurd (cc)

pub losses_show : LossesShow
losses_show spec script fits p f lost = elim (lost_by (is_up script p f) (halts_before_mark spec script p f) lost) [
  | inl down ↦ inl down
  | inr early ↦ (
      let found = any_found (λ (halt : HaltAt). is_halt_in p f halt && nat_le halt.step (words spec)) script.halts early in
      let halts = any_is (is_halt_in p f) script.halts found.0 found.1 found.2 (and_left (is_halt_in p f found.1) (nat_le found.1.step (words spec)) found.3) in
      inr (down_after spec script fits p f halts))
]
