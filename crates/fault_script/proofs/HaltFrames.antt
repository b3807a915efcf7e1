-- If the first frame that leaves the failure assumption has the kind `Halts`, a processor halts in that frame.
use Rattle.std.proofs.Common.{◌≡◌, ℕ, zero, suc, ◌+◌, ◌-◌, ◌<◌, ◌≤◌, Bool, true, false, not, refl, arith, ap, sym, subst, ◌∙◌, List, [], ◌∷◌, length}
use mathlib.Core.Logic.{inl, inr}
use Rattle.std.specs.Prelude.{◌&&◌, ◌||◌, ◌==◌, Option, Some, None, if◌then◌else◌, nat_lt, slice_get}
use Rattle.std.specs.List.{list_all, list_any}
use Rattle.std.proofs.lemmas.Bool.{not-false, not-true}
use Rattle.std.proofs.lemmas.Option.{slice_get_within}
use Rattle.scram_types.specs.declared.scripts.HaltAt.{HaltAt}
use Rattle.scram_types.specs.Bits.{count_below}
use Rattle.scram_types.specs.Searches.{first_below}
use Rattle.scram_types.specs.Scripts.{ScriptParts}
use Rattle.scram_types.specs.Specification.{Parts}
use Rattle.scram_types.proofs.BitSets.{bit_of, count_more, count_none, count_rises}
use Rattle.scram_types.proofs.Booleans.{and_false, and_left, and_right, by_bool, not_true, true_false}
use Rattle.scram_types.proofs.Items.{any_found, any_is}
use Rattle.scram_types.proofs.Naturals.{below, below_test, differ_test, equal, low_or_high, not_below, not_below_test, plus_one}
use Rattle.scram_types.proofs.Options.{none_some, same_some}
use Rattle.scram_types.proofs.Searches.{below_none, first_told}
use Rattle.fault_script.specs.declared.assumption.Outside.{Outside}
use Rattle.fault_script.specs.declared.assumption.OutsideKind.TheVariants as kind
use Rattle.fault_script.specs.Assumption.{brings_too_many_down, down_below, first_outside, has_too_many_down, is_change_too_many, outside_at}
use Rattle.fault_script.specs.Fits.{EachNext, Fits, HaltBefore}
use Rattle.fault_script.specs.Laws.{TooManyDownShowsAHalt}
use Rattle.fault_script.specs.Times.{halts_in, is_over, is_restart_between, is_up, is_up_since, latest_halt, restarted}
use Rattle.fault_script.proofs.Assuming.{start_up, two_tests}
use Rattle.fault_script.proofs.Halts.{between, between_test, up_by_lists}
use Rattle.fault_script.proofs.Losses.{later_frame}

-- A processor that is up and does not halt stays up.

restarted_later : (script : ScriptParts) (p h f : ℕ) → restarted script p h f ≡ true → restarted script p h (suc f) ≡ true
restarted_later script p h f t =
    let found = any_found (is_restart_between p h f) script.restarts t in
    let b = between p h f found.1 found.3 in
    any_is (is_restart_between p h (suc f)) script.restarts found.0 found.1 found.2
    (between_test p h (suc f) found.1 (let by = b.by in record { proc = b.proc; after = b.after; by = omega arith }))

up_stays_since : (script : ScriptParts) (p f : ℕ) (o : Option ℕ) → is_up_since script p f o ≡ true → is_up_since script p (suc f) o ≡ true
up_stays_since script p f None up = refl
up_stays_since script p f (Some h) up = restarted_later script p h f up

up_stays : (script : ScriptParts) (p f : ℕ) → halts_in script p f ≡ false → is_up script p f ≡ true → is_up script p (suc f) ≡ true
up_stays script p f quiet up = rw (quiet) (up_stays_since script p f (latest_halt script p f) up)

falls : (script : ScriptParts) (p f : ℕ) → is_up script p f ≡ true → is_up script p (suc f) ≡ false → halts_in script p f ≡ true
falls script p f up down = by_bool (halts_in script p f) (λ t. t) (λ quiet. true_false (is_up script p (suc f)) (up_stays script p f quiet up) down)

-- Lemmas on the frame that `first_outside` returns.

-- The way in which a frame leaves the assumption, by its two tests.
abbrev left_by : Bool → Bool → ℕ → Option Outside
left_by a b k = if a then Some (record { frame = k; kind = kind.Halts }) else (if b then Some (record { frame = k; kind = kind.Changes }) else None)

by_kind : (a b : Bool) (k f : ℕ) → left_by a b k ≡ Some (record { frame = f; kind = kind.Halts }) → (a ≡ true) × (k ≡ f)
by_kind true b k f e = (refl, ap (λ (o : Outside). o.frame) (same_some _ _ e))
by_kind false true k f e = absurd (let clash = ap (λ (o : Outside). o.kind) (same_some _ _ e) in cc)
by_kind false false k f e = none_some _ e

-- In frame `f`, at most the allowed number of processors are down. In frame `f + 1`, more processors are down.
record Sinks (spec : Parts) (script : ScriptParts) (f : ℕ) : Type 0 where
  before : down_below script f (length spec.procs) ≤ spec.halts
  after : spec.halts < down_below script (suc f) (length spec.procs)

few_before : (spec : Parts) (script : ScriptParts) (f : ℕ) → f < suc script.frames → first_below (outside_at spec script) f ≡ None → down_below script f (length spec.procs) ≤ spec.halts
few_before spec script zero inside none = rw (start_up script (length spec.procs)) (omega arith)
few_before spec script (suc f) inside none =
    let at = below_none (outside_at spec script) (suc f) f none (omega arith) in
    let tests = two_tests (brings_too_many_down spec script f) (is_change_too_many spec script f) _ _ at in
    not_below spec.halts (down_below script (suc f) (length spec.procs))
    (ap (has_too_many_down spec script) (plus_one f) ∙ and_false (not (f == script.frames)) (has_too_many_down spec script (f + 1)) tests.0 (rw (differ_test f script.frames (λ e. omega arith)) refl))

sinks : (spec : Parts) (script : ScriptParts) (f : ℕ) → first_outside spec script ≡ Some (record { frame = f; kind = kind.Halts }) → Sinks spec script f
sinks spec script f e =
    let told = first_told (outside_at spec script) (suc script.frames) (record { frame = f; kind = kind.Halts }) e in
    let is = by_kind (brings_too_many_down spec script told.0) (is_change_too_many spec script told.0) told.0 f told.3 in
    subst (Sinks spec script) is.1 (record {
      before = few_before spec script told.0 told.1 told.2;
      after = below spec.halts (down_below script (suc told.0) (length spec.procs))
          (ap (has_too_many_down spec script) (plus_one told.0) ∙ and_right (not (told.0 == script.frames)) (has_too_many_down spec script (told.0 + 1)) is.0);
    })

who_halts : (spec : Parts) (script : ScriptParts) (f : ℕ) → Sinks spec script f → (p : ℕ) × (p < length spec.procs) × (halts_in script p f ≡ true)
who_halts spec script f s =
    let before = s.before in let after = s.after in
    let found = count_rises (λ p. not (is_up script p f)) (λ p. not (is_up script p (suc f))) (length spec.procs) (omega arith) in
    (found.0, found.1, falls script found.0 f (not-false (is_up script found.0 f) found.2) (not-true (is_up script found.0 (suc f)) found.3))

-- Without restarts, a processor that is down has halted.

abbrev has_gone : ℕ → ℕ → HaltAt → Bool
has_gone p g halt = halt.proc.0 == p && nat_lt halt.frame g

one_over : (a b r rest any : Bool) → r ≡ false → not rest ≡ any → not (not (a && b && not r) && rest) ≡ ((a && b) || any)
one_over true true r rest any e f = rw (e) refl
one_over true false r rest any e f = f
one_over false b r rest any e f = f

over_any : (script : ScriptParts) → script.restarts ≡ [] → (p g : ℕ) (halts : List HaltAt) → not (list_all (is_over script p g) halts) ≡ list_any (has_gone p g) halts
over_any script none p g [] = refl
over_any script none p g (halt ∷ halts) =
    one_over (halt.proc.0 == p) (nat_lt halt.frame g) (restarted script p halt.frame g) (list_all (is_over script p g) halts) (list_any (has_gone p g) halts)
    (ap (list_any (is_restart_between p halt.frame g)) none) (over_any script none p g halts)

down_is : (script : ScriptParts) → script.restarts ≡ [] → (p g : ℕ) → not (is_up script p g) ≡ list_any (has_gone p g) script.halts
down_is script none p g = ap not (sym (up_by_lists script p g)) ∙ over_any script none p g script.halts

-- The number of halts of a list in frames before `g`.
halts_before : List HaltAt → ℕ → ℕ
halts_before [] g = 0
halts_before (halt ∷ halts) g = halts_before halts g + bit_of (nat_lt halt.frame g)

Apart : List HaltAt → Type 0
Apart halts = (i j : ℕ) (x y : HaltAt) → i < j → slice_get halts i ≡ Some x → slice_get halts j ≡ Some y → x.proc.0 ≡ y.proc.0 → ⊥

Ascend : List HaltAt → Type 0
Ascend halts = (i j : ℕ) (x y : HaltAt) → i < j → slice_get halts i ≡ Some x → slice_get halts j ≡ Some y → x.frame ≤ y.frame

counted : (n g : ℕ) (halts : List HaltAt) → Apart halts → ((i : ℕ) (x : HaltAt) → slice_get halts i ≡ Some x → x.proc.0 < n)
    → count_below (λ p. list_any (has_gone p g) halts) n ≡ halts_before halts g
unfolding halts_before Apart
counted n g [] apart inside = count_none n
counted n g (halt ∷ halts) apart inside =
    let alone : list_any (has_gone halt.proc.0 g) halts ≡ false = not_true (list_any (has_gone halt.proc.0 g) halts) (λ t.
    (let found = any_found (has_gone halt.proc.0 g) halts t in
    apart 0 (suc found.0) halt found.1 (omega arith) refl found.2 (sym (equal found.1.proc.0 halt.proc.0 (and_left (found.1.proc.0 == halt.proc.0) _ found.3))))) in
    count_more (λ p. list_any (has_gone p g) halts) halt.proc.0 n (nat_lt halt.frame g) (inside 0 halt refl) (λ _. alone)
    ∙ ap (λ c. c + bit_of (nat_lt halt.frame g)) (counted n g halts
    (λ i j x y less first second. apart (suc i) (suc j) x y (omega arith) first second) (λ i x there. inside (suc i) x there))

all_late : (halts : List HaltAt) (g : ℕ) → ((i : ℕ) (x : HaltAt) → slice_get halts i ≡ Some x → g ≤ x.frame) → halts_before halts g ≡ 0
unfolding halts_before
all_late [] g late = refl
all_late (halt ∷ halts) g late = rw (all_late halts g (λ i x there. late (suc i) x there), not_below_test halt.frame g (late 0 halt refl)) refl

one_fewer : (b : Bool) (k c : ℕ) → suc k < c + bit_of b → k < c
one_fewer true k c more = omega arith
one_fewer false k c more = omega arith

early : (halts : List HaltAt) (g k : ℕ) → Ascend halts → k < halts_before halts g → (x : HaltAt) × (slice_get halts k ≡ Some x) × (x.frame < g)
unfolding halts_before Ascend
early [] g k ascend more = absurd (omega arith)
early (halt ∷ halts) g zero ascend more = elim (low_or_high halt.frame g) [
  | inl less ↦ (halt, refl, less)
  | inr high ↦
      let none = all_late halts g (λ i x there. let up = ascend 0 (suc i) halt x (omega arith) refl there in omega arith) in
      let here = not_below_test halt.frame g high in
      absurd (let clash = rw (none, here) at more in omega (arith, clash))
]
early (halt ∷ halts) g (suc k) ascend more =
    let fewer : k < halts_before halts g = one_fewer (nat_lt halt.frame g) k (halts_before halts g) more in
    early halts g k (λ i j x y less first second. ascend (suc i) (suc j) x y (omega arith) first second) fewer

not_earlier : (halts : List HaltAt) (g k : ℕ) (x : HaltAt) → Ascend halts → halts_before halts g ≤ k → slice_get halts k ≡ Some x → g ≤ x.frame
unfolding halts_before Ascend
not_earlier [] g k x ascend few there = absurd (let none : k < 0 = slice_get_within [] k x there in omega arith)
not_earlier (halt ∷ halts) g zero x ascend few there = elim (low_or_high halt.frame g) [
  | inl less ↦ absurd (let full = rw (below_test halt.frame g less) at few in omega (arith, full))
  | inr high ↦ subst (λ (y : HaltAt). g ≤ y.frame) (same_some halt x there) high
]
not_earlier (halt ∷ halts) g (suc k) x ascend few there = elim (low_or_high halt.frame g) [
  | inl less ↦
      let full = rw (below_test halt.frame g less) at few in
      not_earlier halts g k x (λ i j y z less first second. ascend (suc i) (suc j) y z (omega arith) first second) (omega (arith, full)) there
  | inr high ↦ (let up = ascend 0 (suc k) halt x (omega arith) refl there in omega arith)
]

ascending : (script : ScriptParts) → EachNext HaltBefore script.halts → Ascend script.halts
unfolding Ascend
ascending script ordered i j x y less first second =
    let place : i + (j - i) ≡ j = omega arith in
    later_frame script.halts ordered i (j - i) x y first (ap (slice_get script.halts) place ∙ second)

no_second : (spec : Parts) (script : ScriptParts) → Fits spec script → script.restarts ≡ [] → Apart script.halts
unfolding Apart
no_second spec script fits none i j x y less first second same =
    let again = fits.halts_again i j x y less first second same in
    let within = slice_get_within script.restarts again.place again.restart again.there in
    let empty : length script.restarts ≡ 0 = ap length none in
    absurd (omega arith)

down_counted : (spec : Parts) (script : ScriptParts) → Fits spec script → script.restarts ≡ [] → (g : ℕ) → down_below script g (length spec.procs) ≡ halts_before script.halts g
down_counted spec script fits none g =
    ap (λ s. count_below s (length spec.procs)) (λ i p. down_is script none p g i)
    ∙ counted (length spec.procs) g script.halts (no_second spec script fits none) (λ i x there. (fits.halts i x there).proc)

last_halt : (spec : Parts) (script : ScriptParts) → Fits spec script → (f : ℕ) → Sinks spec script f → script.restarts ≡ []
    → (halt : HaltAt) × (slice_get script.halts spec.halts ≡ Some halt) × (halt.frame ≡ f)
last_halt spec script fits f s none =
    let before = s.before in let after = s.after in
    let now = down_counted spec script fits none f in
    let next = down_counted spec script fits none (suc f) in
    let order = ascending script fits.halts_ordered in
    let found = early script.halts (suc f) spec.halts order (omega arith) in
    let low = not_earlier script.halts f spec.halts found.0 order (omega arith) found.1 in
    let high = found.2 in
    (found.0, found.1, omega arith)

pub too_many_down_shows_a_halt : TooManyDownShowsAHalt
too_many_down_shows_a_halt spec script fits f e =
    let s = sinks spec script f e in (who_halts spec script f s, last_halt spec script fits f s)
