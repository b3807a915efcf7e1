-- The areas that the laws define lie in the ranges of the tables.
use Rattle.std.proofs.Common.{◌≡◌, refl, sym, subst, ℕ, zero, suc, ℤ, pos, ◌<◌, ◌+◌, ◌-◌, ◌==◌, eq-eqb, Bool, true, false, if◌then◌else◌, arith}
use Rattle.std.specs.Prelude.{List}
use Rattle.std.proofs.lemmas.Int.{ints}
use Rattle.scram_types.specs.declared.ranges.Range.{Range}
use Rattle.scram_types.specs.declared.orders.Order.TheVariants.{Run, Hold, Halt, Prepare, Init, Off}
use Rattle.app_model.specs.declared.seen.Seen.{Seen}
use Rattle.scram_types.specs.Numbers.{word}
use Rattle.scram_types.specs.Ranges.{limit}
use Rattle.scram_types.proofs.Clamping.{IsInRange, in_clamp}
use Rattle.kind_table.specs.Kinds.{kind_variable}
use Rattle.kind_table.specs.Ranges.{initialised_range, mode_range, is_moving}
use Rattle.app_model.specs.Reads.{own_word, altitude, heading}
use Rattle.app_model.specs.Orders.{halted_word, halted, initialised_word, initialised, initialising, kept_area}
use Rattle.kind_table.specs.Bounds.{ends, during, after_halt, after_init}
use Rattle.app_model.specs.Areas.{Between, AreaLies, LawLiesDuring, LawLiesAfterHalt, LawLiesAfterInit, StartLiesAfterInit}
use Rattle.app_model.specs.Law.{ran}
use Rattle.app_model.specs.Starts.{start_of}
use Rattle.kind_table.proofs.EachKind.{each_kind}
use Rattle.app_model.proofs.Within.{Within, each, in_choice, in_either, in_zero, in_number, in_faded, in_faded_last, in_own}
use Rattle.app_model.proofs.Tables.{wider, init_narrows, during_is, after_init_is, status_stays}
use Rattle.app_model.proofs.Runs.{ran_within, ran_status}

-- Lemmas on the orders other than `Run`.
kept_within : (kind : ℕ) (status : ℤ) (seen : Seen) → Within (mode_range kind seen.mode.0) (kept_area kind status seen)
unfolding kept_area word
kept_within kind status seen = let at = in_own kind seen in
    each (λ i. IsInRange (mode_range kind seen.mode.0 i) (word (kept_area kind status seen) i)) (at 1) (at 2) (at 3) (at 4) (at 5) (at 6) (at 7)

in_halted : (kind left : ℕ) (seen : Seen) (i : ℕ) → IsInRange (mode_range kind seen.mode.0 i) (halted_word kind left seen i)
unfolding halted_word
in_halted kind left seen i = in_either (is_moving kind i) _ _ _ (in_faded _ _ left (in_own kind seen i)) (in_own kind seen i)

halted_within : (kind left : ℕ) (seen : Seen) → Within (mode_range kind seen.mode.0) (halted kind left seen)
unfolding halted word
halted_within kind left seen = let at = in_halted kind left seen in
    each (λ i. IsInRange (mode_range kind seen.mode.0 i) (word (halted kind left seen) i)) (at 1) (at 2) (at 3) (at 4) (at 5) (at 6) (at 7)

-- The range of word `i` after the last frame of a halt phase.
abbrev rest : ℕ → ℕ → ℕ → Range
rest kind mode i = if is_moving kind i then limit 0 0 else mode_range kind mode i

in_halted_last : (kind : ℕ) (seen : Seen) (i : ℕ) → IsInRange (rest kind seen.mode.0 i) (halted_word kind 1 seen i)
unfolding halted_word
in_halted_last kind seen i = in_choice (is_moving kind i) _ _ _ _ (in_faded_last (own_word kind seen i)) (in_own kind seen i)

halted_last : (kind : ℕ) (seen : Seen) → Within (rest kind seen.mode.0) (halted kind 1 seen)
unfolding halted word
halted_last kind seen = let at = in_halted_last kind seen in
    each (λ i. IsInRange (rest kind seen.mode.0 i) (word (halted kind 1 seen) i)) (at 1) (at 2) (at 3) (at 4) (at 5) (at 6) (at 7)

autopilot_begins : (seen : Seen) → Within (initialised_range 0 seen.mode.0) (initialised 0 seen)
unfolding initialised word initialised_word initialised_range altitude heading kind_variable
autopilot_begins seen = each (λ i. IsInRange (initialised_range 0 seen.mode.0 i) (word (initialised 0 seen) i))
    (in_clamp _ _) (in_clamp _ _) (in_clamp _ _) (in_clamp _ _) (in_clamp _ _) (in_clamp _ _) (in_clamp _ _)

-- For every kind other than the autopilot, each word at the end of an init phase lies in its range after an init
-- phase.
in_initialised : (kind : ℕ) (seen : Seen) (i : ℕ) → (kind == 0) ≡ false → IsInRange (initialised_range kind seen.mode.0 i) (initialised_word kind seen i)
unfolding initialised_word
in_initialised kind seen i e = rw e (in_clamp _ _)

begins : (kind : ℕ) (seen : Seen) → (kind == 0) ≡ false → Within (initialised_range kind seen.mode.0) (initialised kind seen)
unfolding initialised word
begins kind seen e = let at : (i : ℕ) → IsInRange (initialised_range kind seen.mode.0 i) (initialised_word kind seen i) = λ i. in_initialised kind seen i e in
    each (λ i. IsInRange (initialised_range kind seen.mode.0 i) (word (initialised kind seen) i)) (at 1) (at 2) (at 3) (at 4) (at 5) (at 6) (at 7)

initialised_within : (kind : ℕ) → kind < 6 → (seen : Seen) → Within (initialised_range kind seen.mode.0) (initialised kind seen)
initialised_within = each_kind (λ kind. (seen : Seen) → Within (initialised_range kind seen.mode.0) (initialised kind seen))
    autopilot_begins (λ seen. begins 1 seen refl) (λ seen. begins 2 seen refl) (λ seen. begins 3 seen refl) (λ seen. begins 4 seen refl) (λ seen. begins 5 seen refl)

initialising_within : (kind : ℕ) (last : Bool) (seen : Seen) → kind < 6 → Within (mode_range kind seen.mode.0) (initialising kind last seen)
initialising_within kind true seen k = λ i l h. wider _ _ _ (init_narrows kind k seen.mode.0 i l h) (initialised_within kind k seen i l h)
initialising_within kind false seen k = kept_within kind (pos 4) seen

initialising_status : (kind : ℕ) (last : Bool) (seen : Seen) → word (initialising kind last seen) 0 ≡ pos 4
unfolding word initialised kept_area
initialising_status kind true seen = refl
initialising_status kind false seen = refl

-- Lemmas on areas whose status and whose other words lie in ranges.
between : (r : Range) (x : ℤ) → IsInRange r x → Between (ends r) x
between r x p = record { least = p.least; greatest = p.greatest }

area_lies : (range : ℕ → ℤ × ℤ) (r : ℕ → Range) (area : List ℤ) (status : ℕ) → range 0 ≡ (pos status, pos status) → word area 0 ≡ pos status
    → ((i : ℕ) → 0 < i → i < 8 → range i ≡ ends (r i)) → Within r area → AreaLies range area
area_lies range r area status s w e p zero l = rw (s, w) (record { least = omega (arith, ints); greatest = omega (arith, ints) })
area_lies range r area status s w e p (suc i) l = rw (e (suc i) (omega arith) l) (between _ _ (p (suc i) (omega arith) l))

during_status : (kind status mode : ℕ) → during kind status mode 0 ≡ (pos status, pos status)
unfolding during
during_status kind status mode = refl

lies_during : (kind status mode : ℕ) (area : List ℤ) → word area 0 ≡ pos status → Within (mode_range kind mode) area → AreaLies (during kind status mode) area
lies_during kind status mode area w p = area_lies (during kind status mode) (mode_range kind mode) area status (during_status kind status mode) w (during_is kind status mode) p

pub law_lies_during : LawLiesDuring
unfolding word halted kept_area
law_lies_during kind status Run seen k e =
    let s = ran_status kind k seen in
    lies_during kind status seen.mode.0 (ran kind seen) (cc) (ran_within kind k seen)
law_lies_during kind status (Halt j n) seen k e = lies_during kind status seen.mode.0 (halted kind (n - j) seen) (cc) (halted_within kind (n - j) seen)
law_lies_during kind status Hold seen k e = cc
law_lies_during kind status (Prepare j n) seen k e = lies_during kind status seen.mode.0 (kept_area kind (pos 3) seen) (cc) (kept_within kind (pos 3) seen)
law_lies_during kind status (Init j n) seen k e =
    let s = initialising_status kind (j + 1 == n) seen in
    lies_during kind status seen.mode.0 (initialising kind (j + 1 == n) seen) (cc) (initialising_within kind (j + 1 == n) seen k)
law_lies_during kind status Off seen k e = cc

after_halt_status : (kind mode : ℕ) → kind < 6 → after_halt kind mode 0 ≡ (pos 2, pos 2)
unfolding after_halt during
after_halt_status kind mode k = rw (status_stays kind k) refl

after_halt_choice : (b : Bool) (range : ℤ × ℤ) (r : Range) → range ≡ ends r → (if b then (pos 0, pos 0) else range) ≡ ends (if b then limit 0 0 else r)
after_halt_choice true range r e = refl
after_halt_choice false range r e = e

after_halt_is : (kind mode i : ℕ) → 0 < i → i < 8 → after_halt kind mode i ≡ ends (rest kind mode i)
unfolding after_halt
after_halt_is kind mode i l h = after_halt_choice (is_moving kind i) (during kind 2 mode i) (mode_range kind mode i) (during_is kind 2 mode i l h)

halted_lies : (kind : ℕ) (seen : Seen) → kind < 6 → AreaLies (after_halt kind seen.mode.0) (halted kind 1 seen)
unfolding halted word
halted_lies kind seen k = area_lies (after_halt kind seen.mode.0) (rest kind seen.mode.0) (halted kind 1 seen) 2 (after_halt_status kind seen.mode.0 k) refl (after_halt_is kind seen.mode.0) (halted_last kind seen)

pub law_lies_after_halt : LawLiesAfterHalt
law_lies_after_halt kind j n seen k e = let one : n - j ≡ 1 = omega arith in
    subst (λ (left : ℕ). AreaLies (after_halt kind seen.mode.0) (halted kind left seen)) (sym one) (halted_lies kind seen k)

after_init_status : (kind mode : ℕ) → after_init kind mode 0 ≡ (pos 4, pos 4)
unfolding after_init
after_init_status kind mode = refl

lies_after_init : (kind mode : ℕ) (area : List ℤ) → word area 0 ≡ pos 4 → Within (initialised_range kind mode) area → AreaLies (after_init kind mode) area
lies_after_init kind mode area w p = area_lies (after_init kind mode) (initialised_range kind mode) area 4 (after_init_status kind mode) w (after_init_is kind mode) p

pub law_lies_after_init : LawLiesAfterInit
unfolding initialised word
law_lies_after_init kind j n seen k e = rw (eq-eqb (j + 1) n e) (lies_after_init kind seen.mode.0 (initialised kind seen) refl (initialised_within kind k seen))

-- Lemmas on the areas that applications begin with.
start_within : (kind : ℕ) → kind < 6 → (mode : ℕ) → Within (initialised_range kind mode) (start_of kind)
unfolding word initialised_range mode_range kind_variable
start_within = each_kind (λ kind. (mode : ℕ) → Within (initialised_range kind mode) (start_of kind))
    (λ mode. each (λ i. IsInRange (initialised_range 0 mode i) (word (start_of 0) i))
    (in_zero _) (in_zero _) (in_number 40000 5000 (omega arith)) (in_number 3599 900 (omega arith)) (in_zero _) (in_zero _) (in_zero _))
    (λ mode. each (λ i. IsInRange (initialised_range 1 mode i) (word (start_of 1) i))
    (in_zero _) (in_zero _) (in_zero _) (in_zero _) (in_zero _) (in_zero _) (in_zero _))
    (λ mode. each (λ i. IsInRange (initialised_range 2 mode i) (word (start_of 2) i))
    (in_number 10000 8000 (omega arith)) (in_zero _) (in_zero _) (in_zero _) (in_zero _) (in_zero _) (in_zero _))
    (λ mode. each (λ i. IsInRange (initialised_range 3 mode i) (word (start_of 3) i))
    (in_zero _) (in_zero _) (in_zero _) (in_zero _) (in_zero _) (in_zero _) (in_zero _))
    (λ mode. each (λ i. IsInRange (initialised_range 4 mode i) (word (start_of 4) i))
    (in_zero _) (in_zero _) (in_zero _) (in_zero _) (in_zero _) (in_zero _) (in_zero _))
    (λ mode. each (λ i. IsInRange (initialised_range 5 mode i) (word (start_of 5) i))
    (in_zero _) (in_zero _) (in_zero _) (in_zero _) (in_zero _) (in_zero _) (in_zero _))

start_status : (kind : ℕ) → kind < 6 → word (start_of kind) 0 ≡ pos 4
unfolding word kind_variable
start_status = each_kind (λ kind. word (start_of kind) 0 ≡ pos 4) refl refl refl refl refl refl

pub start_lies_after_init : StartLiesAfterInit
start_lies_after_init kind mode k = lies_after_init kind mode (start_of kind) (start_status kind k) (start_within kind k mode)
