-- The ranges after a halt or an init phase lie within the ranges during the phase, and the sane ranges contain all
-- ranges of a word.
use Rattle.std.proofs.Common.{◌≡◌, ◌≤◌, ℕ, zero, suc, ℤ, pos, ◌<◌, ◌==◌, Bool, true, false, if◌then◌else◌, arith, refl}
use Rattle.std.proofs.lemmas.Int.{ints}
use Rattle.scram_types.specs.declared.ranges.Range.{Range}
use Rattle.scram_types.specs.Ranges.{limit}
use Rattle.scram_types.proofs.Clamping.{IsInRange}
use Rattle.kind_table.specs.Kinds.{kind_variable}
use Rattle.kind_table.specs.Ranges.{initialised_range, widest_mode, sane_range, mode_range, is_moving}
use Rattle.kind_table.specs.Bounds.{ends, during, after_halt, after_init, sane}
use Rattle.app_model.specs.Areas.{Inside, AllTablesNarrow}
use Rattle.kind_table.proofs.EachKind.{each_kind}
use Rattle.app_model.proofs.Within.{each}

pub record Narrower (r s : Range) : Type 0 where
  pub below : r.below ≤ s.below
  pub above : r.above ≤ s.above

same : (r : Range) → Narrower r r
same r = record { below = omega arith; above = omega arith }

both : (b : Bool) (r r' s s' : Range) → Narrower r s → Narrower r' s' → Narrower (if b then r else r') (if b then s else s')
both true r r' s s' p q = p
both false r r' s s' p q = q

into : (b : Bool) (r s s' : Range) → Narrower r s → Narrower r s' → Narrower r (if b then s else s')
into true r s s' p q = p
into false r s s' p q = q

from : (b : Bool) (r r' s : Range) → Narrower r s → Narrower r' s → Narrower (if b then r else r') s
from true r r' s p q = p
from false r r' s p q = q

numbers : (a b c d : ℕ) → a ≤ c → b ≤ d → Narrower (limit a b) (limit c d)
numbers a b c d p q = record { below = p; above = q }

zeros : (r : Range) → Narrower (limit 0 0) r
zeros r = record { below = omega arith; above = omega arith }

pub wider : (r s : Range) (x : ℤ) → Narrower r s → IsInRange r x → IsInRange s x
wider r s x n p = record { least = omega (arith, ints, p.least, n.below); greatest = omega (arith, ints, p.greatest, n.above) }

-- The range of each word other than the status (word 0) after an init phase lies in its range in the same mode.
abbrev pub InitNarrows : ℕ → Type 0
InitNarrows kind = (mode i : ℕ) → 0 < i → i < 8 → Narrower (initialised_range kind mode i) (mode_range kind mode i)

autopilot_init : InitNarrows 0
unfolding initialised_range mode_range kind_variable
autopilot_init mode = each (λ i. Narrower (initialised_range 0 mode i) (mode_range 0 mode i))
    (zeros _) (zeros _) (same _) (same _) (zeros _) (same _) (same _)

flight_control_init : InitNarrows 1
unfolding initialised_range mode_range kind_variable
flight_control_init mode = each (λ i. Narrower (initialised_range 1 mode i) (mode_range 1 mode i))
    (both (mode == 1) _ _ _ _ (numbers 50 50 100 100 (omega arith) (omega arith)) (same _))
    (both (mode == 1) _ _ _ _ (numbers 50 50 150 150 (omega arith) (omega arith)) (numbers 100 100 300 300 (omega arith) (omega arith)))
    (same _) (same _) (same _) (same _) (same _)

power_monitor_init : InitNarrows 2
unfolding initialised_range mode_range kind_variable
power_monitor_init mode = each (λ i. Narrower (initialised_range 2 mode i) (mode_range 2 mode i))
    (same _) (same _) (same _) (same _) (same _) (same _) (same _)

navigator_init : InitNarrows 3
unfolding initialised_range mode_range kind_variable
navigator_init mode = each (λ i. Narrower (initialised_range 3 mode i) (mode_range 3 mode i))
    (zeros _) (zeros _) (same _) (same _) (same _) (same _) (same _)

data_link_init : InitNarrows 4
unfolding initialised_range mode_range kind_variable
data_link_init mode = each (λ i. Narrower (initialised_range 4 mode i) (mode_range 4 mode i))
    (same _) (same _) (same _) (same _) (same _) (same _) (same _)

task_init : InitNarrows 5
unfolding initialised_range mode_range kind_variable
task_init mode = each (λ i. Narrower (initialised_range 5 mode i) (mode_range 5 mode i))
    (same _) (same _) (same _) (same _) (same _) (same _) (same _)

pub init_narrows : (kind : ℕ) → kind < 6 → InitNarrows kind
init_narrows = each_kind InitNarrows autopilot_init flight_control_init power_monitor_init navigator_init data_link_init task_init

-- The range of each word in any mode lies in its range in the widest mode of the kind.
abbrev WidestHolds : ℕ → Type 0
WidestHolds kind = (mode i : ℕ) → 0 < i → i < 8 → Narrower (mode_range kind mode i) (mode_range kind (widest_mode kind) i)

autopilot_widest : WidestHolds 0
unfolding mode_range widest_mode kind_variable
autopilot_widest mode = each (λ i. Narrower (mode_range 0 mode i) (mode_range 0 (widest_mode 0) i))
    (from (mode == 1) _ _ _ (same _) (numbers 80 80 100 100 (omega arith) (omega arith)))
    (from (mode == 1) _ _ _ (same _) (zeros _))
    (same _) (same _) (same _) (same _) (same _)

flight_control_widest : WidestHolds 1
unfolding mode_range widest_mode kind_variable
flight_control_widest mode = each (λ i. Narrower (mode_range 1 mode i) (mode_range 1 (widest_mode 1) i))
    (from (mode == 1) _ _ _ (numbers 100 100 200 200 (omega arith) (omega arith)) (same _))
    (from (mode == 1) _ _ _ (numbers 150 150 300 300 (omega arith) (omega arith)) (same _))
    (same _) (same _) (same _) (same _) (same _)

power_monitor_widest : WidestHolds 2
unfolding mode_range widest_mode kind_variable
power_monitor_widest mode = each (λ i. Narrower (mode_range 2 mode i) (mode_range 2 (widest_mode 2) i))
    (same _) (same _)
    (from (mode == 1) _ _ _ (same _) (from (mode == 2) _ _ _ (numbers 0 60 0 100 (omega arith) (omega arith)) (numbers 0 20 0 100 (omega arith) (omega arith))))
    (same _) (same _) (same _) (same _)

navigator_widest : WidestHolds 3
unfolding mode_range widest_mode kind_variable
navigator_widest mode = each (λ i. Narrower (mode_range 3 mode i) (mode_range 3 (widest_mode 3) i))
    (same _)
    (from (mode == 1) _ _ _ (same _) (zeros _))
    (same _) (same _) (same _) (same _) (same _)

data_link_widest : WidestHolds 4
unfolding mode_range widest_mode kind_variable
data_link_widest mode = each (λ i. Narrower (mode_range 4 mode i) (mode_range 4 (widest_mode 4) i))
    (same _) (same _)
    (from (mode == 1) _ _ _ (same _) (numbers 0 1 0 4 (omega arith) (omega arith)))
    (same _) (same _) (same _) (same _)

task_widest : WidestHolds 5
unfolding mode_range widest_mode kind_variable
task_widest mode = each (λ i. Narrower (mode_range 5 mode i) (mode_range 5 (widest_mode 5) i))
    (same _) (same _) (same _) (same _) (same _) (same _) (same _)

widest_holds : (kind : ℕ) → kind < 6 → WidestHolds kind
widest_holds = each_kind WidestHolds autopilot_widest flight_control_widest power_monitor_widest navigator_widest data_link_widest task_widest

-- If range `r` is narrower than range `s`, the minimum and the maximum of `r` lie within those of `s`.
inside : (r s : Range) → Narrower r s → Inside (ends r) (ends s)
inside r s n = record { least = omega (arith, ints, n.below); greatest = omega (arith, ints, n.above) }

inside_same : (range : ℤ × ℤ) → Inside range range
inside_same range = record { least = omega (arith, ints); greatest = omega (arith, ints) }

inside_choice : (b : Bool) (range : ℤ × ℤ) (r : Range) → range ≡ ends r → Inside (if b then (pos 0, pos 0) else range) range
inside_choice true range r e = rw e (record { least = omega (arith, ints); greatest = omega (arith, ints) })
inside_choice false range r e = inside_same range

pub during_is : (kind status mode i : ℕ) → 0 < i → i < 8 → during kind status mode i ≡ ends (mode_range kind mode i)
unfolding during
during_is kind status mode = each (λ i. during kind status mode i ≡ ends (mode_range kind mode i)) refl refl refl refl refl refl refl

pub after_init_is : (kind mode i : ℕ) → 0 < i → i < 8 → after_init kind mode i ≡ ends (initialised_range kind mode i)
unfolding after_init
after_init_is kind mode = each (λ i. after_init kind mode i ≡ ends (initialised_range kind mode i)) refl refl refl refl refl refl refl

sane_is : (kind i : ℕ) → 0 < i → i < 8 → sane kind i ≡ ends (mode_range kind (widest_mode kind) i)
unfolding sane sane_range
sane_is kind = each (λ i. sane kind i ≡ ends (mode_range kind (widest_mode kind) i)) refl refl refl refl refl refl refl

-- The status is not a variable that a halt brings to 0.
pub status_stays : (kind : ℕ) → kind < 6 → is_moving kind 0 ≡ false
unfolding is_moving kind_variable
status_stays = each_kind (λ kind. is_moving kind 0 ≡ false) refl refl refl refl refl refl

halt_inside : (kind mode i : ℕ) → kind < 6 → i < 8 → Inside (after_halt kind mode i) (during kind 2 mode i)
unfolding after_halt
halt_inside kind mode zero k l = rw (status_stays kind k) (inside_same (during kind 2 mode 0))
halt_inside kind mode (suc i) k l = inside_choice (is_moving kind (suc i)) (during kind 2 mode (suc i)) (mode_range kind mode (suc i)) (during_is kind 2 mode (suc i) (omega arith) l)

init_inside : (kind mode i : ℕ) → kind < 6 → i < 8 → Inside (after_init kind mode i) (during kind 4 mode i)
unfolding after_init during
init_inside kind mode zero k l = record { least = omega (arith, ints); greatest = omega (arith, ints) }
init_inside kind mode (suc i) k l = rw (after_init_is kind mode (suc i) (omega arith) l, during_is kind 4 mode (suc i) (omega arith) l) (inside _ _ (init_narrows kind k mode (suc i) (omega arith) l))

sane_status : (kind : ℕ) → kind < 6 → sane kind 0 ≡ (pos 0, pos 4)
unfolding sane sane_range mode_range widest_mode kind_variable
sane_status = each_kind (λ kind. sane kind 0 ≡ (pos 0, pos 4)) refl refl refl refl refl refl

sane_inside : (kind mode i status : ℕ) → kind < 6 → i < 8 → status ≤ 4 → Inside (during kind status mode i) (sane kind i)
unfolding during
sane_inside kind mode zero status k l a = rw (sane_status kind k) (record { least = omega (arith, ints); greatest = omega (arith, ints) })
sane_inside kind mode (suc i) status k l a = rw (during_is kind status mode (suc i) (omega arith) l, sane_is kind (suc i) (omega arith) l) (inside _ _ (widest_holds kind k mode (suc i) (omega arith) l))

pub tables_narrow : AllTablesNarrow
tables_narrow kind mode i k l = record {
  halt = halt_inside kind mode i k l;
  init = init_inside kind mode i k l;
  sane = λ status a. sane_inside kind mode i status k l a;
}
