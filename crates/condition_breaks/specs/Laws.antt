-- Laws of the places at which conditions do not hold.
use Rattle.std.specs.Prelude.{◌≡◌, ℕ, ℤ, ◌≤ℤ◌, true, ◌==◌, List, slice_get, Option, Some, None, option_map, if◌then◌else◌}
use Rattle.std.specs.Option.{option_map_or}
use Rattle.scram_types.specs.declared.specification.Invariant.{Invariant}
use Rattle.scram_types.specs.declared.specification.Precondition.{Precondition}
use Rattle.scram_types.specs.Lookups.{opening_env}
use Rattle.scram_types.specs.Specification.{Each, IsSpec, Parts}
use Rattle.choice_table.specs.Choices.{choose, has_source}
use Rattle.choice_table.specs.Numbering.{states}
use Rattle.coverage_check.specs.Acceptance.{IsBroken, first_refusal}
use Rattle.coverage_check.specs.Choosing.{number_of_requirement, requirement_refusal, start_refusal, target_shown}
use Rattle.coverage_check.specs.Demands.{demand_refusal}
use Rattle.coverage_check.specs.Form.{load_refusal, need_refusal, shape_refusal, state_refusal}
use Rattle.coverage_check.specs.Holding.{holds_range, invariant_refusal, precondition_refusal}
use Rattle.coverage_check.specs.Showing.{shown_at, shown_in, shown_nowhere}
use Rattle.coverage_check.specs.Timing.{bound_refusal, greatest_bound, least, window_refusal}
use Rattle.coverage_check.specs.declared.choosing.Requirement.TheVariants as requirement
use Rattle.coverage_check.specs.declared.shown.Shown.{Shown}
use Rattle.coverage_check.specs.declared.shown.Other.TheVariants as other
use Rattle.flight_facts.specs.declared.extremes.Extremes.{Extremes}
use Rattle.condition_breaks.specs.declared.breaks.Break.{Break}
use Rattle.condition_breaks.specs.declared.breaks.Break.TheVariants as broken
use Rattle.condition_breaks.specs.declared.breaks.Unheld.{Unheld}
use Rattle.condition_breaks.specs.declared.breaks.Way.{Way}
use Rattle.condition_breaks.specs.Breaks.{breaks, unheld_at}
use Rattle.condition_breaks.specs.Ranges.{all_ways, range_on}

-- The refusal for precondition `k`, which contains the precondition's configuration if the precondition exists.
abbrev pub missed_shown : Parts → ℕ → Shown
missed_shown spec k =
    option_map_or (λ (pre : Precondition). shown_at 12 pre.conf.0 (other.Item k)) (slice_get spec.preconditions k) (shown_nowhere 12 (other.Item k))

-- The refusal for a place at which a condition does not hold.
abbrev pub shown_of : Parts → Break → Shown
shown_of spec (broken.NeedOff c a b) = shown_at 1 c.0 (other.App a)
shown_of spec broken.ManyStates = shown_nowhere 2 (other.Count (states spec))
shown_of spec (broken.NothingOn c) = shown_at 3 c.0 other.Nothing
shown_of spec (broken.SameAgain c d) = shown_at 3 c.0 (other.Conf d)
shown_of spec (broken.Overloaded c p) = shown_at 4 c.0 (other.Proc p)
shown_of spec (broken.Unmet asked c v) = shown_in (number_of_requirement asked) c.0 v (target_shown spec asked c v)
shown_of spec broken.StartLeft = shown_in 8 spec.start.0 (opening_env spec) (other.Conf (choose spec spec.start (opening_env spec)))
shown_of spec (broken.BoundLacking i j) = shown_at 9 i.0 (other.Least j (least spec i j))
shown_of spec broken.WindowShort = shown_nowhere 10 (other.Count (greatest_bound spec.bounds))
shown_of spec (broken.Unheld found) = shown_at 11 found.way.from.0 (other.Item found.invariant)
shown_of spec (broken.PreconditionMissed k) = missed_shown spec k
shown_of spec (broken.DemandMissed c k v) = shown_in 13 c.0 v (other.Demand k)

-- The refusal for the first place of a list, or `None` if the list is empty.
abbrev pub first_shown : Parts → List Break → Option Shown
first_shown spec found = option_map (shown_of spec) (slice_get found 0)

-- The refusal by the condition of this number, or `None` if the condition holds or the number is not 9 to 13.
abbrev pub later_refusal_by : Parts → ℕ → Option Shown
later_refusal_by spec condition =
    if condition == 9 then bound_refusal spec else
    if condition == 10 then window_refusal spec else
    if condition == 11 then invariant_refusal spec else
    if condition == 12 then precondition_refusal spec else
    if condition == 13 then demand_refusal spec else None

-- The refusal by the condition of this number, or `None` if the condition holds or the number is not 5 to 13.
abbrev pub choice_refusal_by : Parts → ℕ → Option Shown
choice_refusal_by spec condition =
    if condition == 5 then requirement_refusal spec requirement.HasRule else
    if condition == 6 then requirement_refusal spec requirement.CanRun else
    if condition == 7 then requirement_refusal spec requirement.Stays else
    if condition == 8 then start_refusal spec else later_refusal_by spec condition

-- The refusal by the condition of this number, or `None` if the condition holds or the number is not 1 to 13.
abbrev pub refusal_of_condition : Parts → ℕ → Option Shown
refusal_of_condition spec condition =
    if condition == 1 then need_refusal spec else
    if condition == 2 then state_refusal spec else
    if condition == 3 then shape_refusal spec else
    if condition == 4 then load_refusal spec else choice_refusal_by spec condition

-- The refusal of each condition equals the refusal for the first place in the condition's list. If the list is empty,
-- there is no refusal.
abbrev pub FirstIsShown : Type 0
FirstIsShown = (spec : Parts) → IsSpec spec → (condition : ℕ) → first_shown spec (breaks spec condition) ≡ refusal_of_condition spec condition

-- The refusal of a specification equals the refusal for the first place in a list. The list is that of the condition
-- that the refusal names.
abbrev pub RefusalIsFirst : Type 0
RefusalIsFirst = (spec : Parts) (shown : Shown) → IsSpec spec → first_refusal spec ≡ Some shown → first_shown spec (breaks spec shown.condition) ≡ Some shown

-- At each place in the list of a condition, the condition does not hold.
abbrev pub EachIsBroken : Type 0
EachIsBroken = (spec : Parts) → IsSpec spec → (condition : ℕ) → Each (λ (found : Break). IsBroken spec (shown_of spec found)) (breaks spec condition)

-- The interval from `low` to `high` contains each range that invariant `inv` has to contain.
abbrev pub HoldsAsked : Parts → Invariant → ℤ → ℤ → Type 0
HoldsAsked spec inv low high =
    Each (λ (taken : Way). has_source inv.from taken.from ≡ true → holds_range low high (range_on spec inv taken) ≡ true) (all_ways spec)

-- The interval `needed` contains each range that invariant `inv` has to contain, and lies within every other such
-- interval.
pub record IsLeastInterval (spec : Parts) (inv : Invariant) (needed : Extremes) : Type 0 where
  pub holds : HoldsAsked spec inv needed.least needed.greatest
  pub least : (low high : ℤ) → HoldsAsked spec inv low high → (low ≤ℤ needed.least) × (needed.greatest ≤ℤ high)

-- The interval in the place of an invariant is the smallest that contains all ranges that the invariant has to
-- contain.
abbrev pub NeededIsLeast : Type 0
NeededIsLeast = (spec : Parts) (k : ℕ) (inv : Invariant) (found : Unheld) → slice_get spec.invariants k ≡ Some inv
    → unheld_at spec k ≡ Some (broken.Unheld found) → IsLeastInterval spec inv found.needed
