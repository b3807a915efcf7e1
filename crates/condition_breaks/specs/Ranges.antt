-- The ranges that invariants and preconditions have to contain.
use Rattle.std.specs.Prelude.{ℕ, ℤ, pos, Bool, not, ◌&&◌, ◌==◌, List, [], ◌∷◌, length, Option, Some, None, if◌then◌else◌}
use Rattle.std.specs.Int.{int_max, int_min}
use Rattle.scram_types.specs.Lookups.{conf_id, kind_of_app, place_of}
use Rattle.scram_types.specs.Specification.{Parts}
use Rattle.scram_types.specs.declared.specification.Invariant.{Invariant}
use Rattle.scram_types.specs.declared.specification.Place.{Place}
use Rattle.scram_types.specs.declared.specification.Precondition.{Precondition}
use Rattle.kind_table.specs.Bounds.{after_init, during}
use Rattle.choice_table.specs.Choices.{has_source}
use Rattle.coverage_check.specs.Holding.{holds_range}
use Rattle.coverage_check.specs.Timing.{is_target}
use Rattle.flight_facts.specs.declared.extremes.Extremes.{Extremes}
use Rattle.condition_breaks.specs.declared.breaks.Way.{Way}
use Rattle.condition_breaks.specs.Lists.{gathered_below, one_if}

-- The way from configuration `i` to configuration `j`.
abbrev pub way_of : ℕ → ℕ → Way
way_of i j = record { from = conf_id i; to = conf_id j }

-- Whether configuration `j` is a possible target of configuration `i` and differs from `i`.
abbrev pub is_other_target : Parts → ℕ → ℕ → Bool
is_other_target spec i j = is_target spec (conf_id i) j && not (i == j)

-- The way from configuration `i` to configuration `j` if `j` is a possible target of `i` and differs from `i`, or the
-- empty list.
abbrev pub way_to : Parts → ℕ → ℕ → List Way
way_to spec i j = one_if (is_other_target spec i j) (way_of i j)

-- The ways from configuration `i` to its other possible targets, by target.
abbrev pub other_ways : Parts → ℕ → List Way
other_ways spec i = gathered_below (way_to spec i) (length spec.confs)

-- The way from configuration `i` to itself, followed by the ways to its other possible targets.
abbrev pub ways_from : Parts → ℕ → List Way
ways_from spec i = way_of i i ∷ other_ways spec i

-- The ways from all configurations, by source.
abbrev pub all_ways : Parts → List Way
all_ways spec = gathered_below (ways_from spec) (length spec.confs)

-- The interval from the first number to the second.
abbrev pub interval : ℤ × ℤ → Extremes
interval ends = record { least = ends.0; greatest = ends.1 }

-- The range of the variable of invariant `inv` in a place, over all acts in the place's mode. The range is from 0 to
-- 0 if the application is off. Otherwise it is from 1 to 4 if the variable is the status.
abbrev pub range_asked : Parts → Invariant → Option Place → ℤ × ℤ
range_asked spec inv None = (pos 0, pos 0)
range_asked spec inv (Some place) = if inv.variable == 0 then (pos 1, pos 4) else during (kind_of_app spec inv.app.0) 1 place.mode.0 inv.variable

-- The range of the variable of invariant `inv` on a way: the range in the configuration at the end of the way.
abbrev pub range_on : Parts → Invariant → Way → ℤ × ℤ
range_on spec inv taken = range_asked spec inv (place_of spec taken.to inv.app.0)

-- Whether invariant `inv` applies to the source of a way and does not contain the range on the way.
abbrev pub is_unheld : Parts → Invariant → Way → Bool
is_unheld spec inv taken = has_source inv.from taken.from && not (holds_range inv.least inv.greatest (range_on spec inv taken))

-- The first way whose range invariant `inv` has to contain and does not contain, or `None` if there is no such way.
abbrev pub first_unheld : Parts → Invariant → List Way → Option Way
first_unheld spec inv [] = None
first_unheld spec inv (taken ∷ ways) = if is_unheld spec inv taken then Some taken else first_unheld spec inv ways

-- The smallest interval that contains the intervals `held` and `range`.
abbrev pub hull : Extremes → ℤ × ℤ → Extremes
hull held range = record { least = int_min held.least range.0; greatest = int_max held.greatest range.1 }

-- The smallest interval that contains the interval `held` and, if invariant `inv` applies to the source of the way
-- `taken`, the range on this way.
abbrev pub hull_on : Parts → Invariant → Extremes → Way → Extremes
hull_on spec inv held taken = if has_source inv.from taken.from then hull held (range_on spec inv taken) else held

-- The smallest interval that contains the interval `held` and the range on each way to whose source invariant `inv`
-- applies.
abbrev pub hull_of : Parts → Invariant → Extremes → List Way → Extremes
hull_of spec inv held [] = held
hull_of spec inv held (taken ∷ ways) = hull_of spec inv (hull_on spec inv held taken) ways

-- The range that precondition `pre` has to contain in a place: the range of its variable after the init phase, or the
-- range from 0 to 0 if the application is off.
abbrev pub range_entering : Parts → Precondition → Option Place → ℤ × ℤ
range_entering spec pre None = (pos 0, pos 0)
range_entering spec pre (Some place) = after_init (kind_of_app spec pre.app.0) place.mode.0 pre.variable
