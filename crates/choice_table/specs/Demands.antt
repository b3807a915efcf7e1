-- The demands on the choice table.
use Rattle.std.specs.Prelude.{ℕ, Bool, true, false, not, ◌&&◌, ◌||◌, ◌==◌, List, length, Option, Some, None, bit_and}
use Rattle.std.specs.List.{list_all, list_any}
use Rattle.scram_types.specs.Bits.{has_bit}
use Rattle.scram_types.specs.declared.ids.ConfId.{ConfId}
use Rattle.scram_types.specs.declared.ids.Mode.{Mode}
use Rattle.scram_types.specs.declared.rows.Env.{Env}
use Rattle.scram_types.specs.declared.demands.Demand.{Demand}
use Rattle.scram_types.specs.declared.specification.Place.{Place}
use Rattle.scram_types.specs.Lookups.{is_on, place_of}
use Rattle.scram_types.specs.ModeLists.{is_among}
use Rattle.scram_types.specs.Searches.{all_below}
use Rattle.scram_types.specs.Specification.{Parts, modes_on}
use Rattle.choice_table.specs.Choices.{all_up, has_wanted}

-- Whether each processor of a set is down in an environment.
abbrev pub all_down : ℕ → Env → Bool
all_down set v = bit_and set v.up == 0

-- Whether a demand applies to an environment: the environment has each value that the demand requires, each processor
-- of `up` is up, and each processor of `down` is down.
abbrev pub applies_in : Demand → Env → Bool
applies_in demand v = list_all (has_wanted v) demand.wants && all_up demand.up v && all_down demand.down v

-- Whether a set of configurations contains `c` or is empty. The empty set means all configurations.
abbrev pub is_empty_or_holds : ℕ → ConfId → Bool
is_empty_or_holds set c = set == 0 || has_bit set c.0

-- Whether a demand applies to a choice from `c`.
abbrev pub applies_from : Demand → ConfId → Bool
applies_from demand c = is_empty_or_holds demand.from c

-- Whether a list of modes contains a mode or is empty. The empty list means all modes.
abbrev pub modes_allow : List Mode → Mode → Bool
modes_allow modes mode = length modes == 0 || is_among modes mode.0

-- Whether an optional place of an application meets a demand. If the demand has no list of modes for the application,
-- each place and `None` meet the demand. Otherwise the application must be on, in a mode that the list allows.
abbrev pub is_placed : Option (List Mode) → Option Place → Bool
is_placed None place = true
is_placed (Some modes) None = false
is_placed (Some modes) (Some place) = modes_allow modes place.mode

-- Whether application `a` is on or off in configuration `c` as a demand requires. If the demand requires `a` to be
-- on, `a` must also be in an allowed mode.
abbrev pub is_met_by : Parts → Demand → ConfId → ℕ → Bool
is_met_by spec demand c a = is_placed (modes_on demand a) (place_of spec c a) && (not (has_bit demand.off a) || not (is_on spec c a))

-- Whether configuration `c` meets a demand: `c` is one of `to` or `to` is empty, and each application is on or off as
-- the demand requires.
abbrev pub is_met : Parts → Demand → ConfId → Bool
is_met spec demand c = is_empty_or_holds demand.to c && all_below (is_met_by spec demand c) 8

-- Whether configuration `c` meets a demand if the demand applies both to the environment and to a choice from `c`.
-- The value is `true` if the demand does not apply to both.
abbrev pub meets : Parts → ConfId → Env → Demand → Bool
meets spec c v demand = not (applies_in demand v && applies_from demand c) || is_met spec demand c

-- Whether configuration `c` meets each demand that applies both to an environment and to a choice from `c`.
abbrev pub meets_all : Parts → ConfId → Env → Bool
meets_all spec c v = list_all (meets spec c v) spec.demands

-- Whether some demand applies to an environment.
abbrev pub has_demand_in : Parts → Env → Bool
has_demand_in spec v = list_any (λ (demand : Demand). applies_in demand v) spec.demands
