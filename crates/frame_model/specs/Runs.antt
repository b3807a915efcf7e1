-- The configuration that the acts of a row run.
use Rattle.std.specs.Prelude.{ℕ, Bool, true, false, ◌&&◌, ◌==◌, List, length, slice_index_or, Option, Some, None, option_map}
use Rattle.scram_types.specs.Lookups.{conf_id, place_of}
use Rattle.scram_types.specs.Searches.{least_from, all_below}
use Rattle.scram_types.specs.declared.ids.ConfId.{ConfId}
use Rattle.scram_types.specs.declared.specification.Place.{Place}
use Rattle.scram_types.specs.declared.orders.Act.{Act}
use Rattle.scram_types.specs.declared.orders.Act.TheVariants as act
use Rattle.scram_types.specs.Specification.{Parts}

-- Whether an application with this act ran in the mode and on the processor of the place.
abbrev pub is_ran_at : Place → Act → Bool
is_ran_at place (act.Ran mode proc) = mode.0 == place.mode.0 && proc.0 == place.proc.0
is_ran_at place (act.Halting k n proc) = false
is_ran_at place act.Held = false
is_ran_at place (act.Preparing k n proc) = false
is_ran_at place (act.Initialising k n proc) = false
is_ran_at place act.Off = false
is_ran_at place act.Lost = false

-- Whether an application with this act was off.
abbrev pub is_off : Act → Bool
is_off (act.Ran mode proc) = false
is_off (act.Halting k n proc) = false
is_off act.Held = false
is_off (act.Preparing k n proc) = false
is_off (act.Initialising k n proc) = false
is_off act.Off = true
is_off act.Lost = false

-- Whether an act agrees with an optional place: an application with a place ran there, and an application without a
-- place was off.
abbrev pub is_run_by : Option Place → Act → Bool
is_run_by None done = is_off done
is_run_by (Some place) done = is_ran_at place done

-- The act of application `a`, or `Off` past the last application.
abbrev pub act_at : List Act → ℕ → Act
act_at acts a = slice_index_or acts a act.Off

-- Whether the acts run configuration `c`: each application that has a place in `c` ran there, and each other
-- application was off.
abbrev pub runs : Parts → List Act → ConfId → Bool
runs spec acts c = all_below (λ a. is_run_by (place_of spec c a) (act_at acts a)) (length spec.apps)

-- The configuration of the smallest number that the acts run, or `None` if they run no configuration.
abbrev pub running : Parts → List Act → Option ConfId
running spec acts = option_map conf_id (least_from (λ c. runs spec acts (conf_id c)) 0 (length spec.confs))
