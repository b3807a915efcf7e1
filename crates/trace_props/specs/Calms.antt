-- Calm rows of a mission.
use Rattle.std.specs.Prelude.{◌≡◌, ℕ, ◌<◌, length, Some}
use Rattle.scram_types.specs.declared.ids.ConfId.{ConfId}
use Rattle.scram_types.specs.declared.rows.Row.{Row}
use Rattle.scram_types.specs.Scripts.{ScriptParts}
use Rattle.scram_types.specs.Specification.{IsSpec, Parts}
use Rattle.choice_table.specs.Choices.{choose}
use Rattle.coverage_check.specs.Missions.{IsMission, mission_of}
use Rattle.frame_model.specs.Flights.{rows_of}
use Rattle.frame_model.specs.Runs.{running}
use Rattle.trace_props.specs.Properties.{IsCalm}

-- A configuration runs in a row, and the table chooses it again in the row's environment.
pub record IsSettled (spec : Parts) (row : Row) : Type 0 where
  pub conf : ConfId
  pub known : conf.0 < length spec.confs
  pub runs : running spec row.acts ≡ Some conf
  pub stays : choose spec conf row.env ≡ conf

-- Each calm row of a mission satisfies `IsSettled`.
abbrev pub CalmSettles : Type 0
CalmSettles = (spec : Parts) (script : ScriptParts) → IsSpec spec → IsMission (mission_of spec script)
    → (t : ℕ) (row : Row) → IsCalm spec (rows_of spec script) t row → IsSettled spec row
