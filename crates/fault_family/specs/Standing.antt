-- Each halt, after any step, is represented by a halt before all stores or after the mark.
use Rattle.std.specs.Prelude.{◌≡◌, ℕ, ◌+◌, nat_le, map, if◌then◌else◌}
use Rattle.scram_types.specs.declared.scripts.HaltAt.{HaltAt}
use Rattle.scram_types.specs.Scripts.{ScriptParts}
use Rattle.scram_types.specs.Specification.{Parts}
use Rattle.fault_script.specs.Times.{words}
use Rattle.frame_model.specs.Flights.{reports_of, rows_of}

-- The step that represents the step of a halt: step 0, before all stores, if the halt comes before the mark, or else
-- the step after the mark.
abbrev pub listed_step : Parts → ℕ → ℕ
listed_step spec step = if nat_le step (words spec) then 0 else words spec + 1

-- A halt with its step replaced by the representing step.
abbrev pub listed_halt : Parts → HaltAt → HaltAt
listed_halt spec halt = record { proc = halt.proc; frame = halt.frame; step = listed_step spec halt.step }

-- The script in which the step of each halt is replaced by the representing step.
abbrev pub with_listed_steps : Parts → ScriptParts → ScriptParts
with_listed_steps spec script = record {
  frames = script.frames;
  changes = script.changes;
  halts = map (listed_halt spec) script.halts;
  restarts = script.restarts;
}

-- The flights of two scripts have the same rows and the same reports.
pub record HasFlightOf (spec : Parts) (script other : ScriptParts) : Type 0 where
  pub rows : rows_of spec script ≡ rows_of spec other
  pub reports : reports_of spec script ≡ reports_of spec other

-- Every script has the same flight as the script with the representing steps.
abbrev pub ListedStepsStand : Type 0
ListedStepsStand = (spec : Parts) (script : ScriptParts) → HasFlightOf spec script (with_listed_steps spec script)
