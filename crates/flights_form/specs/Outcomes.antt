-- The outcome of a line, whose script is read, checked and flown.
use Rattle.std.specs.Prelude.{◌≡◌, ◌⊎◌, ℕ, List, [], ◌∷◌, Option, Some, None, Result, Ok, Err, ⊤}
use Rattle.scram_types.specs.Scripts.{ScriptParts}
use Rattle.scram_types.specs.Specification.{Parts}
use Rattle.scram_doc.specs.declared.fault.DocFault.{DocFault}
use Rattle.fault_script.specs.declared.assumption.Outside.{Outside}
use Rattle.fault_script.specs.Assumption.{first_outside}
use Rattle.fault_script.specs.Reading.{script_of}
use Rattle.frame_model.specs.Flights.{reports_of, rows_of}
use Rattle.form_base.specs.Refusals.{memory_line}
use Rattle.form_base.specs.mission_files.Lines.{outside_line, script_line}
use Rattle.flights_form.specs.declared.outcomes.Outcome.{Outcome}
use Rattle.flights_form.specs.declared.outcomes.Outcome.TheVariants.{Flown, Refused}
use Rattle.flights_form.specs.Facts.{facts_of}

-- The outcome of a script that fits the specification. The last argument is the way in which the script violates the
-- failure assumption, or `None` if the script keeps to the assumption. The outcome is the refusal with which `run`
-- refuses the script, or the facts of the script's one-thread flight.
abbrev pub outcome_within : Parts → ScriptParts → Option Outside → Outcome
outcome_within spec script (Some outside) = Refused (outside_line outside)
outcome_within spec script None = Flown (facts_of spec (rows_of spec script) (reports_of spec script))

-- The outcome of a line, given the result of reading it as a script.
abbrev pub outcome_read : Parts → Result ScriptParts DocFault → Outcome
outcome_read spec (Err fault) = Refused (script_line fault)
outcome_read spec (Ok script) = outcome_within spec script (first_outside spec script)

-- The outcome of a line, provided that the allocator is not out of memory.
abbrev pub outcome_of : Parts → List ℕ → Outcome
outcome_of spec line = outcome_read spec (script_of spec line)

-- The outcome of a line that is refused because the allocator is out of memory.
abbrev pub memory_outcome : Outcome
memory_outcome = Refused memory_line

-- The outcome is the outcome of the line, or the refusal because the allocator is out of memory.
abbrev pub IsOutcome : Parts → List ℕ → Outcome → Type 0
IsOutcome spec line outcome = (outcome ≡ outcome_of spec line) ⊎ (outcome ≡ memory_outcome)

-- There is one outcome for each line, in the order of the lines.
abbrev pub AreOutcomes : Parts → List (List ℕ) → List Outcome → Type 0
AreOutcomes spec [] [] = ⊤
AreOutcomes spec [] (outcome ∷ outcomes) = ⊥
AreOutcomes spec (line ∷ lines) [] = ⊥
AreOutcomes spec (line ∷ lines) (outcome ∷ outcomes) = IsOutcome spec line outcome × AreOutcomes spec lines outcomes
