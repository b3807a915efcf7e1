-- The texts that `explain` prints.
use Rattle.std.specs.Prelude.{ℕ, List, ◌++◌, Option, Some, None}
use Rattle.scram_types.specs.Scripts.{ScriptParts}
use Rattle.scram_types.specs.Specification.{Parts}
use Rattle.fault_script.specs.declared.assumption.Outside.{Outside}
use Rattle.fault_script.specs.Assumption.{first_outside}
use Rattle.coverage_check.specs.declared.shown.Shown.{Shown}
use Rattle.form_base.specs.declared.status.TheConstants.{ANSWERED, NOT_ACCEPTED, UNASSUMED_SCRIPT}
use Rattle.form_base.specs.Lines.{shown_line}
use Rattle.form_base.specs.mission_files.Lines.{outside_line}
use Rattle.spec_forms.specs.Lines.{accepted_line}
use Rattle.acceptance_breaks.specs.Texts.{breaks_text}
use Rattle.idle_parts.specs.Texts.{idle_text}
use Rattle.explain_form.specs.Outsides.{outside_text}

-- The text for an accepted specification: the line of the specification, and the lines of its idle parts.
abbrev pub accepted_text : Parts → List ℕ
accepted_text spec = accepted_line spec ++ idle_text spec

-- The text for a specification that is not accepted: the refusal, and the lines for the places at which the condition
-- of the refusal does not hold.
abbrev pub refused_text : Parts → Shown → List ℕ
refused_text spec shown = shown_line spec shown ++ breaks_text spec shown.condition

-- The text for a script that violates the failure assumption: the refusal and its reason.
abbrev pub unassumed_text : Parts → ScriptParts → Outside → List ℕ
unassumed_text spec script outside = outside_line outside ++ outside_text spec script outside

-- The status and the text for a specification, given its first refusal, or `None` if the specification is accepted.
abbrev pub explain_answer : Parts → Option Shown → ℕ × List ℕ
explain_answer spec (Some shown) = (NOT_ACCEPTED, refused_text spec shown)
explain_answer spec None = (ANSWERED, accepted_text spec)

-- The status and the text for an accepted specification and a script for it, given the first frame in which the
-- script violates the failure assumption, or `None` if there is no such frame.
abbrev pub outside_answer : Parts → ScriptParts → Option Outside → ℕ × List ℕ
outside_answer spec script (Some outside) = (UNASSUMED_SCRIPT, unassumed_text spec script outside)
outside_answer spec script None = (ANSWERED, accepted_text spec)

-- The status and the text for a specification and a script for it, given the first refusal of the specification, or
-- `None` if the specification is accepted.
abbrev pub script_answer : Parts → ScriptParts → Option Shown → ℕ × List ℕ
script_answer spec script (Some shown) = (NOT_ACCEPTED, refused_text spec shown)
script_answer spec script None = outside_answer spec script (first_outside spec script)
