-- Refusals, each with a status and a line.
use Rattle.std.specs.Prelude.{◌≡◌, ◌⊎◌, ℕ, List, ◌++◌, codes, string_bytes}
use Rattle.form_base.specs.declared.refusals.Refusal.{Refusal}
use Rattle.form_base.specs.declared.refusals.RefusalLine.{RefusalLine}
use Rattle.form_base.specs.declared.refusals.RefusalLine.TheVariants.{Short, Naming}
use Rattle.form_base.specs.declared.refusals.Refused.{Refused}
use Rattle.form_base.specs.declared.refusals.Refused.TheVariants.{Usage, File, Specification, Acceptance, Script, Assumption, Memory, Trace, Schedule, Name}
use Rattle.form_base.specs.declared.status.TheConstants.{BROKEN_SCHEDULE, BROKEN_SCRIPT, BROKEN_SPECIFICATION, BROKEN_TRACE, BROKEN_USAGE, NOT_ACCEPTED, OUT_OF_MEMORY, UNASSUMED_SCRIPT, UNKNOWN_NAME, UNREAD_FILE}

-- The status of a kind of refusal.
abbrev pub code_of : Refused → ℕ
code_of Usage = BROKEN_USAGE
code_of File = UNREAD_FILE
code_of Specification = BROKEN_SPECIFICATION
code_of Acceptance = NOT_ACCEPTED
code_of Script = BROKEN_SCRIPT
code_of Assumption = UNASSUMED_SCRIPT
code_of Memory = OUT_OF_MEMORY
code_of Trace = BROKEN_TRACE
code_of Schedule = BROKEN_SCHEDULE
code_of Name = UNKNOWN_NAME

-- The bytes of a refusal's line.
abbrev pub line_text : RefusalLine → List ℕ
line_text (Short line) = line
line_text (Naming line) = string_bytes line

-- The status and the line of a refusal.
abbrev pub answer_of : Refusal → ℕ × List ℕ
answer_of refusal = (code_of refusal.refused, line_text refusal.line)

-- The line of an out-of-memory refusal.
abbrev pub memory_line : List ℕ
memory_line = codes "refused: memory\n"

-- The line of the refusal of a file that was not read.
abbrev pub read_line : List ℕ → List ℕ
read_line name = codes "refused: read " ++ name ++ codes "\n"

-- The status and the line report that the file `name` was not read, or that there was no memory for this line.
abbrev pub IsUnread : List ℕ → ℕ × List ℕ → Type 0
IsUnread name refusal = (refusal ≡ (UNREAD_FILE, read_line name)) ⊎ (refusal ≡ (OUT_OF_MEMORY, memory_line))
