-- The status after a text is printed.
use Rattle.std.specs.Prelude.{ℕ, Result, Ok, Err}
use Rattle.form_base.specs.declared.status.TheConstants.{UNWRITTEN_OUTPUT}

-- The status after writing a text: `code` if the sink took the text, or the status of unwritten output otherwise.
abbrev pub status_after : {A E : Type 0} → Result A E → ℕ → ℕ
status_after (Ok _) code = code
status_after (Err _) code = UNWRITTEN_OUTPUT
