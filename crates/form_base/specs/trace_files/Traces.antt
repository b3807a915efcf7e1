-- The answers of the forms that read a trace.
use Rattle.std.specs.Prelude.{◌≡◌, ◌<◌, ◌^◌, ℕ, List, Ok, Err, length}
use Rattle.scram_types.specs.declared.rows.Flown.{Flown}
use Rattle.scram_types.specs.declared.limits.TheConstants.{MAX_TRACE_BYTES}
use Rattle.scram_types.specs.Specification.{Parts}
use Rattle.trace_text.specs.declared.rule.TheConstants.{WRONG_END}
use Rattle.trace_text.specs.declared.trace_reading.TraceFault.{TraceFault}
use Rattle.trace_text.specs.TraceReading.{trace_of}
use Rattle.form_base.specs.declared.status.TheConstants.{BROKEN_TRACE}
use Rattle.form_base.specs.Answers.{Answer, AnswersDocument, AnswersFile}
use Rattle.form_base.specs.trace_files.Lines.{broken_trace_line}

-- The bytes are the trace `flown` of missions of a specification, with fewer than `2 ^ 32` rows and fewer than `2 ^
-- 32` reports.
pub record SaysTrace (spec : Parts) (flown : Flown) (bytes : List ℕ) : Type 0 where
  pub is : trace_of spec bytes ≡ Ok flown
  pub rows : length flown.rows < 2 ^ 32
  pub reports : length flown.reports < 2 ^ 32

-- The bytes are not a trace of missions of a specification, and `refusal` has the status and the line of their fault.
pub record BreaksTrace (spec : Parts) (refusal : ℕ × List ℕ) (bytes : List ℕ) : Type 0 where
  pub fault : TraceFault
  pub is : trace_of spec bytes ≡ Err fault
  pub line : refusal ≡ (BROKEN_TRACE, broken_trace_line fault)

-- The status and the line with which a trace of too many bytes is refused.
abbrev pub long_trace : ℕ × List ℕ
long_trace = (BROKEN_TRACE, broken_trace_line (record { line = 0; rule = WRONG_END }))

-- The answer if `name` is the name of a trace's file: the answer `Then` to the trace in the file, or a report that
-- the file was not read, is too long or breaks a rule.
abbrev pub AsksTrace : Parts → List ℕ → (Flown → Answer) → Answer
AsksTrace spec name Then = AnswersFile MAX_TRACE_BYTES long_trace name (AnswersDocument (SaysTrace spec) (BreaksTrace spec) Then)
