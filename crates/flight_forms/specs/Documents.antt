-- The answers of forms that read files of schedules.
use Rattle.std.specs.Prelude.{◌≡◌, ℕ, List, Ok, Err}
use Rattle.scram_types.specs.Specification.{Parts}
use Rattle.schedule_replay.specs.declared.limits.TheConstants.{MAX_SCHEDULE_BYTES}
use Rattle.schedule_replay.specs.declared.rule.TheConstants as schedule_rule
use Rattle.schedule_replay.specs.declared.schedule_reading.ScheduleFault.{ScheduleFault}
use Rattle.bank_words.specs.declared.events.Event.{Event}
use Rattle.schedule_replay.specs.Reading.{schedule_of}
use Rattle.schedule_replay.specs.Refusals.{fault_line}
use Rattle.form_base.specs.declared.status.TheConstants.{BROKEN_SCHEDULE}
use Rattle.form_base.specs.Answers.{Answer, AnswersDocument, AnswersFile}

-- The bytes encode the schedule `list`.
pub record SaysSchedule (spec : Parts) (list : List Event) (bytes : List ℕ) : Type 0 where
  pub is : schedule_of spec bytes ≡ Ok list

-- The bytes are not a schedule for the specification, and `refusal` has the status and the line of their fault.
pub record BreaksSchedule (spec : Parts) (refusal : ℕ × List ℕ) (bytes : List ℕ) : Type 0 where
  pub fault : ScheduleFault
  pub is : schedule_of spec bytes ≡ Err fault
  pub line : refusal ≡ (BROKEN_SCHEDULE, fault_line fault)

-- The status and the line with which a schedule of too many bytes is refused.
abbrev pub long_schedule : ℕ × List ℕ
long_schedule = (BROKEN_SCHEDULE, fault_line (record { line = 0; rule = schedule_rule.TOO_LONG }))

-- The answer if `name` is the name of a schedule's file: the answer `Then` to the schedule in the file, or a report
-- that the file was not read, is too long or breaks a rule.
abbrev pub AsksSchedule : Parts → List ℕ → (List Event → Answer) → Answer
AsksSchedule spec name Then = AnswersFile MAX_SCHEDULE_BYTES long_schedule name (AnswersDocument (SaysSchedule spec) (BreaksSchedule spec) Then)
