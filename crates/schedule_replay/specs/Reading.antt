-- The reading of a schedule from bytes. Its result is the schedule, or the first line that breaks a rule and the first
-- rule that the line breaks.
use Rattle.std.specs.Prelude.{◌≡◌, ℕ, ◌+◌, ◌==◌, ◌&&◌, Bool, List, [], ◌∷◌, ◌++◌, length, nat_le, nat_lt, Option, Some, None, option_map, option_and_then, ⊤, Result, Ok, Err, Vec, if◌then◌else◌}
use Rattle.std.specs.List.{list_all}
use Rattle.scram_types.specs.Specification.{Parts}
use Rattle.scram_types.specs.Lookups.{proc_named}
use Rattle.scram_types.specs.declared.ids.ProcId.{ProcId}
use Rattle.bank_words.specs.declared.events.Event.{Event}
use Rattle.bank_words.specs.declared.events.Event.TheVariants as event
use Rattle.fault_script.specs.Times.{words as width_of}
use Rattle.trace_text.specs.Pieces.{is_filled, pieces_of, word_at, words_in, words_of}
use Rattle.trace_text.specs.Rules.{or_rule}
use Rattle.trace_text.specs.Spelling.{spelled_number}
use Rattle.trace_text.specs.TraceReading.{is_printable}
use Rattle.schedule_replay.specs.declared.limits.TheConstants.{MAX_EVENT_BYTES, MAX_SCHEDULE_BYTES}
use Rattle.schedule_replay.specs.declared.rule.TheConstants.{BROKEN_LINE, NO_FORM, TOO_LONG, UNKNOWN_EVENT, UNKNOWN_WORD}
use Rattle.schedule_replay.specs.declared.schedule_reading.ScheduleError.{ScheduleError}
use Rattle.schedule_replay.specs.declared.schedule_reading.ScheduleError.TheVariants.{Fault, NoMemory}
use Rattle.schedule_replay.specs.declared.schedule_reading.ScheduleFault.{ScheduleFault}
use Rattle.schedule_replay.specs.declared.verbs.Verb.{Verb}
use Rattle.schedule_replay.specs.declared.verbs.Verb.TheVariants.{Start, Look, Store, Flip, Done, Halt, Note, KernelStore, Release}
use Rattle.schedule_replay.specs.Verbs.{verb_named, word_count}

-- Whether a line, given without its line feed, satisfies rule 1: it is not too long, and its bytes are printable.
abbrev pub is_legible : List ℕ → Bool
is_legible line = nat_le (length line) MAX_EVENT_BYTES && list_all is_printable line

-- The kind of event that the first word of a line names, or `None` if it names none. A line without a kind breaks
-- rule 2.
abbrev pub verb_of : List ℕ → Option Verb
verb_of line = verb_named (word_at (words_of line) 0)

-- The words of a line if their number is `word_count verb`, or `None` otherwise.
abbrev pub words_counted : Verb → List (List ℕ) → Option (List (List ℕ))
words_counted verb words = if length words == word_count verb then Some words else None

-- The words of a line if none of them is empty and their number is `word_count verb`. Otherwise the value is `None`,
-- and the line breaks rule 3.
abbrev pub words_for : Verb → List ℕ → Option (List (List ℕ))
words_for verb line = option_and_then (words_counted verb) (words_in line)

-- The processor that the second word of a line names, or `None` if it names none.
abbrev pub proc_in : Parts → List (List ℕ) → Option ProcId
proc_in spec words = proc_named spec (word_at words 1)

-- The event of the given kind that the words of a line encode, or `None` if they encode none. A line without an event
-- breaks rule 4.
abbrev pub event_told : Parts → Verb → List (List ℕ) → Option Event
event_told spec Start words = option_map event.Start (proc_in spec words)
event_told spec Look words =
    option_and_then (λ (p : ProcId). option_map (λ (q : ProcId). event.Look p q) (proc_named spec (word_at words 2))) (proc_in spec words)
event_told spec Store words =
    option_and_then (λ (p : ProcId). option_map (λ (i : ℕ). event.Store p i) (spelled_number (width_of spec) (word_at words 2))) (proc_in spec words)
event_told spec Flip words = option_map event.Flip (proc_in spec words)
event_told spec Done words = option_map event.Done (proc_in spec words)
event_told spec Halt words = option_map event.Halt (proc_in spec words)
event_told spec Note words = option_map event.KNote (proc_in spec words)
event_told spec KernelStore words = option_map event.KStore (spelled_number 20 (word_at words 1))
event_told spec Release words = Some event.Release

-- The event that a line encodes, or the first of rules 2 to 4 that the line breaks. The line must satisfy rule 1.
abbrev pub line_event : Parts → List ℕ → Result Event ℕ
line_event spec line =
    or_rule UNKNOWN_WORD (verb_of line) (λ (verb : Verb).
    or_rule NO_FORM (words_for verb line) (λ (words : List (List ℕ)).
    or_rule UNKNOWN_EVENT (event_told spec verb words) (λ (event : Event). Ok event)))

-- The event that a line encodes, or the first rule that the line breaks.
abbrev pub event_read : Parts → List ℕ → Result Event ℕ
event_read spec line = if is_legible line then line_event spec line else Err BROKEN_LINE

-- The fault with line `line` and rule `rule`. Lines are counted from 1. Line 0 stands for the whole schedule.
abbrev pub schedule_fault : ℕ → ℕ → ScheduleFault
schedule_fault line rule = record { line = line; rule = rule }

-- The result of reading from line `k` on, given the result of reading line `k`. If that line encodes an event, the
-- result is `next` applied to the event. If the line breaks a rule, the result is the fault of line `k`.
abbrev pub read_on : ℕ → Result Event ℕ → (Event → Result (List Event) ScheduleFault) → Result (List Event) ScheduleFault
read_on k (Ok event) next = next event
read_on k (Err rule) next = Err (schedule_fault k rule)

-- The events `so_far` of the preceding lines followed by the events of the given lines, or the fault of the first
-- given line that breaks a rule. The first given line has number `k`. The last given line is the text after the last
-- line feed, which must be empty.
abbrev pub events_from : Parts → ℕ → List Event → List (List ℕ) → Result (List Event) ScheduleFault
events_from spec k so_far [] = Ok so_far
events_from spec k so_far (last ∷ []) = if is_filled last then Err (schedule_fault k BROKEN_LINE) else Ok so_far
events_from spec k so_far (line ∷ next ∷ lines) =
    read_on k (event_read spec line) (λ (event : Event). events_from spec (k + 1) (so_far ++ event ∷ []) (next ∷ lines))

-- The events that the lines of a file encode, or the fault of the first line that breaks a rule. A file that is too
-- long breaks rule 5 at line 0.
abbrev pub schedule_of : Parts → List ℕ → Result (List Event) ScheduleFault
schedule_of spec bytes = if nat_lt MAX_SCHEDULE_BYTES (length bytes) then Err (schedule_fault 0 TOO_LONG) else events_from spec 1 [] (pieces_of 10 bytes)

-- The answer has the same events or the same fault as `reading`. Out of memory is always an answer.
abbrev pub AnswersSchedule : {A : Type 0} → Result (List Event) ScheduleFault → Result (Vec Event A) ScheduleError → Type 0
AnswersSchedule reading (Ok list) = reading ≡ Ok list.items
AnswersSchedule reading (Err (Fault fault)) = reading ≡ Err fault
AnswersSchedule reading (Err NoMemory) = ⊤
