-- The rules for the lines of a trace. The rules on names, numbers and counts depend on the form of the line.
use Rattle.std.specs.Prelude.{ℕ, ◌≡◌, ◌<◌, ◌==◌, ◌-◌, ◌^◌, ◌&&◌, ◌||◌, not, Bool, true, false, List, codes, length, nat_le, nat_lt, Option, Some, None, is_some, option_and_then, Result, Ok, Err, if◌then◌else◌}
use Rattle.scram_types.specs.declared.limits.TheConstants.{MAX_FRAMES, MAX_PHASE}
use Rattle.scram_types.specs.Specification.{Parts, bound_in, greatest_bound_in}
use Rattle.scram_types.specs.Lookups.{conf_named, proc_named}
use Rattle.scram_types.specs.declared.ids.ConfId.{ConfId}
use Rattle.trace_text.specs.declared.progress.Expected.{Expected}
use Rattle.trace_text.specs.declared.progress.Expected.TheVariants.{Rows, Apps, Reports, Over}
use Rattle.trace_text.specs.declared.rule.TheConstants.{BROKEN_LINE, NOT_NEXT, NO_FORM, OUT_OF_ORDER, OUT_OF_PLACE, UNKNOWN_NAME, WRONG_COUNT, WRONG_END, WRONG_NUMBER}
use Rattle.trace_text.specs.AppReading.{bare_act, is_bare_form, is_placed_form, phase_named}
use Rattle.trace_text.specs.Lookups.{app_number, conf_or_none, listed_mode}
use Rattle.trace_text.specs.Pieces.{is_word, sides_of, word_at, words_in, words_of}
use Rattle.trace_text.specs.ReportReading.{bound_or_none, is_end_form, is_report_form, same_bound}
use Rattle.trace_text.specs.RowReading.{env_names, is_moving_form, is_stable_form, up_in, world_at}
use Rattle.trace_text.specs.Spelling.{signed_from, spelled_number}
use Rattle.trace_text.specs.TraceReading.{ReadingState, after_line, begins, is_plain}

-- The forms of lines. A row has a stable or a moving mode. An application ran, is in a phase, or has no processor. A
-- reconfiguration ended or was cut off. The end line has one form.
pub data Form : Type 0 where
  StableRow : Form
  MovingRow : Form
  RanApp : Form
  PhaseApp : Form
  BareApp : Form
  Finished : Form
  Unfinished : Form
  Ending : Form

-- A list of the words of a line.
abbrev pub Words : Type 0
Words = List (List ℕ)

-- Whether the option has a value that passes the test `ask`.
abbrev pub is_some_and : {A : Type 0} → Option A → (A → Bool) → Bool
is_some_and None ask = false
is_some_and (Some a) ask = ask a

-- Whether a line satisfies rule 2: its first word is allowed here. After the end line any word passes, since rule 9
-- refuses the line.
abbrev pub is_in_place : Expected → List ℕ → Bool
is_in_place Rows line = begins line (codes "frame") || begins line (codes "reconfiguration") || begins line (codes "end")
is_in_place (Apps a row) line = begins line (codes "app")
is_in_place Reports line = begins line (codes "reconfiguration") || begins line (codes "end")
is_in_place Over line = true

-- The form of the words of a row, or `None` if they match neither form.
abbrev pub row_form : Parts → Words → Option Form
row_form spec words = if is_stable_form spec words then Some StableRow else (if is_moving_form spec words then Some MovingRow else None)

-- The form of the words of an application, or `None` if they match no form.
abbrev pub app_form : Words → Option Form
app_form words =
    if is_placed_form words then
    (if is_word words 2 (codes "ran") then Some RanApp
    else (if is_some (phase_named (word_at words 2)) && is_some (sides_of (word_at words 3)) then Some PhaseApp else None))
    else (if is_bare_form words && is_some (bare_act (word_at words 2)) then Some BareApp else None)

-- The form of the words of a reconfiguration, or `None` if they match neither form.
abbrev pub report_form : Words → Option Form
report_form words =
    if is_report_form words then
    (if is_word words 3 (codes "-") then (if is_word words 7 (codes "-") then Some Unfinished else None)
    else (if is_word words 7 (codes "-") then None else Some Finished))
    else None

-- The form of the words of the end line, or `None` if the words do not match this form.
abbrev pub end_form : Words → Option Form
end_form words = if is_end_form words then Some Ending else None

-- The form of the words of a line, chosen by the line's first word, or `None` if they match no form.
abbrev pub form_by : Parts → List ℕ → Words → Option Form
form_by spec line words =
    if begins line (codes "frame") then row_form spec words
    else (if begins line (codes "app") then app_form words
    else (if begins line (codes "reconfiguration") then report_form words else end_form words))

-- The form of a line, or `None` if a word is empty, there are more than 16 words, or the words match no form.
abbrev pub line_form : Parts → List ℕ → Option Form
line_form spec line = option_and_then (form_by spec line) (words_in line)

-- Whether a line satisfies rule 3: its words match a form. After the end line any line passes, since rule 9 refuses
-- it.
abbrev pub has_form : Parts → Expected → List ℕ → Bool
has_form spec Rows line = is_some (line_form spec line)
has_form spec (Apps a row) line = is_some (line_form spec line)
has_form spec Reports line = is_some (line_form spec line)
has_form spec Over line = true

-- Whether the words of a line satisfy rule 4: each name is known in its place.
abbrev pub knows_names : Parts → Words → Form → Bool
knows_names spec words StableRow = is_some (conf_named spec (word_at words 3)) && is_some (env_names spec words 4)
knows_names spec words MovingRow =
    is_some (conf_named spec (word_at words 3)) && is_some (conf_or_none spec (word_at words 4)) && is_some (conf_named spec (word_at words 5))
    && is_some (env_names spec words 7)
knows_names spec words RanApp =
    is_some_and (app_number spec (word_at words 1)) (λ (app : ℕ). is_some (listed_mode spec app (word_at words 3))) && is_some (proc_named spec (word_at words 4))
knows_names spec words PhaseApp = is_some (app_number spec (word_at words 1)) && is_some (proc_named spec (word_at words 4))
knows_names spec words BareApp = is_some (app_number spec (word_at words 1))
knows_names spec words Finished = is_some (conf_named spec (word_at words 1)) && is_some (conf_named spec (word_at words 3))
knows_names spec words Unfinished = is_some (conf_named spec (word_at words 1))
knows_names spec words Ending = true

-- Whether the word spells the number of a frame, which is below 20,000.
abbrev pub is_frame_number : List ℕ → Bool
is_frame_number word = is_some (spelled_number MAX_FRAMES word)

-- Whether the word spells an unsigned number of 32 bits.
abbrev pub is_count : List ℕ → Bool
is_count word = is_some (spelled_number (2 ^ 32) word)

-- Whether the text on each side of a slash spells an unsigned number of 8 bits.
abbrev pub are_bytes : List ℕ × List ℕ → Bool
are_bytes sides = is_some (spelled_number 256 sides.0) && is_some (spelled_number 256 sides.1)

-- Whether the words of a line satisfy rule 5: each number is spelled as it is printed, and is in its range.
abbrev pub spells_numbers : Words → Form → Bool
spells_numbers words StableRow = is_frame_number (word_at words 1) && is_some (world_at words 9)
spells_numbers words MovingRow = is_frame_number (word_at words 6) && is_frame_number (word_at words 1) && is_some (world_at words 12)
spells_numbers words RanApp = is_some (signed_from 8 6 words)
spells_numbers words PhaseApp = is_some_and (sides_of (word_at words 3)) are_bytes && is_some (signed_from 8 6 words)
spells_numbers words BareApp = is_some (signed_from 8 4 words)
spells_numbers words Finished =
    is_frame_number (word_at words 7) && is_frame_number (word_at words 5) && is_count (word_at words 9) && is_some (bound_or_none (word_at words 11))
spells_numbers words Unfinished = is_frame_number (word_at words 5) && is_count (word_at words 9) && is_some (bound_or_none (word_at words 11))
spells_numbers words Ending = is_count (word_at words 2) && is_count (word_at words 4)

-- The number of the application whose line is expected, or 0 if no application's line is expected.
abbrev pub app_due : Expected → ℕ
app_due Rows = 0
app_due (Apps a row) = a
app_due Reports = 0
app_due Over = 0

-- Whether the line has the number of the frame that follows the rows that have been read.
abbrev pub is_frame_due : ReadingState → Words → Bool
is_frame_due s words = is_some_and (spelled_number MAX_FRAMES (word_at words 1)) (λ (frame : ℕ). frame == length s.rows)

-- Whether the line names the application whose line is expected.
abbrev pub is_app_due : Parts → ReadingState → Words → Bool
is_app_due spec s words = is_some_and (app_number spec (word_at words 1)) (λ (app : ℕ). app == app_due s.expected)

-- Whether the words of a line satisfy rule 6: a row has the expected frame, and the line of an application names the
-- expected application.
abbrev pub is_due : Parts → ReadingState → Words → Form → Bool
is_due spec s words StableRow = is_frame_due s words
is_due spec s words MovingRow = is_frame_due s words
is_due spec s words RanApp = is_app_due spec s words
is_due spec s words PhaseApp = is_app_due spec s words
is_due spec s words BareApp = is_app_due spec s words
is_due spec s words Finished = true
is_due spec s words Unfinished = true
is_due spec s words Ending = true

-- Whether the number before a slash is below the number after the slash, and the latter is at most 16.
abbrev pub is_in_phase : List ℕ × List ℕ → Bool
is_in_phase sides =
    is_some_and (spelled_number 256 sides.0) (λ (k : ℕ). is_some_and (spelled_number 256 sides.1) (λ (n : ℕ). nat_lt k n && nat_le n MAX_PHASE))

-- Whether the words of a line satisfy rule 7: the frame of a phase is below the phase's length, the length is at most
-- 16, and the processors that are up are listed in order.
abbrev pub is_in_order : Parts → Words → Form → Bool
is_in_order spec words StableRow = is_some (up_in spec.procs (word_at words 7))
is_in_order spec words MovingRow = is_some (up_in spec.procs (word_at words 10))
is_in_order spec words RanApp = true
is_in_order spec words PhaseApp = is_some_and (sides_of (word_at words 3)) is_in_phase
is_in_order spec words BareApp = true
is_in_order spec words Finished = true
is_in_order spec words Unfinished = true
is_in_order spec words Ending = true

-- Whether the words of a reconfiguration spell its first frame, its length and its bound. The first frame must be no
-- later than `end`, the length must be `end` minus the first frame, and the bound must be `given`.
abbrev pub is_measured : Words → ℕ → Option ℕ → Bool
is_measured words end given =
    is_some_and (spelled_number MAX_FRAMES (word_at words 5)) (λ (begin : ℕ).
    is_some_and (spelled_number (2 ^ 32) (word_at words 9)) (λ (took : ℕ).
    is_some_and (bound_or_none (word_at words 11)) (λ (bound : Option ℕ).
    nat_le begin end && (took == end - begin) && same_bound bound given)))

-- Whether the words of a line satisfy rule 8: the length and the bound of a reconfiguration and the counts of the end
-- line are correct, and a reconfiguration begins no later than its end.
abbrev pub counts_rightly : Parts → ReadingState → Words → Form → Bool
counts_rightly spec s words StableRow = true
counts_rightly spec s words MovingRow = true
counts_rightly spec s words RanApp = true
counts_rightly spec s words PhaseApp = true
counts_rightly spec s words BareApp = true
counts_rightly spec s words Finished =
    is_some_and (conf_named spec (word_at words 1)) (λ (from : ConfId).
    is_some_and (conf_named spec (word_at words 3)) (λ (to : ConfId).
    is_some_and (spelled_number MAX_FRAMES (word_at words 7)) (λ (end : ℕ). is_measured words end (bound_in spec.bounds from.0 to.0))))
counts_rightly spec s words Unfinished =
    is_some_and (conf_named spec (word_at words 1)) (λ (from : ConfId). is_measured words (length s.rows) (greatest_bound_in spec.bounds from.0))
counts_rightly spec s words Ending =
    is_some_and (spelled_number (2 ^ 32) (word_at words 2)) (λ (frames : ℕ).
    is_some_and (spelled_number (2 ^ 32) (word_at words 4)) (λ (reports : ℕ). (frames == length s.rows) && (reports == length s.reports)))

-- Whether the end line has not been read, as rule 9 requires.
abbrev pub is_open : Expected → Bool
is_open Rows = true
is_open (Apps a row) = true
is_open Reports = true
is_open Over = false

-- Whether there is no value, or the value passes the test `ask`.
abbrev pub keeps : {A : Type 0} → Option A → (A → Bool) → Bool
keeps None ask = true
keeps (Some form) ask = ask form

-- The form of a line that rules 4 to 8 test, or `None` if the line has no form or follows the end line.
abbrev pub asked_form : Parts → Expected → List ℕ → Option Form
asked_form spec Rows line = line_form spec line
asked_form spec (Apps a row) line = line_form spec line
asked_form spec Reports line = line_form spec line
asked_form spec Over line = None

-- Whether a line that is read in state `s` breaks the rule of this number.
abbrev pub breaks_rule : Parts → ReadingState → List ℕ → ℕ → Bool
breaks_rule spec s line rule =
    if rule == BROKEN_LINE then not (is_plain line)
    else (if rule == OUT_OF_PLACE then not (is_in_place s.expected line)
    else (if rule == NO_FORM then not (has_form spec s.expected line)
    else (if rule == UNKNOWN_NAME then not (keeps (asked_form spec s.expected line) (knows_names spec (words_of line)))
    else (if rule == WRONG_NUMBER then not (keeps (asked_form spec s.expected line) (spells_numbers (words_of line)))
    else (if rule == NOT_NEXT then not (keeps (asked_form spec s.expected line) (is_due spec s (words_of line)))
    else (if rule == OUT_OF_ORDER then not (keeps (asked_form spec s.expected line) (is_in_order spec (words_of line)))
    else (if rule == WRONG_COUNT then not (keeps (asked_form spec s.expected line) (counts_rightly spec s (words_of line)))
    else (if rule == WRONG_END then not (is_open s.expected) else false))))))))

-- The result of a reading is `Ok` if no rule is broken, or else `Err` with the broken rule of the smallest number.
abbrev pub ReportsLeast : {A : Type 0} → (ℕ → Bool) → Result A ℕ → Type 0
ReportsLeast breaks (Ok a) = (rule : ℕ) → breaks rule ≡ false
ReportsLeast breaks (Err least) = (breaks least ≡ true) × ((rule : ℕ) → rule < least → breaks rule ≡ false)

-- Reading a line reports the first rule that the line breaks, and succeeds if the line breaks no rule.
abbrev pub LeastRuleIsReported : Type 0
LeastRuleIsReported = (spec : Parts) (s : ReadingState) (line : List ℕ) → ReportsLeast (breaks_rule spec s line) (after_line spec s line)
