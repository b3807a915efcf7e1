-- Reading the line of an application.
use Rattle.std.specs.Prelude.{ℕ, ℤ, ◌==◌, ◌&&◌, Bool, List, codes, length, nat_le, nat_lt, Option, Some, None, Result, Ok, Err, bytes_eq, if◌then◌else◌}
use Rattle.scram_types.specs.declared.limits.TheConstants.{MAX_PHASE}
use Rattle.scram_types.specs.Specification.{Parts}
use Rattle.scram_types.specs.declared.ids.Mode.{Mode}
use Rattle.scram_types.specs.declared.ids.ProcId.{ProcId}
use Rattle.scram_types.specs.declared.orders.Act.{Act}
use Rattle.scram_types.specs.declared.orders.Act.TheVariants as act
use Rattle.trace_text.specs.declared.app_reading.Done.{Done}
use Rattle.trace_text.specs.declared.app_reading.Phase.{Phase}
use Rattle.trace_text.specs.declared.app_reading.Phase.TheVariants.{Halting, Preparing, Initialising}
use Rattle.trace_text.specs.Lookups.{app_number, listed_mode}
use Rattle.scram_types.specs.Lookups.{proc_named}
use Rattle.trace_text.specs.Pieces.{words_in, is_word, sides_of, word_at}
use Rattle.trace_text.specs.Rules.{or_rule}
use Rattle.trace_text.specs.Spelling.{signed_from, spelled_number}
use Rattle.trace_text.specs.declared.rule.TheConstants.{NOT_NEXT, NO_FORM, OUT_OF_ORDER, UNKNOWN_NAME, WRONG_NUMBER}

-- The act and the area of an application.
abbrev pub done : Act → List ℤ → Done
done act area = record { act = act; area = area }

-- Whether the words have the form of an act on a processor: the sixth word is `:`, and the eight words of the area
-- follow it.
abbrev pub is_placed_form : List (List ℕ) → Bool
is_placed_form words = (length words == 14) && is_word words 5 (codes ":")

-- Whether the words have the form of an act without a processor: the fourth word is `:`, and the eight words of the
-- area follow it.
abbrev pub is_bare_form : List (List ℕ) → Bool
is_bare_form words = (length words == 12) && is_word words 3 (codes ":")

-- The phase that a word names, or `None` if it names no phase.
abbrev pub phase_named : List ℕ → Option Phase
phase_named tag =
    if bytes_eq tag (codes "halting") then Some Halting
    else (if bytes_eq tag (codes "preparing") then Some Preparing
    else (if bytes_eq tag (codes "initialising") then Some Initialising else None))

-- The act of an application in frame `k` of the `n` frames of a phase, on a processor.
abbrev pub phase_act : Phase → ℕ → ℕ → ProcId → Act
phase_act Halting k n proc = act.Halting k n proc
phase_act Preparing k n proc = act.Preparing k n proc
phase_act Initialising k n proc = act.Initialising k n proc

-- The act without a processor that a word names, or `None` if it names no such act.
abbrev pub bare_act : List ℕ → Option Act
bare_act tag =
    if bytes_eq tag (codes "held") then Some act.Held
    else (if bytes_eq tag (codes "off") then Some act.Off
    else (if bytes_eq tag (codes "lost") then Some act.Lost else None))

-- The result of reading the words of an application that ran, given the number of the application whose line is
-- expected. Rules 4 to 6 are tested: the names, the area, and whether the application is the expected one.
abbrev pub ran_line : Parts → ℕ → List (List ℕ) → Result Done ℕ
ran_line spec next words =
    or_rule UNKNOWN_NAME (app_number spec (word_at words 1)) (λ (app : ℕ).
    or_rule UNKNOWN_NAME (listed_mode spec app (word_at words 3)) (λ (mode : Mode).
    or_rule UNKNOWN_NAME (proc_named spec (word_at words 4)) (λ (proc : ProcId).
    or_rule WRONG_NUMBER (signed_from 8 6 words) (λ (area : List ℤ).
    if app == next then Ok (done (act.Ran mode proc) area) else Err NOT_NEXT))))

-- The result of reading the words of an application in a phase, given the number of the application whose line is
-- expected, the phase, and the two sides of a slash. The slash separates the frame of the phase from the length of
-- the phase.
abbrev pub phase_line : Parts → ℕ → List (List ℕ) → Phase → List ℕ × List ℕ → Result Done ℕ
phase_line spec next words phase fraction =
    or_rule UNKNOWN_NAME (app_number spec (word_at words 1)) (λ (app : ℕ).
    or_rule UNKNOWN_NAME (proc_named spec (word_at words 4)) (λ (proc : ProcId).
    or_rule WRONG_NUMBER (spelled_number 256 fraction.0) (λ (k : ℕ).
    or_rule WRONG_NUMBER (spelled_number 256 fraction.1) (λ (n : ℕ).
    or_rule WRONG_NUMBER (signed_from 8 6 words) (λ (area : List ℤ).
    if app == next then
    (if nat_lt k n && nat_le n MAX_PHASE then Ok (done (phase_act phase k n proc) area) else Err OUT_OF_ORDER)
    else Err NOT_NEXT)))))

-- The result of reading the words of an application whose act has no processor, given the number of the application
-- whose line is expected and the act.
abbrev pub bare_line : Parts → ℕ → List (List ℕ) → Act → Result Done ℕ
bare_line spec next words told =
    or_rule UNKNOWN_NAME (app_number spec (word_at words 1)) (λ (app : ℕ).
    or_rule WRONG_NUMBER (signed_from 8 4 words) (λ (area : List ℤ).
    if app == next then Ok (done told area) else Err NOT_NEXT))

-- The result of reading the words of an act on a processor, given the number of the application whose line is
-- expected. The third word has to be `ran` or the name of a phase.
abbrev pub placed_line : Parts → ℕ → List (List ℕ) → Result Done ℕ
placed_line spec next words =
    if is_word words 2 (codes "ran") then ran_line spec next words
    else
    or_rule NO_FORM (phase_named (word_at words 2)) (λ (phase : Phase).
    or_rule NO_FORM (sides_of (word_at words 3)) (phase_line spec next words phase))

-- The result of reading the words of an application's line, given the number of the application whose line is
-- expected.
abbrev pub app_in : Parts → ℕ → List (List ℕ) → Result Done ℕ
app_in spec next words =
    if is_placed_form words then placed_line spec next words
    else (if is_bare_form words then or_rule NO_FORM (bare_act (word_at words 2)) (bare_line spec next words) else Err NO_FORM)

-- The result of reading a line as the line of application `next`.
abbrev pub app_read : Parts → ℕ → List ℕ → Result Done ℕ
app_read spec next line = or_rule NO_FORM (words_in line) (app_in spec next)
