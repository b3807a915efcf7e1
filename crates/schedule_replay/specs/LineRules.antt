-- Rules 1 to 4 for a line of a schedule, each stated on its own. Rule 4 depends on the form of the line.
use Rattle.std.specs.Prelude.{ℕ, ◌==◌, ◌&&◌, not, Bool, true, false, List, length, Option, Some, None, is_some, option_and_then, if◌then◌else◌}
use Rattle.std.specs.List.{list_all}
use Rattle.scram_types.specs.Specification.{Parts}
use Rattle.scram_types.specs.Lookups.{proc_named}
use Rattle.fault_script.specs.Times.{words as width_of}
use Rattle.trace_text.specs.LineRules.{ReportsLeast, keeps}
use Rattle.trace_text.specs.Pieces.{is_filled, word_at, words_of}
use Rattle.trace_text.specs.Spelling.{spelled_number}
use Rattle.schedule_replay.specs.declared.rule.TheConstants.{BROKEN_LINE, NO_FORM, UNKNOWN_EVENT, UNKNOWN_WORD}
use Rattle.schedule_replay.specs.declared.verbs.Verb.{Verb}
use Rattle.schedule_replay.specs.declared.verbs.Verb.TheVariants.{Start, Look, Store, Flip, Done, Halt, Note, KernelStore, Release}
use Rattle.schedule_replay.specs.Reading.{event_read, is_legible, verb_of}
use Rattle.schedule_replay.specs.Verbs.{word_count}

-- Whether no word is empty and the number of words is `word_count verb`.
abbrev pub has_words : List (List ℕ) → Verb → Bool
has_words words verb = list_all is_filled words && (length words == word_count verb)

-- The kind of event that the first word of a line names, if the words of the line satisfy `has_words`. Otherwise the
-- value is `None`.
abbrev pub event_form : List ℕ → Option Verb
event_form line = option_and_then (λ (verb : Verb). if has_words (words_of line) verb then Some verb else None) (verb_of line)

-- Whether the words of a line for an event of the given kind satisfy rule 4. Each processor that the words name must
-- be known. The number in a `Store` must be the index of a word of an image. The number in a `KernelStore` must be
-- the index of one of the kernel's 20 words.
abbrev pub names_event : Parts → List (List ℕ) → Verb → Bool
names_event spec words Start = is_some (proc_named spec (word_at words 1))
names_event spec words Look = is_some (proc_named spec (word_at words 1)) && is_some (proc_named spec (word_at words 2))
names_event spec words Store = is_some (proc_named spec (word_at words 1)) && is_some (spelled_number (width_of spec) (word_at words 2))
names_event spec words Flip = is_some (proc_named spec (word_at words 1))
names_event spec words Done = is_some (proc_named spec (word_at words 1))
names_event spec words Halt = is_some (proc_named spec (word_at words 1))
names_event spec words Note = is_some (proc_named spec (word_at words 1))
names_event spec words KernelStore = is_some (spelled_number 20 (word_at words 1))
names_event spec words Release = true

-- Whether a line, given without its line feed, breaks rule `rule`. Only a line that has the form of a kind of event
-- can break rule 4.
abbrev pub breaks_event_rule : Parts → List ℕ → ℕ → Bool
breaks_event_rule spec line rule =
    if rule == BROKEN_LINE then not (is_legible line)
    else (if rule == UNKNOWN_WORD then not (is_some (verb_of line))
    else (if rule == NO_FORM then not (is_some (event_form line))
    else (if rule == UNKNOWN_EVENT then not (keeps (event_form line) (names_event spec (words_of line))) else false)))

-- A line that breaks no rule is read. For any other line, the broken rule with the lowest number is reported.
abbrev pub LeastEventRuleIsReported : Type 0
LeastEventRuleIsReported = (spec : Parts) (line : List ℕ) → ReportsLeast (breaks_event_rule spec line) (event_read spec line)
