-- The rule that is reported for a line is the first rule that the line breaks.
use Rattle.std.proofs.Common.{ℕ, ◌≡◌, ◌≤◌, ◌∙◌, Bool, true, false, List, [], ◌∷◌, Option, Some, None, Result, Ok, Err, length, arith, refl, ap}
use Rattle.std.specs.Prelude.{◌==◌, ◌&&◌, is_some, nat_le, option_and_then, option_map, if◌then◌else◌}
use Rattle.std.specs.List.{list_all}
use Rattle.std.proofs.lemmas.Bool.Decides.{nat_tests}
use Rattle.std.proofs.lemmas.Bool.{eqb-true}
use Rattle.scram_types.specs.Specification.{Parts}
use Rattle.scram_types.specs.Lookups.{proc_named}
use Rattle.bank_words.specs.declared.events.Event.{Event}
use Rattle.bank_words.specs.declared.events.Event.TheVariants as event
use Rattle.fault_script.specs.Times.{words as width_of}
use Rattle.trace_text.specs.LineRules.{keeps}
use Rattle.trace_text.specs.Pieces.{is_filled, word_at, words_of}
use Rattle.trace_text.specs.Rules.{or_rule}
use Rattle.trace_text.specs.Spelling.{spelled_number}
use Rattle.trace_text.proofs.FirstBroken.{least_from, reports_least, told_by}
use Rattle.schedule_replay.specs.declared.rule.TheConstants.{BROKEN_LINE, NO_FORM, UNKNOWN_EVENT, UNKNOWN_WORD}
use Rattle.schedule_replay.specs.declared.verbs.Verb.{Verb}
use Rattle.schedule_replay.specs.declared.verbs.Verb.TheVariants.{Start, Look, Store, Flip, Done, Halt, Note, KernelStore, Release}
use Rattle.schedule_replay.specs.LineRules.{LeastEventRuleIsReported, event_form, has_words, names_event}
use Rattle.schedule_replay.specs.Reading.{event_read, event_told, is_legible, line_event, proc_in, verb_of, words_counted, words_for}
use Rattle.schedule_replay.specs.Verbs.{word_count}

one_told : {A B : Type 0} (make : A → B) (o : Option A) → is_some (option_map make o) ≡ is_some o
one_told make None = refl
one_told make (Some a) = refl

both_told : {A B C : Type 0} (make : A → B → C) (o : Option A) (other : Option B) → is_some (option_and_then (λ (a : A). option_map (make a) other) o) ≡ (is_some o && is_some other)
both_told make None other = refl
both_told make (Some a) other = one_told (make a) other

-- The words of a line encode an event if and only if they satisfy rule 4.
named : (spec : Parts) (words : List (List ℕ)) (verb : Verb) → is_some (event_told spec verb words) ≡ names_event spec words verb
named spec words Start = one_told event.Start (proc_in spec words)
named spec words Look = both_told event.Look (proc_in spec words) (proc_named spec (word_at words 2))
named spec words Store = both_told event.Store (proc_in spec words) (spelled_number (width_of spec) (word_at words 2))
named spec words Flip = one_told event.Flip (proc_in spec words)
named spec words Done = one_told event.Done (proc_in spec words)
named spec words Halt = one_told event.Halt (proc_in spec words)
named spec words Note = one_told event.KNote (proc_in spec words)
named spec words KernelStore = one_told event.KStore (spelled_number 20 (word_at words 1))
named spec words Release = refl

last_rule : (o : Option Event) (kept : Bool) → is_some o ≡ kept → told_by (or_rule UNKNOWN_EVENT o (λ (event : Event). Ok event)) ≡ least_from 4 (kept ∷ [])
last_rule None true is = cc
last_rule None false is = refl
last_rule (Some e) true is = refl
last_rule (Some e) false is = cc

-- Lemmas on rule 3. No event has more words than the 16 that a line of a trace may have.
few : (verb : Verb) → word_count verb ≤ 16
few Start = omega arith
few Look = omega arith
few Store = omega arith
few Flip = omega arith
few Done = omega arith
few Halt = omega arith
few Note = omega arith
few KernelStore = omega arith
few Release = omega arith

counted : (verb : Verb) (words : List (List ℕ)) (short filled right : Bool) → nat_le (length words) 16 ≡ short → (length words == word_count verb) ≡ right
    → option_and_then (words_counted verb) (if short && filled then Some words else None) ≡ (if filled && right then Some words else None)
counted verb words true true right is count = ap (λ b. if b then Some words else None) count
counted verb words true false right is count = refl
counted verb words false false right is count = refl
counted verb words false true false is count = refl
counted verb words false true true is count =
    let same : length words ≡ word_count verb = eqb-true (length words) (word_count verb) count in
    let low = few verb in
    let short : nat_le (length words) 16 ≡ true = grind (arith, nat_tests, same, low) in cc

formed : (verb : Verb) (line : List ℕ) → words_for verb line ≡ (if has_words (words_of line) verb then Some (words_of line) else None)
formed verb line =
    counted verb (words_of line) (nat_le (length (words_of line)) 16) (list_all is_filled (words_of line)) (length (words_of line) == word_count verb) refl refl

-- If the first word of a line is known, then the least of rules 3 and 4 that the line breaks is reported.
form_case : (spec : Parts) (line : List ℕ) (verb : Verb) (has : Bool) →
    told_by (or_rule NO_FORM (if has then Some (words_of line) else None) (λ (words : List (List ℕ)). or_rule UNKNOWN_EVENT (event_told spec verb words) (λ (event : Event). Ok event)))
    ≡ least_from 3 (is_some (if has then Some verb else None) ∷ keeps (if has then Some verb else None) (names_event spec (words_of line)) ∷ [])
form_case spec line verb true = last_rule (event_told spec verb (words_of line)) (names_event spec (words_of line) verb) (named spec (words_of line) verb)
form_case spec line verb false = refl

abbrev form_by : List ℕ → Option Verb → Option Verb
form_by line told = option_and_then (λ (verb : Verb). if has_words (words_of line) verb then Some verb else None) told

verb_case : (spec : Parts) (line : List ℕ) (told : Option Verb) →
    told_by (or_rule UNKNOWN_WORD told (λ (verb : Verb). or_rule NO_FORM (words_for verb line) (λ (words : List (List ℕ)). or_rule UNKNOWN_EVENT (event_told spec verb words) (λ (event : Event). Ok event))))
    ≡ least_from 2 (is_some told ∷ is_some (form_by line told) ∷ keeps (form_by line told) (names_event spec (words_of line)) ∷ [])
verb_case spec line None = refl
verb_case spec line (Some verb) =
    ap (λ (o : Option (List (List ℕ))). told_by (or_rule NO_FORM o (λ (words : List (List ℕ)). or_rule UNKNOWN_EVENT (event_told spec verb words) (λ (event : Event). Ok event)))) (formed verb line)
    ∙ form_case spec line verb (has_words (words_of line) verb)

legible_case : (legible : Bool) (read : Result Event ℕ) (more : List Bool) → told_by read ≡ least_from 2 more → told_by (if legible then read else Err BROKEN_LINE) ≡ least_from 1 (legible ∷ more)
legible_case true read more is = is
legible_case false read more is = refl

pub least_rule : LeastEventRuleIsReported
least_rule spec line =
    reports_least 1 (is_legible line ∷ is_some (verb_of line) ∷ is_some (event_form line) ∷ keeps (event_form line) (names_event spec (words_of line)) ∷ []) (event_read spec line)
    (legible_case (is_legible line) (line_event spec line) (is_some (verb_of line) ∷ is_some (event_form line) ∷ keeps (event_form line) (names_event spec (words_of line)) ∷ []) (verb_case spec line (verb_of line)))
