-- The line of an event encodes that event.
use Rattle.std.proofs.Common.{ℕ, ◌≡◌, ◌<◌, ◌≤◌, Bool, true, List, [], ◌∷◌, ◌++◌, Some, Ok, length, decimal, append_assoc, arith, refl, sym, ap, subst}
use Rattle.std.specs.Prelude.{◌==◌, ◌&&◌, codes, nat_le}
use Rattle.std.specs.List.{list_all}
use Rattle.std.proofs.lemmas.Bool.{and_from, and_parts, le-leb}
use Rattle.std.proofs.lemmas.Fmt.{length-decimal-le}
use Rattle.scram_types.specs.Lookups.{proc_name}
use Rattle.scram_types.specs.Specification.{IsSpec, Parts}
use Rattle.scram_types.specs.declared.ids.ProcId.{ProcId}
use Rattle.scram_types.proofs.FoundByName.{proc_found_back}
use Rattle.bank_words.specs.declared.events.Event.{Event}
use Rattle.bank_words.specs.declared.events.Event.TheVariants.{Start, Look, Store, Flip, Done, Halt, KNote, KStore, Release}
use Rattle.fault_script.specs.Times.{words as width_of}
use Rattle.trace_text.specs.TraceReading.{is_plain, is_printable}
use Rattle.scram_types.specs.declared.limits.TheConstants.{MAX_LINE_BYTES}
use Rattle.trace_text.proofs.LinesBack.{number_back}
use Rattle.trace_text.proofs.NamesBack.{proc_back}
use Rattle.trace_text.proofs.WordBytes.{decimal_visible, is_visible, line_length, line_of, line_plain, name_short, name_visible, width, words_back, words_in_back}
use Rattle.schedule_replay.specs.declared.verbs.Verb.{Verb}
use Rattle.schedule_replay.specs.declared.verbs.Verb.TheVariants as verb
use Rattle.schedule_replay.specs.Verbs.{verb_named, word_count}
use Rattle.schedule_replay.specs.Events.{HasEvent, event_text}
use Rattle.schedule_replay.specs.Reading.{event_read, event_told, is_legible}

-- The line, given without its line feed, is printable and encodes the event.
pub record LineBack (spec : Parts) (line : List ℕ) (event : Event) : Type 0 where
  pub plain : is_plain line ≡ true
  pub read : event_read spec line ≡ Ok event

legible : (word : List ℕ) (words : List (List ℕ)) → list_all is_visible (word ∷ words) ≡ true → width (word ∷ words) ≤ 65 → is_legible (line_of (word ∷ words)) ≡ true
legible word words visible short =
    let size = line_length word words in
    let plain = and_parts (nat_le (length (line_of (word ∷ words))) MAX_LINE_BYTES) (list_all is_printable (line_of (word ∷ words))) (line_plain word words visible (omega (arith, short))) in
    and_from _ _ (le-leb (length (line_of (word ∷ words))) 64 (omega (arith, size, short))) plain.1

from_words : (spec : Parts) (kind : Verb) (word : List ℕ) (words : List (List ℕ)) (event : Event) → list_all is_visible (word ∷ words) ≡ true → width (word ∷ words) ≤ 65
    → nat_le (length (word ∷ words)) 16 ≡ true → verb_named word ≡ Some kind → (length (word ∷ words) == word_count kind) ≡ true → event_told spec kind (word ∷ words) ≡ Some event
    → LineBack spec (line_of (word ∷ words)) event
from_words spec kind word words event visible short few named count told = record {
  plain = line_plain word words visible (omega (arith, short));
  read = rw (legible word words visible short, words_in_back word words visible few, words_back word words visible, named, count, told) refl;
}

-- The name of processor `p` satisfies `is_visible` and has at most 16 bytes.
record NameThere (spec : Parts) (p : ProcId) : Type 0 where
  visible : is_visible (proc_name spec p.0) ≡ true
  short : length (proc_name spec p.0) ≤ 16

name_there : (spec : Parts) (p : ProcId) → IsSpec spec → p.0 < length spec.procs → NameThere spec p
name_there spec p sound below =
    let spelled = (proc_back spec p sound below).spelled in
    record { visible = name_visible (proc_name spec p.0) spelled; short = name_short (proc_name spec p.0) spelled }

both : (a b : Bool) → a ≡ true → b ≡ true → (a && b) ≡ true
both a b e f = and_from a b e f

-- A line that consists of the word for a kind of event and the name of processor `p` encodes the event of this kind
-- for `p`.
of_proc : (spec : Parts) (kind : Verb) (word : List ℕ) (event : Event) (p : ProcId) → IsSpec spec → p.0 < length spec.procs → is_visible word ≡ true → length word ≤ 8
    → verb_named word ≡ Some kind → (2 == word_count kind) ≡ true → event_told spec kind (word ∷ proc_name spec p.0 ∷ []) ≡ Some event
    → LineBack spec (line_of (word ∷ proc_name spec p.0 ∷ [])) event
of_proc spec kind word event p sound below seen few named count told =
    let there = name_there spec p sound below in
    let short = there.short in
    from_words spec kind word (proc_name spec p.0 ∷ []) event (both (is_visible word) _ seen (both (is_visible (proc_name spec p.0)) true there.visible refl)) (omega (arith, few, short)) refl named count told

of_look : (spec : Parts) (p q : ProcId) → IsSpec spec → p.0 < length spec.procs → q.0 < length spec.procs
    → LineBack spec (line_of (codes "look" ∷ proc_name spec p.0 ∷ proc_name spec q.0 ∷ [])) (Look p q)
of_look spec p q sound below below2 =
    let there = name_there spec p sound below in
    let there2 = name_there spec q sound below2 in
    let short = there.short in
    let short2 = there2.short in
    from_words spec verb.Look (codes "look") (proc_name spec p.0 ∷ proc_name spec q.0 ∷ []) (Look p q)
    (both (is_visible (proc_name spec p.0)) _ there.visible (both (is_visible (proc_name spec q.0)) true there2.visible refl)) (omega (arith, short, short2)) refl refl refl
    (rw (proc_found_back spec p sound below, proc_found_back spec q sound below2) refl)

of_store : (spec : Parts) (p : ProcId) (i : ℕ) → IsSpec spec → p.0 < length spec.procs → i < width_of spec
    → LineBack spec (line_of (codes "store" ∷ proc_name spec p.0 ∷ decimal i ∷ [])) (Store p i)
of_store spec p i sound below low =
    let there = name_there spec p sound below in
    let short = there.short in
    let apps = sound.apps_count.few in
    let size = length-decimal-le 2 i (omega arith) (omega (arith, low, apps)) (omega (arith, low, apps)) in
    from_words spec verb.Store (codes "store") (proc_name spec p.0 ∷ decimal i ∷ []) (Store p i)
    (both (is_visible (proc_name spec p.0)) _ there.visible (both (is_visible (decimal i)) true (decimal_visible i (omega (arith, low, apps))) refl)) (omega (arith, short, size)) refl refl refl
    (rw (proc_found_back spec p sound below, number_back (width_of spec) i low (omega (arith, low, apps))) refl)

of_kernel_store : (spec : Parts) (i : ℕ) → i < 20 → LineBack spec (line_of (codes "kstore" ∷ decimal i ∷ [])) (KStore i)
of_kernel_store spec i low =
    let size = length-decimal-le 2 i (omega arith) (omega (arith, low)) (omega (arith, low)) in
    from_words spec verb.KernelStore (codes "kstore") (decimal i ∷ []) (KStore i) (both (is_visible (decimal i)) true (decimal_visible i (omega (arith, low))) refl) (omega (arith, size)) refl refl refl
    (rw (number_back 20 i low (omega (arith, low))) refl)

pub line_back : (spec : Parts) (event : Event) → IsSpec spec → HasEvent spec event → LineBack spec (event_text spec event) event
line_back spec (Start p) sound has = of_proc spec verb.Start (codes "start") (Start p) p sound has refl (omega arith) refl refl (rw (proc_found_back spec p sound has) refl)
line_back spec (Look p q) sound has =
    let text : event_text spec (Look p q) ≡ line_of (codes "look" ∷ proc_name spec p.0 ∷ proc_name spec q.0 ∷ []) = ap (λ (t : List ℕ). codes "look " ++ t) (append_assoc (proc_name spec p.0) (codes " ") (proc_name spec q.0)) in
    subst (λ (t : List ℕ). LineBack spec t (Look p q)) (sym text) (of_look spec p q sound has.0 has.1)
line_back spec (Store p i) sound has =
    let text : event_text spec (Store p i) ≡ line_of (codes "store" ∷ proc_name spec p.0 ∷ decimal i ∷ []) = ap (λ (t : List ℕ). codes "store " ++ t) (append_assoc (proc_name spec p.0) (codes " ") (decimal i)) in
    subst (λ (t : List ℕ). LineBack spec t (Store p i)) (sym text) (of_store spec p i sound has.0 has.1)
line_back spec (Flip p) sound has = of_proc spec verb.Flip (codes "flip") (Flip p) p sound has refl (omega arith) refl refl (rw (proc_found_back spec p sound has) refl)
line_back spec (Done p) sound has = of_proc spec verb.Done (codes "done") (Done p) p sound has refl (omega arith) refl refl (rw (proc_found_back spec p sound has) refl)
line_back spec (Halt p) sound has = of_proc spec verb.Halt (codes "halt") (Halt p) p sound has refl (omega arith) refl refl (rw (proc_found_back spec p sound has) refl)
line_back spec (KNote p) sound has = of_proc spec verb.Note (codes "note") (KNote p) p sound has refl (omega arith) refl refl (rw (proc_found_back spec p sound has) refl)
line_back spec (KStore i) sound has = of_kernel_store spec i has
line_back spec Release sound has = from_words spec verb.Release (codes "release") [] Release refl (omega arith) refl refl refl refl
