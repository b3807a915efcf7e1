-- What a row shows in a lane can be recovered from the title of the row's box.
use Rattle.std.proofs.Common.{◌≡◌, ℕ, ◌+◌, ◌<◌, ◌^◌, Bool, true, List, [], ◌∷◌, ◌++◌, Option, Some, None, IsSome, length, decimal, refl, sym, ap, arith, append_assoc, ◌∙◌}
use Rattle.std.specs.Prelude.{◌==◌, codes, slice_get, slice_index}
use Rattle.std.specs.Option.{option_map_or}
use Rattle.std.proofs.lemmas.Bool.{and_from, eq-eqb}
use Rattle.std.proofs.lemmas.Fmt.{decimal_injective}
use Rattle.std.proofs.lemmas.List.{append_cancel_left}
use Rattle.scram_types.specs.Bits.{has_bit}
use Rattle.scram_types.specs.Lookups.{conf_name, kind_of_app, number_from, proc_name, value_name}
use Rattle.scram_types.specs.Names.{is_name}
use Rattle.scram_types.specs.Specification.{HasValueNames, IsSpec, Parts, mode_in}
use Rattle.scram_types.specs.declared.rows.Row.{Row}
use Rattle.scram_types.specs.declared.ids.Mode.{Mode}
use Rattle.scram_types.specs.declared.ids.ProcId.{ProcId}
use Rattle.scram_types.specs.declared.orders.Act.{Act}
use Rattle.scram_types.specs.declared.orders.Act.TheVariants.{Ran, Halting, Held, Preparing, Initialising, Off, Lost}
use Rattle.scram_types.specs.declared.specification.AppSpec.{AppSpec}
use Rattle.scram_types.specs.declared.specification.Conf.{Conf}
use Rattle.scram_types.specs.declared.specification.Factor.{Factor}
use Rattle.scram_types.specs.declared.specification.Proc.{Proc}
use Rattle.scram_types.proofs.Items.{some_item}
use Rattle.scram_types.proofs.Options.{same_some}
use Rattle.kind_table.specs.Names.{mode_text, number_in}
use Rattle.trace_text.specs.Flights.{IsActShown}
use Rattle.trace_text.specs.Lookups.{listed_mode}
use Rattle.trace_text.proofs.NamesBack.{listed_back, mode_spelled, mode_valid, proc_back}
use Rattle.trace_text.proofs.WordBytes.{all_over, all_over_less, decimal_over, name_over, over}
use Rattle.flight_facts.specs.Acts.{act_of, act_word, word_number, word_text}
use Rattle.flight_facts.specs.Spans.{are_alike, same_bit, same_doing}
use Rattle.flight_facts.specs.declared.acts.ActWord.{ActWord}
use Rattle.flight_facts.specs.declared.acts.ActWord.TheVariants as word
use Rattle.flight_facts.specs.declared.spans.Lane.{Lane}
use Rattle.flight_facts.specs.declared.spans.Lane.TheVariants.{Configuration, Factor as InFactor, Processor as InProcessor, Application as InApplication}
use Rattle.picture_form.specs.Laws.{IsRowDrawn}
use Rattle.picture_form.specs.Spans.{act_label, class_text, label_of, lane_name, mode_and_proc, value_in, words_text}
use Rattle.picture_form.proofs.Cuts.{both_over, field}
use Rattle.picture_form.proofs.RectsBack.{frames_same, frames_tail}

-- Lemmas that all bytes of names are from 48 to 126.

option_over : {A : Type 0} (name : A → List ℕ) (o : Option A) → ((x : A) → o ≡ Some x → is_name (name x) ≡ true) → all_over 48 (option_map_or name o []) ≡ true
option_over name None h = refl
option_over name (Some x) h = name_over (name x) (h x refl)

pub proc_name_over : (spec : Parts) (p : ℕ) → IsSpec spec → all_over 48 (proc_name spec p) ≡ true
proc_name_over spec p sound = option_over (λ (proc : Proc). proc.name) (slice_get spec.procs p) (sound.names.procs p)

pub conf_name_over : (spec : Parts) (c : ℕ) → IsSpec spec → all_over 48 (conf_name spec c) ≡ true
conf_name_over spec c sound = option_over (λ (conf : Conf). conf.name) (slice_get spec.confs c) (sound.names.confs c)

pub lane_name_over : (spec : Parts) (lane : Lane) → IsSpec spec → all_over 48 (lane_name spec lane) ≡ true
lane_name_over spec Configuration sound = refl
lane_name_over spec (InFactor i) sound = option_over (λ (factor : Factor). factor.name) (slice_get spec.factors i) (sound.names.factors i)
lane_name_over spec (InProcessor p) sound = proc_name_over spec p sound
lane_name_over spec (InApplication a) sound = option_over (λ (app : AppSpec). app.name) (slice_get spec.apps a) (sound.names.apps a)

value_by : (o : Option Factor) (v : ℕ) → ((factor : Factor) → o ≡ Some factor → HasValueNames factor) → all_over 48 (option_map_or (λ (factor : Factor). value_name factor v) o []) ≡ true
value_by None v h = refl
value_by (Some factor) v h = option_over (λ (name : List ℕ). name) (slice_get factor.values v) (h factor refl v)

value_over : (spec : Parts) (i : ℕ) (row : Row) → IsSpec spec → all_over 48 (value_in spec i row) ≡ true
value_over spec i row sound = value_by (slice_get spec.factors i) (slice_index row.env.factors i) (sound.names.values i)

word_over : (what : ActWord) → all_over 48 (word_text what) ≡ true
word_over word.Ran = refl
word_over word.Halting = refl
word_over word.Preparing = refl
word_over word.Initialising = refl
word_over word.Held = refl
word_over word.Off = refl
word_over word.Lost = refl

pub plain : (text : List ℕ) → all_over 48 text ≡ true → all_over 32 text ≡ true
plain text e = all_over_less 32 48 text (omega arith) e

-- The lane is the lane of a factor, a processor or an application. If it is the lane of an application, the
-- specification has the application.
abbrev pub IsShownIn : Parts → Lane → Type 0
IsShownIn spec Configuration = ⊥
IsShownIn spec (InFactor i) = Unit {0}
IsShownIn spec (InProcessor p) = Unit {0}
IsShownIn spec (InApplication a) = a < length spec.apps

-- Whether a row has a box in the lane of a factor, a processor or an application. Only a processor that is down has
-- no box.
abbrev pub is_seen : Lane → Row → Bool
is_seen Configuration row = true
is_seen (InFactor i) row = true
is_seen (InProcessor p) row = has_bit row.env.up p
is_seen (InApplication a) row = true

pub class_over : (spec : Parts) (lane : Lane) (row : Row) → IsRowDrawn spec row → all_over 48 (class_text lane row) ≡ true
class_over spec Configuration row known = refl
class_over spec (InFactor i) row known = let v = known.values i in decimal_over (slice_index row.env.factors i) (omega (arith, v))
class_over spec (InProcessor p) row known = refl
class_over spec (InApplication a) row known = word_over (act_word (act_of row a))

-- Lemmas that all bytes in the texts of an act are from 32 to 126.

mode_over : (spec : Parts) (a : ℕ) (app : AppSpec) (mode : Mode) → IsSpec spec → slice_get spec.apps a ≡ Some app → IsSome (mode_in app.modes mode.0) → all_over 48 (mode_text app.kind.0 mode.0) ≡ true
mode_over spec a app mode sound there listed =
    let facts = sound.apps a app there in
    name_over (mode_text app.kind.0 mode.0) (mode_spelled app.kind.0 facts.kind mode.0 (mode_valid app.kind.0 app.modes mode.0 facts.modes listed))

proc_visible : (spec : Parts) (p : ℕ) → IsSpec spec → all_over 32 (codes " " ++ proc_name spec p) ≡ true
proc_visible spec p sound = plain (proc_name spec p) (proc_name_over spec p sound)

ran_whole : (mode proc : List ℕ) → codes " " ++ mode ++ codes " " ++ proc ≡ codes " " ++ (mode ++ (codes " " ++ proc))
ran_whole mode proc = simp append_assoc

doing_plain : (spec : Parts) (a : ℕ) (app : AppSpec) (act : Act) → IsSpec spec → slice_get spec.apps a ≡ Some app → IsActShown spec app act → all_over 32 (mode_and_proc spec app.kind.0 act) ≡ true
doing_plain spec a app (Ran mode proc) sound there shown =
    ap (all_over 32) (ran_whole (mode_text app.kind.0 mode.0) (proc_name spec proc.0))
    ∙ both_over 32 (mode_text app.kind.0 mode.0) (codes " " ++ proc_name spec proc.0) (plain (mode_text app.kind.0 mode.0) (mode_over spec a app mode sound there shown.listed)) (proc_visible spec proc.0 sound)
doing_plain spec a app (Halting k n proc) sound there shown = proc_visible spec proc.0 sound
doing_plain spec a app Held sound there shown = refl
doing_plain spec a app (Preparing k n proc) sound there shown = proc_visible spec proc.0 sound
doing_plain spec a app (Initialising k n proc) sound there shown = proc_visible spec proc.0 sound
doing_plain spec a app Off sound there shown = refl
doing_plain spec a app Lost sound there shown = refl

act_label_plain : (spec : Parts) (a : ℕ) (app : AppSpec) (act : Act) → IsSpec spec → slice_get spec.apps a ≡ Some app → IsActShown spec app act → all_over 32 (act_label spec app.kind.0 act) ≡ true
act_label_plain spec a app (Ran mode proc) sound there shown =
    simp append_assoc (both_over 32 (mode_text app.kind.0 mode.0) (codes " " ++ proc_name spec proc.0) (plain (mode_text app.kind.0 mode.0) (mode_over spec a app mode sound there shown.listed)) (proc_visible spec proc.0 sound))
act_label_plain spec a app (Halting k n proc) sound there shown = refl
act_label_plain spec a app Held sound there shown = refl
act_label_plain spec a app (Preparing k n proc) sound there shown = refl
act_label_plain spec a app (Initialising k n proc) sound there shown = refl
act_label_plain spec a app Off sound there shown = refl
act_label_plain spec a app Lost sound there shown = refl

kind_is : (spec : Parts) (a : ℕ) (app : AppSpec) → slice_get spec.apps a ≡ Some app → kind_of_app spec a ≡ app.kind.0
kind_is spec a app there = rw there refl

pub words_plain : (spec : Parts) (lane : Lane) (row : Row) → IsSpec spec → IsShownIn spec lane → IsRowDrawn spec row → all_over 32 (words_text spec lane row) ≡ true
words_plain spec Configuration row sound inside known = refl
words_plain spec (InFactor i) row sound inside known = plain (value_in spec i row) (value_over spec i row sound)
words_plain spec (InProcessor p) row sound inside known = refl
words_plain spec (InApplication a) row sound inside known = some_item spec.apps a inside (λ app there.
    both_over 32 (word_text (act_word (act_of row a))) (mode_and_proc spec (kind_of_app spec a) (act_of row a)) (plain (word_text (act_word (act_of row a))) (word_over (act_word (act_of row a))))
    (ap (λ (kind : ℕ). all_over 32 (mode_and_proc spec kind (act_of row a))) (kind_is spec a app there) ∙ doing_plain spec a app (act_of row a) sound there (known.acts a app there)))

pub label_words_plain : (spec : Parts) (lane : Lane) (row : Row) → IsSpec spec → IsShownIn spec lane → IsRowDrawn spec row → all_over 32 (label_of spec lane row) ≡ true
label_words_plain spec Configuration row sound inside known = refl
label_words_plain spec (InFactor i) row sound inside known = plain (value_in spec i row) (value_over spec i row sound)
label_words_plain spec (InProcessor p) row sound inside known = refl
label_words_plain spec (InApplication a) row sound inside known = some_item spec.apps a inside (λ app there.
    ap (λ (kind : ℕ). all_over 32 (act_label spec kind (act_of row a))) (kind_is spec a app there) ∙ act_label_plain spec a app (act_of row a) sound there (known.acts a app there))

-- Different acts have different words.

word_names : List (Option (List ℕ))
word_names = Some (codes "ran") ∷ Some (codes "halting") ∷ Some (codes "preparing") ∷ Some (codes "initialising") ∷ Some (codes "held") ∷ Some (codes "off") ∷ Some (codes "lost") ∷ []

word_found : (what : ActWord) → number_in word_names (word_text what) ≡ Some (word_number what)
unfolding word_names
word_found word.Ran = refl
word_found word.Halting = refl
word_found word.Preparing = refl
word_found word.Initialising = refl
word_found word.Held = refl
word_found word.Off = refl
word_found word.Lost = refl

words_differ : (what other : ActWord) → word_text what ≡ word_text other → word_number what ≡ word_number other
words_differ what other e = same_some (word_number what) (word_number other) (sym (word_found what) ∙ ap (number_in word_names) e ∙ word_found other)

-- Two boxes begin in rows `k` and `j`, and have `n + 1` and `m + 1` rows. The first rows of the boxes look alike, and
-- the boxes begin in the same row and have the same number of rows.
pub record SameEnds (k n j m : ℕ) (alike : Bool) : Type 0 where
  pub same : alike ≡ true
  pub first : k ≡ j
  pub rows : n ≡ m

proc_same : (spec : Parts) (p q : ProcId) (k n j m : ℕ) (r s : List ℕ) → IsSpec spec → p.0 < length spec.procs → q.0 < length spec.procs → k + n < 2 ^ 64 → j + m < 2 ^ 64
    → proc_name spec p.0 ++ 32 ∷ (frames_tail k n ++ 60 ∷ r) ≡ proc_name spec q.0 ++ 32 ∷ (frames_tail j m ++ 60 ∷ s) → SameEnds k n j m (p.0 == q.0)
proc_same spec p q k n j m r s sound on other_on few fits h =
    let parts = field (over 48) 32 (proc_name spec p.0) (proc_name spec q.0) (frames_tail k n ++ 60 ∷ r) (frames_tail j m ++ 60 ∷ s) refl
    (proc_name_over spec p.0 sound) (proc_name_over spec q.0 sound) h in
    let ends = frames_same k n j m r s few fits parts.1 in
    let found : Some p.0 ≡ Some q.0 = sym (proc_back spec p sound on).found
    ∙ ap (λ (text : List ℕ). number_from (λ (proc : Proc). proc.name) 0 spec.procs text) parts.0 ∙ (proc_back spec q sound other_on).found in
    record { same = eq-eqb p.0 q.0 (same_some p.0 q.0 found); first = ends.0; rows = ends.1 }

ran_grouped : (mode proc rest : List ℕ) → (codes " " ++ mode ++ codes " " ++ proc) ++ rest ≡ codes " " ++ (mode ++ 32 ∷ (proc ++ rest))
ran_grouped mode proc rest = simp append_assoc

doing_same : (act other : Act) (spec : Parts) (a : ℕ) (app : AppSpec) (k n j m : ℕ) (r s : List ℕ) → IsSpec spec → slice_get spec.apps a ≡ Some app → IsActShown spec app act → IsActShown spec app other
    → k + n < 2 ^ 64 → j + m < 2 ^ 64 → word_number (act_word act) ≡ word_number (act_word other)
    → mode_and_proc spec app.kind.0 act ++ 32 ∷ (frames_tail k n ++ 60 ∷ r) ≡ mode_and_proc spec app.kind.0 other ++ 32 ∷ (frames_tail j m ++ 60 ∷ s)
    → SameEnds k n j m (same_doing act other)
doing_same (Ran mode p) (Ran next q) spec a app k n j m r s sound there shown seen few fits e h =
    let here : List ℕ = 32 ∷ (frames_tail k n ++ 60 ∷ r) in
    let beside : List ℕ = 32 ∷ (frames_tail j m ++ 60 ∷ s) in
    let whole : mode_text app.kind.0 mode.0 ++ 32 ∷ (proc_name spec p.0 ++ here) ≡ mode_text app.kind.0 next.0 ++ 32 ∷ (proc_name spec q.0 ++ beside)
    = append_cancel_left (codes " ") _ _ (sym (ran_grouped (mode_text app.kind.0 mode.0) (proc_name spec p.0) here) ∙ h ∙ ran_grouped (mode_text app.kind.0 next.0) (proc_name spec q.0) beside) in
    let parts = field (over 48) 32 (mode_text app.kind.0 mode.0) (mode_text app.kind.0 next.0) (proc_name spec p.0 ++ here) (proc_name spec q.0 ++ beside) refl
    (mode_over spec a app mode sound there shown.listed) (mode_over spec a app next sound there seen.listed) whole in
    let found : Some mode ≡ Some next = sym (listed_back spec a app mode sound there shown.listed) ∙ ap (listed_mode spec a) parts.0 ∙ listed_back spec a app next sound there seen.listed in
    let ends = proc_same spec p q k n j m r s sound shown.on seen.on few fits parts.1 in
    let modes : mode.0 ≡ next.0 = ap (λ (x : Mode). x.0) (same_some mode next found) in
    record { same = and_from (mode.0 == next.0) (p.0 == q.0) (eq-eqb mode.0 next.0 modes) ends.same; first = ends.first; rows = ends.rows }
doing_same (Halting f g p) (Halting u v q) spec a app k n j m r s sound there shown seen few fits e h =
    proc_same spec p q k n j m r s sound shown.on seen.on few fits (append_cancel_left (codes " ") _ _ h)
doing_same (Preparing f g p) (Preparing u v q) spec a app k n j m r s sound there shown seen few fits e h =
    proc_same spec p q k n j m r s sound shown.on seen.on few fits (append_cancel_left (codes " ") _ _ h)
doing_same (Initialising f g p) (Initialising u v q) spec a app k n j m r s sound there shown seen few fits e h =
    proc_same spec p q k n j m r s sound shown.on seen.on few fits (append_cancel_left (codes " ") _ _ h)
doing_same Held Held spec a app k n j m r s sound there shown seen few fits e h =
    let ends = frames_same k n j m r s few fits (append_cancel_left (codes " ") _ _ h) in record { same = refl; first = ends.0; rows = ends.1 }
doing_same Off Off spec a app k n j m r s sound there shown seen few fits e h =
    let ends = frames_same k n j m r s few fits (append_cancel_left (codes " ") _ _ h) in record { same = refl; first = ends.0; rows = ends.1 }
doing_same Lost Lost spec a app k n j m r s sound there shown seen few fits e h =
    let ends = frames_same k n j m r s few fits (append_cancel_left (codes " ") _ _ h) in record { same = refl; first = ends.0; rows = ends.1 }
doing_same act other spec a app k n j m r s sound there shown seen few fits e h = absurd (omega (arith, e))

same_bits : (p set other : ℕ) → has_bit set p ≡ true → has_bit other p ≡ true → same_bit p set other ≡ true
same_bits p set other e f = rw (e, f) refl

-- If two boxes have the same class, and the texts from their words on are equal, the first rows of the boxes look
-- alike, and the boxes begin in the same row and have the same number of rows.
pub shown_same : (lane : Lane) (spec : Parts) (row other : Row) (k n j m : ℕ) (r s : List ℕ) → IsSpec spec → IsShownIn spec lane → IsRowDrawn spec row → IsRowDrawn spec other
    → is_seen lane row ≡ true → is_seen lane other ≡ true → k + n < 2 ^ 64 → j + m < 2 ^ 64 → class_text lane row ≡ class_text lane other
    → words_text spec lane row ++ 32 ∷ (frames_tail k n ++ 60 ∷ r) ≡ words_text spec lane other ++ 32 ∷ (frames_tail j m ++ 60 ∷ s) → SameEnds k n j m (are_alike lane row other)
shown_same Configuration spec row other k n j m r s sound inside known drawn one two few fits e h = absurd inside
shown_same (InFactor i) spec row other k n j m r s sound inside known drawn one two few fits e h =
    let v = known.values i in
    let w = drawn.values i in
    let digits : decimal (slice_index row.env.factors i) ≡ decimal (slice_index other.env.factors i) = append_cancel_left (codes "v") _ _ e in
    let same : slice_index row.env.factors i ≡ slice_index other.env.factors i = decimal_injective _ _ (omega (arith, v)) (omega (arith, w)) digits in
    let named : value_in spec i row ≡ value_in spec i other
    = ap (λ (value : ℕ). option_map_or (λ (factor : Factor). value_name factor value) (slice_get spec.factors i) []) same in
    let rest : value_in spec i other ++ 32 ∷ (frames_tail k n ++ 60 ∷ r) ≡ value_in spec i other ++ 32 ∷ (frames_tail j m ++ 60 ∷ s)
    = ap (λ (text : List ℕ). text ++ 32 ∷ (frames_tail k n ++ 60 ∷ r)) (sym named) ∙ h in
    let ends = frames_same k n j m r s few fits (append_cancel_left (codes " ") _ _ (append_cancel_left (value_in spec i other) _ _ rest)) in
    record { same = eq-eqb _ _ same; first = ends.0; rows = ends.1 }
shown_same (InProcessor p) spec row other k n j m r s sound inside known drawn one two few fits e h =
    let ends = frames_same k n j m r s few fits (append_cancel_left (codes "up ") _ _ h) in
    record { same = same_bits p row.env.up other.env.up one two; first = ends.0; rows = ends.1 }
shown_same (InApplication a) spec row other k n j m r s sound inside known drawn one two few fits e h = some_item spec.apps a inside (λ app there.
    let kind = kind_is spec a app there in
    let here : List ℕ = 32 ∷ (frames_tail k n ++ 60 ∷ r) in
    let beside : List ℕ = 32 ∷ (frames_tail j m ++ 60 ∷ s) in
    let word_here = word_text (act_word (act_of row a)) in
    let word_beside = word_text (act_word (act_of other a)) in
    let given : word_here ++ (mode_and_proc spec (kind_of_app spec a) (act_of row a) ++ here) ≡ word_beside ++ (mode_and_proc spec (kind_of_app spec a) (act_of other a) ++ beside)
    = sym (append_assoc word_here (mode_and_proc spec (kind_of_app spec a) (act_of row a)) here) ∙ h ∙ append_assoc word_beside (mode_and_proc spec (kind_of_app spec a) (act_of other a)) beside in
    let rest : mode_and_proc spec (kind_of_app spec a) (act_of row a) ++ here ≡ mode_and_proc spec (kind_of_app spec a) (act_of other a) ++ beside
    = append_cancel_left word_beside _ _ (ap (λ (text : List ℕ). text ++ (mode_and_proc spec (kind_of_app spec a) (act_of row a) ++ here)) (sym e) ∙ given) in
    let last : mode_and_proc spec app.kind.0 (act_of row a) ++ here ≡ mode_and_proc spec app.kind.0 (act_of other a) ++ beside
    = ap (λ (number : ℕ). mode_and_proc spec number (act_of row a) ++ here) (sym kind) ∙ rest ∙ ap (λ (number : ℕ). mode_and_proc spec number (act_of other a) ++ beside) kind in
    doing_same (act_of row a) (act_of other a) spec a app k n j m r s sound there (known.acts a app there) (drawn.acts a app there) few fits
    (words_differ (act_word (act_of row a)) (act_word (act_of other a)) e) last)
