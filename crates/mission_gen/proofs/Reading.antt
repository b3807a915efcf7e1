-- Lemmas on `uav_text` and `generated_text`: each is read as a specification, of which it is the canonical text. The
-- reading is proved by computation.
use Rattle.std.proofs.Common.{◌≡◌, refl, ap, sym, ◌∙◌, ℕ, List, [], ◌∷◌, length}
use Rattle.std.specs.Prelude.{Bool, true, false, ◌&&◌, drop, slice_index, nat_le, nat_lt, Option, Some, None, Result, Ok, Err, IfOk, map}
use Rattle.std.specs.Fmt.{digits}
use Rattle.std.specs.List.{list_all}
use Rattle.std.specs.Str.{IsAscii}
use Rattle.std.proofs.lemmas.Bool.{ltb-true}
use Rattle.std.proofs.lemmas.Option.{same_Some}
use Rattle.std.proofs.lemmas.Str.{IsUtf8-from_ascii, is_utf8-from_IsUtf8}
use Rattle.std.proofs.lemmas.Str.Ascii.{IsAscii-cons, IsAscii-nil}
use Rattle.json.specs.Json.{value}
use Rattle.json.specs.Lex.{lex, punctuate}
use Rattle.json.specs.Print.{escape_byte}
use Rattle.json.specs.Text.{content}
use Rattle.json.specs.Word.{word, after_number}
use Rattle.fast_float.specs.Text.{scan}
use Rattle.serde_json.specs.Data.{Data}
use Rattle.serde_json.specs.Read.{read, number_of}
use Rattle.scram_types.specs.declared.limits.TheConstants.{MAX_SPECIFICATION_BYTES}
use Rattle.scram_types.specs.declared.specification.Factor.{Factor}
use Rattle.scram_types.specs.Specification.{Parts}
use Rattle.scram_types.proofs.Booleans.{and_right, and_left}
use Rattle.scram_doc.specs.declared.fault.DocFault.{DocFault}
use Rattle.scram_doc.specs.declared.rule.TheConstants.{NO_JSON_TEXT}
use Rattle.scram_doc.specs.Chain.{chain, ok_map}
use Rattle.scram_doc.specs.Faults.{or_broken}
use Rattle.reconf_spec.specs.Texts.{spec_text}
use Rattle.spec_reading.specs.Documents.{spec_in, spec_of}
use Rattle.mission_gen.specs.Specifications.{GivesSpecification, generated_text, uav_text, with_further_factors}
use Rattle.mission_gen.proofs.Fitting.{HasCounts}

-- The result of reading a text as a specification, if the text is not too long and is UTF-8.
abbrev pub reading : List ℕ → Result Parts DocFault
reading text = chain (or_broken NO_JSON_TEXT [] (read text)) (λ (d : Data). spec_in d)

abbrev pub is_ok : {A E : Type 0} → Result A E → Bool
is_ok (Ok a) = true
is_ok (Err e) = false

-- The number of processors, the number of applications, the failure assumption, and the number of values of each
-- factor.
abbrev pub counts_in : Parts → List ℕ
counts_in spec = length spec.procs ∷ length spec.apps ∷ spec.halts ∷ spec.changes ∷ spec.window ∷ map (λ (factor : Factor). length factor.values) spec.factors

abbrev pub counts : Result Parts DocFault → Option (List ℕ)
counts (Ok spec) = Some (counts_in spec)
counts (Err fault) = None

uav_reads : is_ok (reading uav_text) ≡ true
unfolding uav_text value lex punctuate content word after_number number_of scan
uav_reads = refl

generated_reads : counts (reading generated_text) ≡ Some (2 ∷ 3 ∷ 1 ∷ 1 ∷ 40 ∷ 2 ∷ 2 ∷ 4 ∷ 4 ∷ 4 ∷ 4 ∷ [])
unfolding generated_text value lex punctuate content word after_number number_of scan
generated_reads = refl

abbrev is_plain : List ℕ → Bool
is_plain text = list_all (λ (b : ℕ). nat_lt b 128) text && nat_le (length text) MAX_SPECIFICATION_BYTES

uav_is_plain : is_plain uav_text ≡ true
unfolding uav_text
uav_is_plain = refl

generated_is_plain : is_plain generated_text ≡ true
unfolding generated_text
generated_is_plain = refl

ascii : (text : List ℕ) → list_all (λ (b : ℕ). nat_lt b 128) text ≡ true → IsAscii text
ascii [] plain = IsAscii-nil
ascii (b ∷ text) plain = IsAscii-cons b text (ltb-true b 128 (and_left (nat_lt b 128) _ plain)) (ascii text (and_right (nat_lt b 128) _ plain))

plain_read : (text : List ℕ) → is_plain text ≡ true → spec_of text ≡ reading text
plain_read text plain =
    let utf8 = is_utf8-from_IsUtf8 text (IsUtf8-from_ascii text (ascii text (and_left _ _ plain))) in
    rw (and_right (list_all (λ (b : ℕ). nat_lt b 128) text) _ plain, utf8) refl

given_if : (r : Result Parts DocFault) → is_ok r ≡ true → (spec : Parts) × (r ≡ Ok spec)
given_if (Ok spec) ok = (spec, refl)
given_if (Err fault) ok = absurd cc

gives : (text : List ℕ) → is_plain text ≡ true → is_ok (reading text) ≡ true → GivesSpecification text
gives text plain ok =
    let known = given_if (reading text) ok in
    record { spec = known.0; given = plain_read text plain ∙ known.1 }

pub uav_given : GivesSpecification uav_text
uav_given = gives uav_text uav_is_plain uav_reads

ok_if : (r : Result Parts DocFault) (ns : List ℕ) → counts r ≡ Some ns → is_ok r ≡ true
ok_if (Ok spec) ns known = refl
ok_if (Err fault) ns known = absurd cc

pub generated_given : GivesSpecification generated_text
generated_given = gives generated_text generated_is_plain (ok_if (reading generated_text) _ generated_reads)

has_counts : (spec : Parts) → counts_in spec ≡ 2 ∷ 3 ∷ 1 ∷ 1 ∷ 40 ∷ 2 ∷ 2 ∷ 4 ∷ 4 ∷ 4 ∷ 4 ∷ [] → HasCounts spec
has_counts spec known = record {
  procs = ap (λ (xs : List ℕ). slice_index xs 0) known;
  apps = ap (λ (xs : List ℕ). slice_index xs 1) known;
  halts = ap (λ (xs : List ℕ). slice_index xs 2) known;
  changes = ap (λ (xs : List ℕ). slice_index xs 3) known;
  window = ap (λ (xs : List ℕ). slice_index xs 4) known;
  values = ap (λ (xs : List ℕ). drop 5 xs) known;
}

pub generated_counts : (spec : Parts) → spec_of generated_text ≡ Ok spec → HasCounts spec
generated_counts spec given =
    let read : counts (Ok spec) ≡ counts (reading generated_text) = ap counts (sym given ∙ plain_read generated_text generated_is_plain) in
    has_counts spec (same_Some _ _ (read ∙ generated_reads))

-- The canonical text of the specification that was read, or the empty text if no specification was read.
abbrev canonical : Result Parts DocFault → List ℕ
canonical (Ok spec) = spec_text spec
canonical (Err fault) = []

uav_written : canonical (reading uav_text) ≡ uav_text
unfolding uav_text value lex punctuate content word after_number number_of scan escape_byte digits
uav_written = refl

generated_written : canonical (reading generated_text) ≡ generated_text
unfolding generated_text value lex punctuate content word after_number number_of scan escape_byte digits
generated_written = refl

pub uav_canonical : (spec : Parts) → spec_of uav_text ≡ Ok spec → spec_text spec ≡ uav_text
uav_canonical spec given = ap canonical (sym given ∙ plain_read uav_text uav_is_plain) ∙ uav_written

pub generated_canonical : (spec : Parts) → spec_of generated_text ≡ Ok spec → spec_text spec ≡ generated_text
generated_canonical spec given = ap canonical (sym given ∙ plain_read generated_text generated_is_plain) ∙ generated_written

-- The first reading gives what the second one gives, with the further factors. Two specifications are compared in a
-- tenth of the steps that two readings take.
abbrev adds_factors : Result Parts DocFault → Result Parts DocFault → Type 0
adds_factors (Ok more) (Ok spec) = more ≡ with_further_factors spec
adds_factors (Err fault) given = ⊥
adds_factors (Ok more) (Err fault) = ⊥

generated_adds : adds_factors (reading generated_text) (reading uav_text)
unfolding generated_text uav_text value lex punctuate content word after_number number_of scan
generated_adds = refl

further_if : (r given : Result Parts DocFault) → adds_factors r given → r ≡ ok_map with_further_factors given
further_if (Ok more) (Ok spec) adds = ap Ok adds
further_if (Err fault) given adds = absurd adds
further_if (Ok more) (Err fault) adds = absurd adds

pub generated_from_uav : (spec : Parts) → spec_of generated_text ≡ Ok spec → ok_map with_further_factors (spec_of uav_text) ≡ Ok spec
generated_from_uav spec given =
    ap (ok_map with_further_factors) (plain_read uav_text uav_is_plain)
    ∙ sym (further_if (reading generated_text) (reading uav_text) generated_adds) ∙ sym (plain_read generated_text generated_is_plain) ∙ given

pub if_ok_more : {A E : Type 0} (P Q : A → Type 0) (r : Result A E) → ((a : A) → P a → Q a) → IfOk r P → IfOk r Q
if_ok_more P Q (Ok a) more known = more a known
if_ok_more P Q (Err e) more known = tt
