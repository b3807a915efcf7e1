-- Lemmas on the answer of a form, given the files that it loaded.
use Rattle.std.proofs.Common.{◌≡◌, ℕ, ◌≤◌, List, [], ◌∷◌, refl, sym, ◌∙◌, ap, inl, inr, arith}
use Rattle.std.specs.Prelude.{Bool, Option, Some, None, IfSome, IsSome, IsTrue, ◌⊎◌, ◌<◌, Result, Ok, Err, ⊤}
use Rattle.scram_io.specs.Outside.{FileMap, FilesState, Grew, History, Rose, SinkState, StaysSteady, Unrisen, file_at, greatest_count}
use Rattle.scram_io.proofs.Histories.{grew_more, grew_none}
use Rattle.form_base.specs.declared.refusals.Refusal.{Refusal}
use Rattle.form_base.specs.declared.status.TheConstants.{UNREAD_FILE}
use Rattle.form_base.specs.Answers.{Answer, AnswersDocument, AnswersFile, WithoutFiles}
use Rattle.form_base.specs.Endings.{AreInTurn, AreThere, Decides, Ends, IsMemoryRefusal, IsTaken, Prepares, PreparesWithoutFiles, StaysQuiet, PrintsAnswer}
use Rattle.form_base.specs.Loads.{HasRead, IsOutOfMemory, IsUnloaded}
use Rattle.form_base.specs.Refusals.{answer_of}

-- Lemmas on fault counts: if the files are steady and the named files exist, reading them raises no fault count.

quiet_none_by : (told : Option FileMap) (names : List (List ℕ)) (files : FilesState) → (IsTrue files.steady → files.faults < greatest_count)
    → IfSome told (λ map. IsTrue files.steady → AreThere map names → Unrisen files.faults files.faults)
quiet_none_by None names files below = tt
quiet_none_by (Some map) names files below = λ steady there. record { same = refl; below = below steady }

quiet_none : (names : List (List ℕ)) (files : FilesState) → (IsTrue files.steady → files.faults < greatest_count) → StaysQuiet names files files
quiet_none names files below = quiet_none_by files.known_map names files below

quiet_last_by : (told : Option FileMap) (name : List ℕ) (names : List (List ℕ)) (still again : Bool) (before now : ℕ)
    → (IsTrue still → IfSome told (λ map. IsSome (file_at name map) → Unrisen before now × IsTrue again))
    → IfSome told (λ map. IsTrue still → AreThere map (name ∷ names) → Unrisen before now)
quiet_last_by None name names still again before now first = tt
quiet_last_by (Some map) name names still again before now first = λ steady there. (first steady there.0).0

-- If only the first of the named files was read and reading it keeps the files steady, the files satisfy `StaysQuiet`
-- for all named files.
quiet_last : (name : List ℕ) (names : List (List ℕ)) (before after : FilesState) → StaysSteady before after name → StaysQuiet (name ∷ names) before after
quiet_last name names before after steady = quiet_last_by before.known_map name names before.steady after.steady before.faults after.faults steady

quiet_since_by : (told : Option FileMap) (name : List ℕ) (names : List (List ℕ)) (still again : Bool) (before between now : ℕ)
    → (IsTrue still → IfSome told (λ map. IsSome (file_at name map) → Unrisen before between × IsTrue again))
    → IfSome told (λ map. IsTrue again → AreThere map names → Unrisen between now)
    → IfSome told (λ map. IsTrue still → AreThere map (name ∷ names) → Unrisen before now)
quiet_since_by None name names still again before between now first second = tt
quiet_since_by (Some map) name names still again before between now first second = λ steady there.
    let one : Unrisen before between × IsTrue again = first steady there.0 in
    let two : Unrisen between now = second one.1 there.1 in
    record { same = two.same ∙ one.0.same; below = one.0.below }

-- If neither reading the first named file nor reading the other named files raised a fault count, reading all named
-- files raised no fault count.
quiet_since : (name : List ℕ) (names : List (List ℕ)) (before mid after : FilesState) (reads : History) → Grew before mid reads
    → StaysSteady before mid name → StaysQuiet names mid after → StaysQuiet (name ∷ names) before after
quiet_since name names before mid after reads grew steady quiet =
    quiet_since_by before.known_map name names before.steady mid.steady before.faults mid.faults after.faults steady (rw (grew.known_map) at quiet)

-- Lemmas on answers that read no further file.

settled_answer : (A : ℕ → List ℕ → Type 0) (status : ℕ) (text : List ℕ) (files : FilesState) → A status text ⊎ IsMemoryRefusal status text
    → WithoutFiles A files files [] status text ⊎ (IsMemoryRefusal status text × AreInTurn [] [])
settled_answer A status text files (inl is) = inl (refl, is)
settled_answer A status text files (inr is) = inr (is, ([], refl))

-- If a decision was made without reading a file, the answer is prepared without reading a file.
pub settled : {T : Type 0} (A : ℕ → List ℕ → Type 0) (Rest : T → ℕ → List ℕ → Type 0) (files : FilesState) (result : Result T Refusal)
    → (IsTrue files.steady → files.faults < greatest_count) → PreparesWithoutFiles A Rest result → Prepares (WithoutFiles A) Rest [] files files result
settled {T} A Rest files (Ok value) below answers = record {
  reads = [];
  grew = grew_none files;
  quiet = quiet_none [] files below;
  turn = ([], refl);
  answers = λ status text is. (refl, answers status text is);
}
settled {T} A Rest files (Err refusal) below is = record {
  reads = [];
  grew = grew_none files;
  quiet = quiet_none [] files below;
  answer = settled_answer A (answer_of refusal).0 (answer_of refusal).1 files is.0;
  unread = λ same. absurd (is.1 same);
}

-- If an answer that needs no file was printed, the form ends with this answer.
pub told_ends : (A : ℕ → List ℕ → Type 0) (files : FilesState) (old new : SinkState) (code : ℕ) → (IsTrue files.steady → files.faults < greatest_count) → PrintsAnswer A old new code
    → Ends (WithoutFiles A) [] files files (IsTaken old new code)
told_ends A files old new code below tells = record {
  status = tells.status;
  text = tells.text;
  decides = record {
    reads = [];
    grew = grew_none files;
    quiet = quiet_none [] files below;
    answer = settled_answer A tells.status tells.text files tells.answer;
    unread = λ same. absurd (tells.read same);
  };
  written = tells.written;
  shown = tells.taken;
}

-- Lemmas on an answer that reads one file before the others.

rose_since : (before between now : ℕ) → before ≤ between → Rose between now → Rose before now
rose_since before between now count rose = omega (arith, count, rose)

turn_first : (name bytes : List ℕ) (names : List (List ℕ)) (reads : History) → AreInTurn names reads → AreInTurn (name ∷ names) ((name, bytes) ∷ reads)
turn_first name bytes names reads turn = (turn.0, ap (λ (more : List (List ℕ)). name ∷ more) turn.1)

pub memory_refusal : (refusal : ℕ × List ℕ) → IsOutOfMemory refusal → IsMemoryRefusal refusal.0 refusal.1
memory_refusal refusal is = (ap (λ (told : ℕ × List ℕ). told.0) is, ap (λ (told : ℕ × List ℕ). told.1) is)

module _ {T : Type 0} (Says : T → List ℕ → Type 0) (Breaks : ℕ × List ℕ → List ℕ → Type 0) (limit : ℕ) (long : ℕ × List ℕ) (name : List ℕ) (names : List (List ℕ)) (Then : T → Answer) where
  -- The answer to the file `name`, which holds a document. `Then` is the answer to the document's value.
  abbrev AsksFile : Answer
  AsksFile = AnswersFile limit long name (AnswersDocument Says Breaks Then)

  first_answer : (value : T) (before mid after : FilesState) (has : HasRead limit name (Says value) before mid) (reads : History) (status : ℕ) (text : List ℕ)
      → Then value mid after reads status text → AsksFile before after ((name, has.bytes) ∷ reads) status text
  first_answer value before mid after has reads status text is =
      inl (record { bytes = has.bytes; rest = reads; first = refl; fits = has.fits; between = mid; grew = has.grew; answers = inl (value, has.fact, is) })

  first_decided : (value : T) (before mid after : FilesState) (has : HasRead limit name (Says value) before mid) (reads : History) (status : ℕ) (text : List ℕ)
      → Then value mid after reads status text ⊎ (IsMemoryRefusal status text × AreInTurn names reads)
      → AsksFile before after ((name, has.bytes) ∷ reads) status text ⊎ (IsMemoryRefusal status text × AreInTurn (name ∷ names) ((name, has.bytes) ∷ reads))
  first_decided value before mid after has reads status text (inl is) = inl (first_answer value before mid after has reads status text is)
  first_decided value before mid after has reads status text (inr is) = inr (is.0, turn_first name has.bytes names reads is.1)

  -- If a document was read and the answer to its value was prepared, the answer to the document is prepared.
  pub document_reads : {U : Type 0} (Rest : U → ℕ → List ℕ → Type 0) (value : T) (before mid after : FilesState) (result : Result U Refusal)
      → HasRead limit name (Says value) before mid → StaysSteady before mid name → Prepares (Then value) Rest names mid after result
      → Prepares AsksFile Rest (name ∷ names) before after result
  document_reads Rest value before mid after (Ok rest) has steady finds = record {
    reads = (name, has.bytes) ∷ finds.reads;
    grew = grew_more before mid after ((name, has.bytes) ∷ []) finds.reads has.grew finds.grew;
    quiet = quiet_since name names before mid after ((name, has.bytes) ∷ []) has.grew steady finds.quiet;
    turn = turn_first name has.bytes names finds.reads finds.turn;
    answers = λ status text is. first_answer value before mid after has finds.reads status text (finds.answers status text is);
  }
  document_reads Rest value before mid after (Err refusal) has steady decides = record {
    reads = (name, has.bytes) ∷ decides.reads;
    grew = grew_more before mid after ((name, has.bytes) ∷ []) decides.reads has.grew decides.grew;
    quiet = quiet_since name names before mid after ((name, has.bytes) ∷ []) has.grew steady decides.quiet;
    answer = first_decided value before mid after has decides.reads (answer_of refusal).0 (answer_of refusal).1 decides.answer;
    unread = λ same. rose_since before.faults mid.faults after.faults has.grew.count (decides.unread same);
  }

  -- Lemmas on answers to a first file that was not loaded.

  record Unloaded (before after : FilesState) (status : ℕ) (text : List ℕ) : Type 0 where
    reads : History
    grew : Grew before after reads
    answer : AsksFile before after reads status text ⊎ (IsMemoryRefusal status text × AreInTurn (name ∷ names) reads)

  memory_unloaded : (before after : FilesState) (refusal : ℕ × List ℕ) → IsOutOfMemory refusal → Grew before after [] ⊎ HasRead limit name (λ (bytes : List ℕ). ⊤) before after
      → Unloaded before after refusal.0 refusal.1
  memory_unloaded before after refusal is (inl grew) = record { reads = []; grew = grew; answer = inr (memory_refusal refusal is, (name ∷ names, refl)) }
  memory_unloaded before after refusal is (inr has) = record { reads = (name, has.bytes) ∷ []; grew = has.grew; answer = inr (memory_refusal refusal is, (names, refl)) }

  unloaded : (before after : FilesState) (refusal : ℕ × List ℕ) → IsUnloaded Breaks limit long name before after refusal → Unloaded before after refusal.0 refusal.1
  unloaded before after refusal (inl has) = record {
    reads = (name, has.bytes) ∷ [];
    grew = has.grew;
    answer = inl (inl (record { bytes = has.bytes; rest = []; first = refl; fits = has.fits; between = after; grew = has.grew; answers = inr (refl, has.fact) }));
  }
  unloaded before after refusal (inr (inl is)) = record {
    reads = (name, is.0.bytes) ∷ [];
    grew = is.0.grew;
    answer = inl (inr (inl (record { bytes = is.0.bytes; read = refl; longer = is.0.longer; counted = is.0.counted; gives = sym is.1 })));
  }
  unloaded before after refusal (inr (inr (inl is))) = record { reads = []; grew = is.0; answer = inl (inr (inr (refl, is.1, sym is.2))) }
  unloaded before after refusal (inr (inr (inr is))) = memory_unloaded before after refusal is.1 is.0

  pub refused_reads : (before after : FilesState) (refusal : Refusal) → IsUnloaded Breaks limit long name before after (answer_of refusal) → StaysSteady before after name
      → ((answer_of refusal).0 ≡ UNREAD_FILE → Rose before.faults after.faults)
      → Decides AsksFile (name ∷ names) before after (answer_of refusal).0 (answer_of refusal).1
  refused_reads before after refusal is steady unread =
      let found = unloaded before after (answer_of refusal) is in
      record { reads = found.reads; grew = found.grew; quiet = quiet_last name names before after steady; answer = found.answer; unread = unread }
