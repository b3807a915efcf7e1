-- If nothing fails and the files hold a mission, the answer is the flight of the mission, or the allocator was out of
-- memory.
use Rattle.std.proofs.Common.{◌≡◌, ℕ, ◌<◌, ◌≤◌, List, [], ◌∷◌, length, refl, sym, ◌∙◌, ap, inl, inr, ◌⊎◌, arith}
use Rattle.std.proofs.lemmas.Bool.Decides.{nat_tests}
use Rattle.std.specs.Prelude.{Bool, true, false, Option, Some, None, IfSome, IsTrue, Result, Ok, Err, cond, nat_le}
use Rattle.scram_types.specs.Scripts.{ScriptParts}
use Rattle.scram_types.specs.Specification.{Parts}
use Rattle.scram_types.specs.declared.limits.TheConstants.{MAX_SCRIPT_BYTES, MAX_SPECIFICATION_BYTES}
use Rattle.scram_io.specs.Outside.{Agrees, FileMap, FilesState, History, Rose, SinkState, Unrisen, file_at}
use Rattle.scram_io.proofs.Puts.{risen}
use Rattle.fault_script.specs.declared.assumption.Outside.{Outside}
use Rattle.fault_script.specs.Assumption.{first_outside}
use Rattle.fault_script.specs.Reading.{script_of}
use Rattle.fault_script.proofs.Assuming.{leaves_nowhere}
use Rattle.spec_reading.specs.Documents.{spec_of}
use Rattle.coverage_check.specs.declared.shown.Shown.{Shown}
use Rattle.coverage_check.specs.Acceptance.{first_refusal}
use Rattle.coverage_check.specs.Missions.{MissionParts}
use Rattle.coverage_check.proofs.Accepting.{accepts_iff_unrefused}
use Rattle.form_base.specs.declared.status.TheConstants.{ANSWERED, UNWRITTEN_OUTPUT}
use Rattle.form_base.specs.Answers.{Answer, AnswersBytes, AnswersDocument, AnswersFile, AnswersLonger, AnswersUnread, Gives}
use Rattle.form_base.specs.Endings.{AreInTurn, AreThere, HasRoom, IsMemoryRefusal, StoppedIn, WentOut}
use Rattle.form_base.specs.Specifications.{BreaksSpecification, SaysSpecification, long_specification}
use Rattle.flight_forms.specs.declared.runs.FlightText.TheVariants.{Trace}
use Rattle.form_base.specs.mission_files.Answers.{ScriptAnswers}
use Rattle.flight_forms.specs.Answers.{RunAnswers}
use Rattle.form_base.specs.mission_files.Documents.{AsksScript, BreaksScript, SaysScript, long_script}
use Rattle.form_base.specs.mission_files.Missions.{UnlessRefused, refusal_by, script_refusal}
use Rattle.flight_forms.specs.Texts.{flight_text}
use Rattle.scram_cli.specs.Laws.{EndsAnswered, HasRoomFor, HoldsMission, MissionsAreAnswered}

-- If a value is read from bytes, the number of bytes is within the limit.
short_by : {A E : Type 0} (few : Bool) (read : Result A E) (fault : E) (value : A) → cond few read (Err fault) ≡ Ok value → few ≡ true
short_by true read fault value is = refl
short_by false read fault value is = absurd (let e = is in cc)

-- The status and the text are the answer after a file was read. The further reads agree with the map, and the fault
-- count did not fall before the further reads.
record RestAnswers (map : FileMap) (Answers : Answer) (before after : FilesState) (status : ℕ) (text : List ℕ) : Type 0 where
  rest : History
  between : FilesState
  count : before.faults ≤ between.faults
  agrees : Agrees map rest
  answers : Answers between after rest status text

-- If the file exists and is not too long, and no fault count rose, the answer is the answer to the file's bytes.

bytes_answered : (limit : ℕ) (name : List ℕ) (A : List ℕ → Answer) (map : FileMap) (bytes : List ℕ) (before after : FilesState) (reads : History)
    (status : ℕ) (text : List ℕ) → file_at name map ≡ Some bytes → Agrees map reads → AnswersBytes limit name A before after reads status text
    → RestAnswers map (A bytes) before after status text
bytes_answered limit name A map bytes before after reads status text file agrees is =
    let both : Agrees map ((name, is.bytes) ∷ is.rest) = rw (is.first) at agrees in
    let found : file_at name map ≡ Some is.bytes = both.0 in
    let same : is.bytes ≡ bytes = cc in
    record { rest = is.rest; between = is.between; count = is.grew.count; agrees = both.1; answers = rw same at is.answers }

not_longer : {P : Type 0} (limit : ℕ) (long : ℕ × List ℕ) (name : List ℕ) (map : FileMap) (bytes : List ℕ) (before after : FilesState) (reads : History)
    (status : ℕ) (text : List ℕ) → file_at name map ≡ Some bytes → length bytes ≤ limit → Agrees map reads → AnswersLonger limit long name before after reads status text → P
not_longer limit long name map bytes before after reads status text file few agrees is =
    let one : Agrees map ((name, is.bytes) ∷ []) = rw (is.read) at agrees in
    let found : file_at name map ≡ Some is.bytes = one.0 in
    let same : is.bytes ≡ bytes = cc in
    let longer : limit < length bytes = rw same at is.longer in
    absurd (omega (arith, longer, few))

rose_before : (start before now : ℕ) → start ≤ before → Rose before now → Rose start now
rose_before start before now count rose = omega (arith, count, rose)

not_unread : {P : Type 0} (limit : ℕ) (long : ℕ × List ℕ) (name : List ℕ) (map : FileMap) (bytes : List ℕ) (start before after : FilesState) (reads : History)
    (status : ℕ) (text : List ℕ) → file_at name map ≡ Some bytes → length bytes ≤ limit → Unrisen start.faults after.faults → start.faults ≤ before.faults → Agrees map reads
    → AnswersUnread limit long name before after reads status text → P
not_unread limit long name map bytes start before after reads status text file few quiet count agrees (inl is) =
    not_longer limit long name map bytes before after reads status text file few agrees is
not_unread limit long name map bytes start before after reads status text file few quiet count agrees (inr is) =
    absurd (risen start.faults after.faults (rose_before start.faults before.faults after.faults count is.1) quiet)

file_answered : (limit : ℕ) (long : ℕ × List ℕ) (name : List ℕ) (A : List ℕ → Answer) (map : FileMap) (bytes : List ℕ) (start before after : FilesState) (reads : History)
    (status : ℕ) (text : List ℕ) → file_at name map ≡ Some bytes → length bytes ≤ limit → Unrisen start.faults after.faults → start.faults ≤ before.faults → Agrees map reads
    → AnswersFile limit long name A before after reads status text → RestAnswers map (A bytes) before after status text
file_answered limit long name A map bytes start before after reads status text file few quiet count agrees (inl is) =
    bytes_answered limit name A map bytes before after reads status text file agrees is
file_answered limit long name A map bytes start before after reads status text file few quiet count agrees (inr is) =
    not_unread limit long name map bytes start before after reads status text file few quiet count agrees is

-- If the bytes of a file encode a specification, the answer to the bytes is the answer to this specification. The
-- same holds for a script.

said_spec : (spec : Parts) (Then : Parts → Answer) (bytes : List ℕ) (before after : FilesState) (reads : History) (status : ℕ) (text : List ℕ) → spec_of bytes ≡ Ok spec
    → AnswersDocument SaysSpecification BreaksSpecification Then bytes before after reads status text → Then spec before after reads status text
said_spec spec Then bytes before after reads status text reading (inl is) =
    let read : spec_of bytes ≡ Ok is.0 = is.1.is in
    let same : is.0 ≡ spec = cc in
    rw same at is.2
said_spec spec Then bytes before after reads status text reading (inr is) = absurd (let read = is.1.is in cc)

said_script : (spec : Parts) (script : ScriptParts) (Then : ScriptParts → Answer) (bytes : List ℕ) (before after : FilesState) (reads : History) (status : ℕ) (text : List ℕ)
    → script_of spec bytes ≡ Ok script
    → AnswersDocument (SaysScript spec) (BreaksScript spec) Then bytes before after reads status text → Then script before after reads status text
said_script spec script Then bytes before after reads status text reading (inl is) =
    let read : script_of spec bytes ≡ Ok is.0 = is.1.is in
    let same : is.0 ≡ script = cc in
    rw same at is.2
said_script spec script Then bytes before after reads status text reading (inr is) = absurd (let read = is.1.is in cc)

-- If neither the specification nor the script is refused, the answer is the flight of their mission.

script_none : (outside : Option Outside) (A : ℕ → List ℕ → Type 0) (status : ℕ) (text : List ℕ) → outside ≡ None → UnlessRefused (script_refusal outside) A status text → A status text
script_none (Some outside) A status text is gives = absurd (let e = is in cc)
script_none None A status text is answers = answers

refused_none : (spec : Parts) (script : ScriptParts) (shown : Option Shown) (A : ℕ → List ℕ → Type 0) (status : ℕ) (text : List ℕ) → shown ≡ None → first_outside spec script ≡ None
    → UnlessRefused (refusal_by spec script shown) A status text → A status text
refused_none spec script (Some shown) A status text is nowhere gives = absurd (let e = is in cc)
refused_none spec script None A status text is nowhere answers = script_none (first_outside spec script) A status text nowhere answers

-- If the files hold a mission and no fault count rose, the only answer of `run` is the trace of the mission.
mission_answered : (specification script : List ℕ) (map : FileMap) (mission : MissionParts) (before after : FilesState) (reads : History) (status : ℕ) (text : List ℕ)
    → HoldsMission map specification script mission → Unrisen before.faults after.faults → Agrees map reads
    → RunAnswers specification script before after reads status text → Gives (ANSWERED, flight_text Trace mission) status text
mission_answered specification script map mission before after reads status text holds quiet agrees is =
    let spec_few : nat_le (length holds.specification) MAX_SPECIFICATION_BYTES ≡ true =
    short_by (nat_le (length holds.specification) MAX_SPECIFICATION_BYTES) _ _ mission.spec holds.is_specification in
    let script_few : nat_le (length holds.script) MAX_SCRIPT_BYTES ≡ true = short_by (nat_le (length holds.script) MAX_SCRIPT_BYTES) _ _ mission.script holds.is_script in
    let Then : Parts → Answer = λ (spec : Parts). AsksScript spec script (ScriptAnswers (flight_text Trace) spec) in
    let first = file_answered MAX_SPECIFICATION_BYTES long_specification specification (AnswersDocument SaysSpecification BreaksSpecification Then) map
    holds.specification before before after reads status text holds.specification_file (grind (arith, nat_tests, spec_few)) quiet (omega arith) agrees is in
    let asked : AsksScript mission.spec script (ScriptAnswers (flight_text Trace) mission.spec) first.between after first.rest status text =
    said_spec mission.spec Then holds.specification first.between after first.rest status text holds.is_specification first.answers in
    let second = file_answered MAX_SCRIPT_BYTES long_script script (AnswersDocument (SaysScript mission.spec) (BreaksScript mission.spec) (ScriptAnswers (flight_text Trace) mission.spec)) map
    holds.script before first.between after first.rest status text holds.script_file (grind (arith, nat_tests, script_few)) quiet first.count first.agrees asked in
    let answered : ScriptAnswers (flight_text Trace) mission.spec mission.script second.between after second.rest status text =
    said_script mission.spec mission.script (ScriptAnswers (flight_text Trace) mission.spec) holds.script second.between after second.rest status text holds.is_script second.answers in
    refused_none mission.spec mission.script (first_refusal mission.spec) (Gives (ANSWERED, flight_text Trace mission)) status text
    ((accepts_iff_unrefused mission.spec holds.sound).unrefused holds.is_mission.accepts)
    ((leaves_nowhere mission.spec mission.script).nowhere holds.is_mission.within) answered.1

has_room : (specification script : List ℕ) (map : FileMap) (mission : MissionParts) (before : FilesState) (old : SinkState) → HoldsMission map specification script mission
    → HasRoomFor old (flight_text Trace mission) → HasRoom (RunAnswers specification script) map before old
has_room specification script map mission before old holds room = record {
  room = room.room;
  told = room.told;
  answers = λ after reads quiet agrees status text is.
      let gives : Gives (ANSWERED, flight_text Trace mission) status text =
      mission_answered specification script map mission before after reads status text holds quiet agrees is in
      rw (ap (λ (answer : ℕ × List ℕ). answer.1) gives) at room.fits;
  memory = room.memory;
}

-- If the fault count of the sink did not rise, the whole text was written, and `code` is `status`.
shown_whole : (old new : SinkState) (code status : ℕ) (text : List ℕ) → Unrisen old.faults new.faults
    → ((code ≡ status) × WentOut old new text) ⊎ ((code ≡ UNWRITTEN_OUTPUT) × StoppedIn old new text) → (code ≡ status) × WentOut old new text
shown_whole old new code status text quiet (inl is) = is
shown_whole old new code status text quiet (inr is) = absurd (risen old.faults new.faults is.1.rose quiet)

answers_by : (answer : Answer) (names : List (List ℕ)) (before after : FilesState) (reads : History) (flown : List ℕ) (old new : SinkState) (code status : ℕ) (text : List ℕ)
    → (answer before after reads status text → Gives (ANSWERED, flown) status text)
    → answer before after reads status text ⊎ (IsMemoryRefusal status text × AreInTurn names reads)
    → (code ≡ status) × WentOut old new text → EndsAnswered flown old new code
answers_by answer names before after reads flown old new code status text turn (inl is) shown =
    let gives : (ANSWERED, flown) ≡ (status, text) = turn is in
    inl (shown.0 ∙ sym (ap (λ (a : ℕ × List ℕ). a.0) gives), rw (sym (ap (λ (a : ℕ × List ℕ). a.1) gives)) at shown.1)
answers_by answer names before after reads flown old new code status text turn (inr is) shown = inr (shown.0 ∙ is.0.0, rw (is.0.1) at shown.1)

quiet_of : (A : Answer) (names : List (List ℕ)) (told : Option FileMap) (map : FileMap) (before after : FilesState) (old new : SinkState) → told ≡ Some map
    → IfSome told (λ m. IsTrue before.steady → AreThere m names → HasRoom A m before old → Unrisen before.faults after.faults × Unrisen old.faults new.faults)
    → IsTrue before.steady → AreThere map names → HasRoom A map before old → Unrisen before.faults after.faults × Unrisen old.faults new.faults
quiet_of A names told map before after old new is complete = rw is at complete

pub missions_are_answered : MissionsAreAnswered
missions_are_answered specification script map mission before after old new code answer complete told steady holds room =
    let there : AreThere map (specification ∷ script ∷ []) = (rw (holds.specification_file) refl, (rw (holds.script_file) refl, tt)) in
    let quiet : Unrisen before.faults after.faults × Unrisen old.faults new.faults =
    quiet_of (RunAnswers specification script) (specification ∷ script ∷ []) before.known_map map before after old new told complete steady there
    (has_room specification script map mission before old holds room) in
    let agrees : IfSome (Some map) (λ m. Agrees m answer.decides.reads) = rw told at answer.decides.grew.agrees in
    answers_by (RunAnswers specification script) (specification ∷ script ∷ []) before after answer.decides.reads (flight_text Trace mission) old new code
    answer.status answer.text
    (λ is. mission_answered specification script map mission before after answer.decides.reads answer.status answer.text holds quiet.0 agrees is)
    answer.decides.answer (shown_whole old new code answer.status answer.text quiet.1 answer.shown.shown)
