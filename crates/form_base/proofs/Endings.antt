-- Lemmas on the result of a form, given the text that it printed.
use Rattle.std.proofs.Common.{◌≡◌, ℕ, ◌-◌, ◌≤◌, List, [], ◌++◌, length, append_assoc, append-nil, refl, sym, ◌∙◌, ap, inl, inr, arith}
use Rattle.std.specs.Prelude.{◌≢◌, Option, Some, None, Result, Ok, Err, IfSome, IsTrue, ◌⊎◌}
use Rattle.scram_io.specs.Outside.{Agrees, CutOff, FileMap, FilesState, Flushed, History, Printed, Prints, Rose, SinkState, TakesSurely, Took, TookPrefix, Unrisen, taken}
use Rattle.form_base.specs.declared.status.TheConstants.{ANSWERED, OUT_OF_MEMORY, UNREAD_FILE, UNWRITTEN_OUTPUT}
use Rattle.form_base.specs.declared.refusals.Refused.{Refused}
use Rattle.form_base.specs.declared.refusals.Refused.TheVariants.{Usage, File, Specification, Acceptance, Script, Assumption, Memory, Trace, Schedule, Name}
use Rattle.form_base.specs.Answers.{Answer, Gives}
use Rattle.form_base.specs.Assurance.{Assured, IsAssuring}
use Rattle.form_base.specs.Endings.{AreInTurn, AreThere, Completes, Decides, Ends, IsPrepared, HasRoom, IsMemoryRefusal, IsQuietFor, IsSent, IsTaken, StoppedIn, PrintsAnswer, WentOut}
use Rattle.form_base.specs.Refusals.{code_of, memory_line}
use Rattle.form_base.specs.Printing.{status_after}

-- If a text was printed whole, the sink took the text, and the code is the status of the text.
pub printed_taken : (status : ℕ) (text : List ℕ) (old new : SinkState) → Printed old new text → IsTaken old new status status text
printed_taken status text old new printed = record { shown = inl (refl, printed.whole); surely = printed.surely; count = printed.count }

-- If a text was cut off, the sink took a prefix of the text, and the code is the status of unwritten output.
pub cut_taken : (status : ℕ) (text : List ℕ) (old new : SinkState) → CutOff old new text → IsTaken old new UNWRITTEN_OUTPUT status text
cut_taken status text old new cut = record { shown = inr (refl, cut.prefix, cut.rose); surely = cut.surely; count = cut.count }

-- If a text was written, the sink took it or a prefix of it. The code is the status of the text if the sink did not
-- fail, and otherwise the status of unwritten output.
pub put_taken : {A E : Type 0} (put : Result A E) (status : ℕ) (text : List ℕ) (old new : SinkState) → Prints put old new text → IsTaken old new (status_after put status) status text
put_taken {A} {E} (Ok _) status text old new printed = printed_taken status text old new printed
put_taken {A} {E} (Err _) status text old new cut = cut_taken status text old new cut

-- If the sink took a text of status 0 or a prefix of it, `PrintsAnswer` holds for the answer with this status and
-- text.
pub answered_prints : (text : List ℕ) (old new : SinkState) (code : ℕ) → IsTaken old new code ANSWERED text → PrintsAnswer (Gives (ANSWERED, text)) old new code
answered_prints text old new code taken =
    record { status = ANSWERED; text = text; answer = inl refl; read = λ same. absurd (omega (arith, same)); written = λ same. absurd (omega (arith, same)); taken = taken }

-- If the sink took a text or a prefix of it, `PrintsAnswer` holds for the answer with this status and text. The
-- status must be neither `UNREAD_FILE` nor `UNWRITTEN_OUTPUT`.
pub given_prints : (status : ℕ) (text : List ℕ) (old new : SinkState) (code : ℕ) → status ≢ UNREAD_FILE → status ≢ UNWRITTEN_OUTPUT
    → IsTaken old new code status text → PrintsAnswer (Gives (status, text)) old new code
given_prints status text old new code read written taken =
    record { status = status; text = text; answer = inl refl; read = read; written = written; taken = taken }

-- If the sink took the out-of-memory line or a prefix of it, `PrintsAnswer` holds for every answer.
pub memory_prints : (A : ℕ → List ℕ → Type 0) (old new : SinkState) (code : ℕ) → IsTaken old new code OUT_OF_MEMORY memory_line → PrintsAnswer A old new code
memory_prints A old new code taken =
    record { status = OUT_OF_MEMORY; text = memory_line; answer = inr (refl, refl); read = λ same. absurd (omega (arith, same)); written = λ same. absurd (omega (arith, same)); taken = taken }

told_other : (A B : ℕ → List ℕ → Type 0) (status : ℕ) (text : List ℕ) → (A status text → B status text)
    → A status text ⊎ IsMemoryRefusal status text → B status text ⊎ IsMemoryRefusal status text
told_other A B status text turn (inl is) = inl (turn is)
told_other A B status text turn (inr is) = inr is

-- If each status and text with which `A` answers is also an answer by `B`, then a printed answer by `A` is a printed
-- answer by `B`.
pub tells_other : (A B : ℕ → List ℕ → Type 0) (old new : SinkState) (code : ℕ) → ((status : ℕ) (text : List ℕ) → A status text → B status text)
    → PrintsAnswer A old new code → PrintsAnswer B old new code
tells_other A B old new code turn tells = record {
  status = tells.status;
  text = tells.text;
  answer = told_other A B tells.status tells.text (turn tells.status tells.text) tells.answer;
  read = tells.read;
  written = tells.written;
  taken = tells.taken;
}

-- No refusal has the status of unwritten output.
refusal_written : (refused : Refused) → code_of refused ≢ UNWRITTEN_OUTPUT
refusal_written Usage same = absurd (omega (arith, same))
refusal_written File same = absurd (omega (arith, same))
refusal_written Specification same = absurd (omega (arith, same))
refusal_written Acceptance same = absurd (omega (arith, same))
refusal_written Script same = absurd (omega (arith, same))
refusal_written Assumption same = absurd (omega (arith, same))
refusal_written Memory same = absurd (omega (arith, same))
refusal_written Trace same = absurd (omega (arith, same))
refusal_written Schedule same = absurd (omega (arith, same))
refusal_written Name same = absurd (omega (arith, same))

-- If a refusal was decided and the sink took the line of the refusal or a prefix of it, the form ends with this
-- refusal.
pub refusal_ends : (A : Answer) (names : List (List ℕ)) (before after : FilesState) (refused : Refused) (line : List ℕ) (old new : SinkState) (code : ℕ)
    → Decides A names before after (code_of refused) line → IsTaken old new code (code_of refused) line → Ends A names before after (IsTaken old new code)
refusal_ends A names before after refused line old new code decides taken =
    record { status = code_of refused; text = line; decides = decides; written = refusal_written refused; shown = taken }

found_answer : (A : Answer) (Rest : ℕ → List ℕ → Type 0) (names : List (List ℕ)) (before after : FilesState) (finds : IsPrepared A Rest names before after) (status : ℕ) (text : List ℕ)
    → Rest status text ⊎ IsMemoryRefusal status text → A before after finds.reads status text ⊎ (IsMemoryRefusal status text × AreInTurn names finds.reads)
found_answer A Rest names before after finds status text (inl is) = inl (finds.answers status text is)
found_answer A Rest names before after finds status text (inr is) = inr (is, finds.turn)

-- If the files of an answer were read and the sink took a text that `Rest` allows, or a prefix of it, the form ends
-- with this answer.
pub found_ends : (A : Answer) (Rest : ℕ → List ℕ → Type 0) (names : List (List ℕ)) (before after : FilesState) (old new : SinkState) (code : ℕ)
    → IsPrepared A Rest names before after → PrintsAnswer Rest old new code → Ends A names before after (IsTaken old new code)
found_ends A Rest names before after old new code finds tells = record {
  status = tells.status;
  text = tells.text;
  decides = record {
    reads = finds.reads;
    grew = finds.grew;
    quiet = finds.quiet;
    answer = found_answer A Rest names before after finds tells.status tells.text tells.answer;
    unread = λ same. absurd (tells.read same);
  };
  written = tells.written;
  shown = tells.taken;
}

-- Lemmas on the flush at the end of a form, which sends the text that the sink took, or a prefix of it.

sent_surely_by : (room mid : Option ℕ) (before between now : ℕ) (last : Option ℕ) (text : List ℕ) →
    IfSome room (λ n. length text ≤ n → Unrisen before between × (mid ≡ Some (n - length text))) →
    IfSome mid (λ n. 0 ≤ n → Unrisen between now × (last ≡ Some (n - 0))) →
    IfSome room (λ n. length text ≤ n → Unrisen before now)
sent_surely_by None mid before between now last text first second = tt
sent_surely_by (Some n) mid before between now last text first second = λ fits.
    let one : Unrisen before between × (mid ≡ Some (n - length text)) = first fits in
    let then : 0 ≤ n - length text → Unrisen between now × (last ≡ Some (n - length text - 0)) = rw one.1 at second in
    let two : Unrisen between now × (last ≡ Some (n - length text - 0)) = then (omega arith) in
    record { same = two.0.same ∙ one.0.same; below = one.0.below }

-- If the sink is certain to take the whole text, neither taking the text nor the flush raises the sink's fault count.
sent_surely : (old mid new : SinkState) (text : List ℕ) → TakesSurely old mid text → Flushed mid new → IsQuietFor text old new
sent_surely old mid new text first flushed = sent_surely_by old.surely mid.surely old.faults mid.faults new.faults new.surely text first flushed.surely

-- If the sink took a text and holds nothing back after the flush, the text was sent.
pub went_out : (old mid new : SinkState) (text : List ℕ) → Flushed mid new → new.held ≡ [] → Took old mid text → WentOut old new text
went_out old mid new text flushed empty took = record {
  sent = sym (append-nil new.sent) ∙ ap (λ (held : List ℕ). new.sent ++ held) (sym empty) ∙ flushed.same ∙ took;
  held = empty;
}

-- If the sink took the whole text and the flush failed, a prefix of the text was sent. The sink holds the remaining
-- bytes back.
stopped_whole : (old mid new : SinkState) (text : List ℕ) → Took old mid text → Flushed mid new → Rose mid.faults new.faults → old.faults ≤ mid.faults → StoppedIn old new text
stopped_whole old mid new text took flushed rose count = record { rest = new.held; parts = sym took ∙ sym flushed.same; rose = omega (arith, rose, count) }

-- If the sink took a prefix of the text, then after the flush a prefix of the text was sent. The sink may hold back
-- some of the bytes that it took.
stopped_part : (old mid new : SinkState) (text : List ℕ) → TookPrefix old mid text → Flushed mid new → Rose old.faults mid.faults → StoppedIn old new text
stopped_part old mid new text cut flushed rose = record {
  rest = new.held ++ cut.rest;
  parts = ap (λ (t : List ℕ). taken old ++ t) cut.parts ∙ sym (append_assoc (taken old) cut.front cut.rest)
      ∙ ap (λ (t : List ℕ). t ++ cut.rest) (sym cut.took ∙ sym flushed.same) ∙ append_assoc new.sent new.held cut.rest;
  rose = omega (arith, rose, flushed.count);
}

flushed_shown : (old mid new : SinkState) (code status : ℕ) (text : List ℕ) → Flushed mid new → new.held ≡ []
    → ((code ≡ status) × Took old mid text) ⊎ ((code ≡ UNWRITTEN_OUTPUT) × TookPrefix old mid text × Rose old.faults mid.faults)
    → ((code ≡ status) × WentOut old new text) ⊎ ((code ≡ UNWRITTEN_OUTPUT) × StoppedIn old new text)
flushed_shown old mid new code status text flushed empty (inl is) = inl (is.0, went_out old mid new text flushed empty is.1)
flushed_shown old mid new code status text flushed empty (inr is) = inr (is.0, stopped_part old mid new text is.1 flushed is.2)

failed_shown : (old mid new : SinkState) (code status : ℕ) (text : List ℕ) → Flushed mid new → Rose mid.faults new.faults → old.faults ≤ mid.faults
    → ((code ≡ status) × Took old mid text) ⊎ ((code ≡ UNWRITTEN_OUTPUT) × TookPrefix old mid text × Rose old.faults mid.faults) → StoppedIn old new text
failed_shown old mid new code status text flushed rose count (inl is) = stopped_whole old mid new text is.1 flushed rose count
failed_shown old mid new code status text flushed rose count (inr is) = stopped_part old mid new text is.1 flushed is.2

flushed_sent : (old mid new : SinkState) (code status : ℕ) (text : List ℕ) → Flushed mid new → new.held ≡ [] → IsTaken old mid code status text → IsSent old new code status text
flushed_sent old mid new code status text flushed empty is = record {
  shown = flushed_shown old mid new code status text flushed empty is.shown;
  surely = sent_surely old mid new text is.surely flushed;
}

failed_sent : (old mid new : SinkState) (code status : ℕ) (text : List ℕ) → Flushed mid new → Rose mid.faults new.faults → IsTaken old mid code status text → IsSent old new UNWRITTEN_OUTPUT status text
failed_sent old mid new code status text flushed rose is = record {
  shown = inr (refl, failed_shown old mid new code status text flushed rose is.count is.shown);
  surely = sent_surely old mid new text is.surely flushed;
}

shown_ends : (A : Answer) (names : List (List ℕ)) (before after : FilesState) (S T : ℕ → List ℕ → Type 0) → ((status : ℕ) (text : List ℕ) → S status text → T status text)
    → Ends A names before after S → Ends A names before after T
shown_ends A names before after S T turn ends =
    record { status = ends.status; text = ends.text; decides = ends.decides; written = ends.written; shown = turn ends.status ends.text ends.shown }

-- If the flush sent everything, the text that the sink took was sent.
pub flushed_ends : (A : Answer) (names : List (List ℕ)) (before after : FilesState) (old mid new : SinkState) (code : ℕ) → Flushed mid new → new.held ≡ []
    → Ends A names before after (IsTaken old mid code) → Ends A names before after (IsSent old new code)
flushed_ends A names before after old mid new code flushed empty ends =
    shown_ends A names before after (IsTaken old mid code) (IsSent old new code) (λ status text is. flushed_sent old mid new code status text flushed empty is) ends

-- If the flush failed, the code is the status of unwritten output.
pub failed_ends : (A : Answer) (names : List (List ℕ)) (before after : FilesState) (old mid new : SinkState) (code : ℕ) → Flushed mid new → Rose mid.faults new.faults
    → Ends A names before after (IsTaken old mid code) → Ends A names before after (IsSent old new UNWRITTEN_OUTPUT)
failed_ends A names before after old mid new code flushed rose ends =
    shown_ends A names before after (IsTaken old mid code) (IsSent old new UNWRITTEN_OUTPUT) (λ status text is. failed_sent old mid new code status text flushed rose is) ends

-- If neither the files nor the sink can fail, no fault count rises.

room_for : (A : Answer) (map : FileMap) (names : List (List ℕ)) (before after : FilesState) (old : SinkState) (room : HasRoom A map before old) (reads : History) (status : ℕ) (text : List ℕ)
    → Agrees map reads → Unrisen before.faults after.faults → A before after reads status text ⊎ (IsMemoryRefusal status text × AreInTurn names reads) → length text ≤ room.room
room_for A map names before after old room reads status text agrees quiet (inl is) = room.answers after reads quiet agrees status text is
room_for A map names before after old room reads status text agrees quiet (inr is) = rw (is.0.1) room.memory

completes_by : (A : Answer) (names : List (List ℕ)) (told : Option FileMap) (before after : FilesState) (old new : SinkState) (reads : History) (status : ℕ) (text : List ℕ)
    → IfSome told (λ map. Agrees map reads) → A before after reads status text ⊎ (IsMemoryRefusal status text × AreInTurn names reads) → IsQuietFor text old new
    → IfSome told (λ map. IsTrue before.steady → AreThere map names → Unrisen before.faults after.faults)
    → IfSome told (λ map. IsTrue before.steady → AreThere map names → HasRoom A map before old → Unrisen before.faults after.faults × Unrisen old.faults new.faults)
completes_by A names None before after old new reads status text agrees answer surely quiet = tt
completes_by A names (Some map) before after old new reads status text agrees answer surely quiet = λ steady there room.
    let still : Unrisen before.faults after.faults = quiet steady there in
    let fits : length text ≤ room.room = room_for A map names before after old room reads status text agrees still answer in
    let sure : IfSome (Some room.room) (λ n. length text ≤ n → Unrisen old.faults new.faults) = rw (room.told) at surely in
    (still, sure fits)

pub completes : (A : Answer) (names : List (List ℕ)) (before after : FilesState) (old new : SinkState) (code : ℕ) → Ends A names before after (IsSent old new code)
    → Completes A names before after old new
completes A names before after old new code ends =
    let decides = ends.decides in
    completes_by A names before.known_map before after old new decides.reads ends.status ends.text decides.grew.agrees decides.answer ends.shown.surely decides.quiet

-- If the code is `UNREAD_FILE`, the fault count of the files rose. If the code is `UNWRITTEN_OUTPUT`, the fault count
-- of the sink rose.

sent_unread : (A : Answer) (names : List (List ℕ)) (before after : FilesState) (old new : SinkState) (code : ℕ) (ends : Ends A names before after (IsSent old new code)) → code ≡ UNREAD_FILE
    → ((code ≡ ends.status) × WentOut old new ends.text) ⊎ ((code ≡ UNWRITTEN_OUTPUT) × StoppedIn old new ends.text) → Rose before.faults after.faults
sent_unread A names before after old new code ends unread (inl is) = ends.decides.unread (sym is.0 ∙ unread)
sent_unread A names before after old new code ends unread (inr is) = absurd (omega (arith, unread, is.0))

pub unread_rose : (A : Answer) (names : List (List ℕ)) (before after : FilesState) (old new : SinkState) (code : ℕ) → Ends A names before after (IsSent old new code) → code ≡ UNREAD_FILE
    → Rose before.faults after.faults
unread_rose A names before after old new code ends unread = sent_unread A names before after old new code ends unread ends.shown.shown

sent_unwritten : (A : Answer) (names : List (List ℕ)) (before after : FilesState) (old new : SinkState) (code : ℕ) (ends : Ends A names before after (IsSent old new code)) → code ≡ UNWRITTEN_OUTPUT
    → ((code ≡ ends.status) × WentOut old new ends.text) ⊎ ((code ≡ UNWRITTEN_OUTPUT) × StoppedIn old new ends.text) → Rose old.faults new.faults
sent_unwritten A names before after old new code ends unwritten (inl is) = absurd (ends.written (sym is.0 ∙ unwritten))
sent_unwritten A names before after old new code ends unwritten (inr is) = is.1.rose

pub unwritten_rose : (A : Answer) (names : List (List ℕ)) (before after : FilesState) (old new : SinkState) (code : ℕ) → Ends A names before after (IsSent old new code) → code ≡ UNWRITTEN_OUTPUT
    → Rose old.faults new.faults
unwritten_rose A names before after old new code ends unwritten = sent_unwritten A names before after old new code ends unwritten ends.shown.shown

-- If the code is 0, the assurance holds.

zero_answer : (A : Answer) (Assures : History → List ℕ → Type 0) (names : List (List ℕ)) (before after : FilesState) (reads : History) (code status : ℕ) (text : List ℕ)
    → IsAssuring A Assures → code ≡ ANSWERED → code ≡ status → A before after reads status text ⊎ (IsMemoryRefusal status text × AreInTurn names reads) → Assures reads text
zero_answer A Assures names before after reads code status text law zero same (inl is) = law before after reads text (rw (sym same ∙ zero) at is)
zero_answer A Assures names before after reads code status text law zero same (inr is) = absurd (omega (arith, zero, same, is.0.0))

pub assured_of : (A : Answer) (Assures : History → List ℕ → Type 0) (names : List (List ℕ)) (before after : FilesState) (old new : SinkState) (code : ℕ)
    → IsAssuring A Assures → Ends A names before after (IsSent old new code) → code ≡ ANSWERED → Assured Assures before after (WentOut old new)
assured_of A Assures names before after old new code law ends zero = by_printing ends.shown.shown
  where
    by_printing : ((code ≡ ends.status) × WentOut old new ends.text) ⊎ ((code ≡ UNWRITTEN_OUTPUT) × StoppedIn old new ends.text) → Assured Assures before after (WentOut old new)
    by_printing (inl is) = record {
      reads = ends.decides.reads;
      text = ends.text;
      grew = ends.decides.grew;
      assures = zero_answer A Assures names before after ends.decides.reads code ends.status ends.text law zero is.0 ends.decides.answer;
      shown = is.1;
    }
    by_printing (inr is) = absurd (omega (arith, zero, is.0))
