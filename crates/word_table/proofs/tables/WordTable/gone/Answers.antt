use Rattle.std.proofs.Common.{◌≡◌, ◌∙◌, suc, ◌+◌, true, sym, ap, subst, rules, arith, List, [], ◌∷◌}
use Rattle.frame_model.specs.Flights.{image_after}
use Rattle.frame_model.specs.Storage.{mark_after}
use Rattle.fail_stop.specs.Events.{may_note}
use Rattle.word_table.specs.declared.actors.Actor.{Actor}
use Rattle.word_table.specs.declared.actors.Actor.TheVariants.{Kernel}
use Rattle.word_table.specs.Plays.{IsFound, Sat}
use Rattle.word_table.specs.Reading.{AreRead}
use Rattle.word_table.specs.Tables.{flight_in, mission_in}
use Rattle.word_table.proofs.Allowing.{note_allows}
use Rattle.word_table.proofs.Finding.{bank_of_mark, halt_found, image_noted, noted_mark}
use Rattle.word_table.proofs.Seating.{sound}
use Rattle.word_table.proofs.Telling.{first, note_made, second, shown_to, third}
use Rattle.word_table.proofs.tables.WordTable.gone.Goals as goal

pub load-end-requires : goal.load-end-requires
load-end-requires c =
    let words = c.args.self.now in
    let kseat = c.args.kseat.now in
    let few = c.requires.seat.holds.facts.procs_count.few in (
      c.requires.seat.table,
      omega (arith, c.requires.p, words.keeps.places, few, c.end_index.ensures),
      note_allows (mission_in words) words.table.shared.table_id.slots kseat.inner.id kseat.inner.me (sound (mission_in words) c.requires.seat.holds.facts c.requires.seat.holds.fits) kseat.empty
          kseat.frame c.args.p.0 c.requires.p c.requires.frame (kseat.alone ∙ ap (λ j. Kernel kseat.frame j ∷ []) c.requires.next) c.requires.seat.mission _ c.end_index.ensures,
    )

pub returns-clause-halted : goal.returns-clause-halted
returns-clause-halted c =
    let words = c.args.self.now in
    let kseat = c.args.kseat.now in
    let alone = kseat.alone ∙ ap (λ j. Kernel kseat.frame j ∷ []) c.requires.next in
    let ready : c.may_note.result ≡ true = search rules in
    let may : may_note (flight_in words) c.args.p.0 kseat.frame c.load-end.result ≡ true = sym c.may_note.ensures ∙ ready in
    let found = shown_to (mission_in words) kseat.inner.me.0 (Kernel kseat.frame c.args.p.0 ∷ []) c.end_index.result c.load-end.result c.requires.seat.mission alone (second (third c.load-end.ensures)) in
    halt_found (mission_in words) c.requires.seat.holds.fits kseat.frame c.args.p.0 c.requires.p c.end_index.result c.load-end.result c.end_index.ensures found may

pub returns-clause-mark : goal.returns-clause-mark
returns-clause-mark c =
    let words = c.args.self.now in
    let kseat = c.args.kseat.now in
    let alone = kseat.alone ∙ ap (λ j. Kernel kseat.frame j ∷ []) c.requires.next in
    let ready : c.may_note.result ≡ true = search rules in
    let may : may_note (flight_in words) c.args.p.0 kseat.frame c.load-end.result ≡ true = sym c.may_note.ensures ∙ ready in
    let noted = note_made (mission_in words) kseat.inner.me.0 c.load-end.new.seat.me c.end_index.result c.load-end.result kseat.frame c.args.p.0 c.requires.seat.mission alone (c.requires.frame, c.requires.p, c.end_index.ensures) may (first (third c.load-end.ensures)) in
    let found : IsFound (flight_in words) (Kernel kseat.frame (suc c.args.p.0) ∷ []) c.mark_index.result c.load-mark.result =
    subst (λ (l : List Actor). IsFound (flight_in words) l c.mark_index.result c.load-mark.result) noted c.load-mark.ensures.found in
    let next : suc kseat.frame ≡ kseat.frame + 1 = omega arith in
    noted_mark (mission_in words) c.requires.seat.holds.fits kseat.frame c.args.p.0 c.requires.p c.mark_index.result c.load-mark.result c.mark_index.ensures found
    ∙ ap (mark_after (mission_in words).spec (mission_in words).script c.args.p.0) next

pub returns-clause-image : goal.returns-clause-image
returns-clause-image c =
    let words = c.args.self.now in
    let kseat = c.args.kseat.now in
    let alone = kseat.alone ∙ ap (λ j. Kernel kseat.frame j ∷ []) c.requires.next in
    let ready : c.may_note.result ≡ true = search rules in
    let may : may_note (flight_in words) c.args.p.0 kseat.frame c.load-end.result ≡ true = sym c.may_note.ensures ∙ ready in
    let noted = note_made (mission_in words) kseat.inner.me.0 c.load-end.new.seat.me c.end_index.result c.load-end.result kseat.frame c.args.p.0 c.requires.seat.mission alone (c.requires.frame, c.requires.p, c.end_index.ensures) may (first (third c.load-end.ensures)) in
    let found : IsFound (flight_in words) (Kernel kseat.frame (suc c.args.p.0) ∷ []) c.mark_index.result c.load-mark.result =
    subst (λ (l : List Actor). IsFound (flight_in words) l c.mark_index.result c.load-mark.result) noted c.load-mark.ensures.found in
    let mark = noted_mark (mission_in words) c.requires.seat.holds.fits kseat.frame c.args.p.0 c.requires.p c.mark_index.result c.load-mark.result c.mark_index.ensures found in
    let bank = bank_of_mark (mission_in words) c.requires.seat.holds.fits c.args.p.0 (suc kseat.frame) c.load-mark.result mark in
    let next : suc kseat.frame ≡ kseat.frame + 1 = omega arith in
    let actors = ap (λ (me : Sat). me.0.actors) c.load-mark.ensures.same ∙ noted in
    let read : AreRead (flight_in words) (Kernel kseat.frame (suc c.args.p.0) ∷ []) c.bank_index.result 0 (flight_in words).width c.read_image.new.image =
    subst (λ (l : List Actor). AreRead (flight_in words) l c.bank_index.result 0 (flight_in words).width c.read_image.new.image) actors c.read_image.ensures.read in
    image_noted (mission_in words) c.requires.seat.holds.fits c.requires.seat.holds.facts kseat.frame c.args.p.0 c.bank_index.result c.read_image.new.image c.requires.p
    (omega (arith, c.bank_index.ensures, bank)) read
    ∙ ap (image_after (mission_in words).spec (mission_in words).script c.args.p.0) next

pub invariant_of-kseat-2 : goal.invariant_of-kseat-2
invariant_of-kseat-2 c = search rules

pub returns-then-not-may_note-clause-tries : goal.returns-then-not-may_note-clause-tries
returns-then-not-may_note-clause-tries c = search rules
