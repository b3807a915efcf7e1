use Rattle.std.proofs.Common.{◌≡◌, ◌∙◌, suc, sym, ap, subst, rules, arith, List, [], ◌∷◌, to_z, of_z}
use Rattle.std.specs.Prelude.{slice_set}
use Rattle.std.specs.Int.{w64}
use Rattle.scram_types.specs.Lookups.{proc_id}
use Rattle.bank_words.specs.declared.events.Event.TheVariants.{Look}
use Rattle.bank_words.specs.Numbers.{decode}
use Rattle.frame_model.specs.Flights.{image_after}
use Rattle.word_table.specs.declared.actors.Actor.{Actor}
use Rattle.word_table.specs.declared.actors.Actor.TheVariants.{Runs}
use Rattle.word_table.specs.Plays.{Sat}
use Rattle.word_table.specs.Reading.{AreRead}
use Rattle.word_table.specs.Tables.{flight_in, mission_in, proc_of}
use Rattle.word_table.proofs.Allowing.{look_allows}
use Rattle.word_table.proofs.Finding.{image_looked}
use Rattle.word_table.proofs.Seating.{sound}
use Rattle.word_table.proofs.Stepping.{frame_at, runs_there, step_is}
use Rattle.word_table.proofs.Telling.{second, shown_to, third}
use Rattle.word_table.proofs.tables.WordTable.look.Goals as goal

pub load-requires : goal.load-requires
load-requires c =
    let words = c.args.self.now in
    let seat = c.args.seat.now in
    let m = flight_in words in
    let p = proc_of seat in
    let event = Look (proc_id p) c.args.q in
    let step = step_is m p seat.frame seat.step seat.halted event c.requires.next in
    let same = c.read_image.ensures.same ∙ c.bank_picked-bank.ensures.same in
    let few = c.requires.seat.holds.facts.procs_count.few in (
      c.read_image.ensures.table ∙ c.bank_picked-bank.ensures.table ∙ c.requires.seat.table,
      omega (arith, c.requires.q, words.keeps.places, few, c.bank_index-at.ensures, c.bank_picked-bank.ensures.low),
      look_allows (mission_in words) words.table.shared.table_id.slots c.read_image.new.seat.id c.read_image.new.seat.me (sound (mission_in words) c.requires.seat.holds.facts c.requires.seat.holds.fits) (ap (λ (me : Sat). me.1) same ∙ seat.empty)
          p seat.frame step.before c.requires.seat.proc (ap (λ (me : Sat). me.0.actors) same ∙ runs_there m p seat.frame seat.step seat.halted event step seat.inner.me.0.actors seat.alone)
          c.args.q.0 _ (ap (λ (me : Sat). me.0.mission) same ∙ c.requires.seat.mission) step.next,
    )

pub returns-clause-image : goal.returns-clause-image
returns-clause-image c =
    let words = c.args.self.now in
    let seat = c.args.seat.now in
    let m = flight_in words in
    let p = proc_of seat in
    let event = Look (proc_id p) c.args.q in
    let step = step_is m p seat.frame seat.step seat.halted event c.requires.next in
    let same = c.read_image.ensures.same ∙ c.bank_picked-bank.ensures.same in
    let alone = runs_there m p seat.frame seat.step seat.halted event step seat.inner.me.0.actors seat.alone in
    let read : AreRead m (Runs p seat.frame (suc step.before) ∷ []) c.bank_index-at.result 1 m.width c.read_image.new.image =
    subst (λ (l : List Actor). AreRead m l c.bank_index-at.result 1 m.width c.read_image.new.image) (ap (λ (me : Sat). me.0.actors) c.bank_picked-bank.ensures.same ∙ alone)
    c.read_image.ensures.read in
    let found = shown_to (mission_in words) c.read_image.new.seat.me.0 (Runs p seat.frame (suc step.before) ∷ []) c.bank_index-at.result c.load.result
    (ap (λ (me : Sat). me.0.mission) same ∙ c.requires.seat.mission) (ap (λ (me : Sat). me.0.actors) same ∙ alone) (second (third c.load.ensures)) in
    let bank = c.bank_picked-bank.ensures.bank in
    let value : to_z w64 (of_z w64 c.decode.result) ≡ decode c.load.result = search rules in
    ap (slice_set c.read_image.new.image 0) value
    ∙ image_looked (mission_in words) c.requires.seat.holds.fits c.requires.seat.holds.facts p seat.frame (suc step.before) c.args.q.0 c.bank_index-at.result c.load.result c.read_image.new.image
    c.requires.seat.proc (omega arith) c.requires.q (omega (arith, c.bank_index-at.ensures, bank)) read found
    ∙ ap (image_after (mission_in words).spec (mission_in words).script c.args.q.0) (sym (frame_at seat.frame seat.step seat.halted))
