use Rattle.std.proofs.Common.{rules, ◌≡◌, ◌∙◌, ℕ, ◌+◌, ◌-◌, ◌<◌, suc, arith, sym, ap, [], ◌∷◌}
use Rattle.std.specs.Prelude.{Some}
use Rattle.scram_types.specs.Lookups.{proc_id}
use Rattle.bank_words.specs.declared.events.Event.TheVariants.{Store}
use Rattle.frame_model.specs.Storage.{image_bank_after}
use Rattle.fail_stop.specs.Events.{frame_of}
use Rattle.fail_stop.specs.Flights.{Flight, side, word_in}
use Rattle.fail_stop.proofs.ScriptBorder.{sides_same}
use Rattle.word_table.specs.declared.actors.Actor.TheVariants.{Runs}
use Rattle.word_table.specs.declared.actors.View.{View}
use Rattle.word_table.specs.declared.seats.Seat.{Seat}
use Rattle.word_table.specs.declared.tables.WordTable.{WordTable}
use Rattle.word_table.specs.Plays.{Sat, word_due}
use Rattle.word_table.specs.Tables.{IsSeatOf, drafted_words, flight_in, mission_in, next_step, proc_of, seat_place}
use Rattle.word_table.proofs.Allowing.{confirm_store_allows, store_allows}
use Rattle.word_table.proofs.Seating.{sound}
use Rattle.word_table.proofs.Stepping.{IsStep, frame_at, runs_there, step_is, store_low}
use Rattle.word_table.proofs.Telling.{third, unconfirmed}
use Rattle.word_table.proofs.tables.WordTable.store.Goals as goal

-- Lemmas on a seat whose next step is the store of word `i` of its draft.
module _ (words : WordTable) (seat : Seat) (i word : ℕ) (fits : IsSeatOf words seat) (next : next_step words seat ≡ Some (Store (proc_id (proc_of seat)) i))
    (drafted : word ≡ word_in (drafted_words words (proc_of seat) (frame_of (seat_place seat))) i) where
  abbrev m : Flight
  m = flight_in words

  abbrev p : ℕ
  p = proc_of seat

  step : IsStep m p seat.frame seat.step seat.halted (Store (proc_id p) i)
  step = step_is m p seat.frame seat.step seat.halted (Store (proc_id p) i) next

  low : (suc step.before ≡ m.procs + 1 + i) × (i < m.width)
  low = store_low m p seat.frame (suc step.before) i step.next

  alone : (me : Sat) → me ≡ seat.inner.me → me.0.actors ≡ Runs p seat.frame (suc step.before) ∷ []
  alone me same = ap (λ (me : Sat). me.0.actors) same ∙ runs_there m p seat.frame seat.step seat.halted (Store (proc_id p) i) step seat.inner.me.0.actors seat.alone

  value : word ≡ word_in (m.draft p seat.frame) i
  value = drafted ∙ ap (λ f. word_in (m.draft p f) i) (frame_at seat.frame seat.step seat.halted)

  due : word_due m (Runs p seat.frame (suc step.before) ∷ []) ≡ word
  due =
      let made : suc step.before - (m.procs + 1) ≡ i = omega (arith, low.0) in
      ap (word_in (m.draft p seat.frame)) made ∙ sym value

  bank : (b : ℕ) → b ≡ image_bank_after (mission_in words).spec (mission_in words).script p seat.frame → b ≡ side m p seat.frame
  bank b is = is ∙ sym (sides_same (mission_in words).spec (mission_in words).script fits.holds.fits p seat.frame)

pub load-requires : goal.load-requires
load-requires c =
    let words = c.args.self.now in
    let seat = c.args.seat.now in
    let fits = c.requires.seat in
    let same = c.bank_picked-bank.ensures.same in
    let is = step words seat c.args.i c.args.word fits c.requires.next c.requires.word in
    let few = low words seat c.args.i c.args.word fits c.requires.next c.requires.word in
    let own = bank words seat c.args.i c.args.word fits c.requires.next c.requires.word c.bank_picked-bank.result c.bank_picked-bank.ensures.bank in (
      c.bank_picked-bank.ensures.table ∙ fits.table,
      omega (arith, fits.proc, words.keeps.places, fits.holds.facts.procs_count.few, c.bank_index.ensures, few.1, c.bank_picked-bank.ensures.low, fits.holds.facts.apps_count.few),
      confirm_store_allows (mission_in words) words.table.shared.table_id.slots c.bank_picked-bank.new.seat.id c.bank_picked-bank.new.seat.me (sound (mission_in words) fits.holds.facts fits.holds.fits) (ap (λ (me : Sat). me.1) same ∙ seat.empty)
          (proc_of seat) seat.frame is.before fits.proc (alone words seat c.args.i c.args.word fits c.requires.next c.requires.word c.bank_picked-bank.new.seat.me same)
          c.args.i _ c.args.word (ap (λ (me : Sat). me.0.mission) same ∙ fits.mission) is.next few.0 few.1 (omega (arith, c.bank_index.ensures, own))
          (value words seat c.args.i c.args.word fits c.requires.next c.requires.word),
    )

pub store-requires : goal.store-requires
store-requires c =
    let words = c.args.self.now in
    let seat = c.args.seat.now in
    let fits = c.requires.seat in
    let same = c.bank_picked-bank.ensures.same in
    let is = step words seat c.args.i c.args.word fits c.requires.next c.requires.word in
    let few = low words seat c.args.i c.args.word fits c.requires.next c.requires.word in
    let own = bank words seat c.args.i c.args.word fits c.requires.next c.requires.word c.bank_picked-bank.result c.bank_picked-bank.ensures.bank in
    let here = alone words seat c.args.i c.args.word fits c.requires.next c.requires.word c.bank_picked-bank.new.seat.me same in
    let left = unconfirmed (mission_in words) c.bank_picked-bank.new.seat.me.0 c.load.new.seat.me c.load.result c.args.word (Runs (proc_of seat) seat.frame (suc is.before))
    (ap (λ (me : Sat). me.0.mission) same ∙ fits.mission) here (due words seat c.args.i c.args.word fits c.requires.next c.requires.word) (third c.load.ensures) c.if-load-word.true in (
      c.load.ensures.0 ∙ c.bank_picked-bank.ensures.table ∙ fits.table,
      omega (arith, fits.proc, words.keeps.places, fits.holds.facts.procs_count.few, c.bank_index.ensures, few.1, c.bank_picked-bank.ensures.low, fits.holds.facts.apps_count.few),
      store_allows (mission_in words) words.table.shared.table_id.slots c.load.new.seat.id c.load.new.seat.me (sound (mission_in words) fits.holds.facts fits.holds.fits) left.1
          (proc_of seat) seat.frame is.before fits.proc (ap (λ (v : View). v.actors) left.0 ∙ here)
          c.args.i _ _ is.next (omega (arith, few.0, few.1)) (omega (arith, c.bank_index.ensures, own)) (value words seat c.args.i c.args.word fits c.requires.next c.requires.word),
    )

pub invariant_of-seat : goal.invariant_of-seat
invariant_of-seat c = search rules
