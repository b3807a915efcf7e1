use Rattle.std.proofs.Common.{◌≡◌, ◌∙◌, false, sym}
use Rattle.std.specs.Prelude.{if◌then◌else◌}
use Rattle.word_table.specs.Tables.{flight_in, proc_of, seat_place, tries_of}
use Rattle.word_deck.specs.Crews.{is_done}
use Rattle.word_deck.specs.declared.turns.Turn.TheVariants.{Worked, Finished}
use Rattle.word_deck.proofs.Places.{finished_by, still_flies, tried_by, waits}
use Rattle.word_deck.proofs.crews.Crew.turn.Goals as goal

pub begin-requires-clause-waits : goal.begin-requires-clause-waits
begin-requires-clause-waits g c =
    let m = flight_in c.args.words.now in
    let p = proc_of c.args.self.now.seat in
    let place = seat_place c.args.self.now.seat in
    let flies : is_done m p place ≡ false = rw c.requires.mission (sym c.is_done.ensures ∙ c.if-is_done.false) in
    waits m p place flies c.requires.fits.begin c.requires.fits.seated.in_flight

pub returns-in-None-clause-finished : goal.returns-in-None-clause-finished
returns-in-None-clause-finished g c =
    let m = flight_in c.args.words.now in
    let p = proc_of c.args.self.now.seat in
    let place = seat_place c.args.self.now.seat in
    let flies : is_done m p place ≡ false = rw c.requires.mission (sym c.is_done.ensures ∙ c.if-is_done.false) in
    still_flies m p place (seat_place c.begin.new.self.seat) flies c.in-None.ensures.place

pub returns-in-Some-clause-finished : goal.returns-in-Some-clause-finished
returns-in-Some-clause-finished g c =
    let m = flight_in c.args.words.now in
    let p = proc_of c.args.self.now.seat in
    let place = seat_place c.fly.new.self.seat in
    let told : c.outcome.result ≡ (if is_done m p place then Finished else Worked) = rw (c.requires.mission, sym (c.fly.ensures.proc ∙ c.in-Some.ensures.proc)) c.outcome.ensures in
    finished_by m p place c.outcome.result told

pub returns-in-Some-clause-tries : goal.returns-in-Some-clause-tries
returns-in-Some-clause-tries g c =
    c.fly.ensures.tries ∙ c.in-Some.ensures.tries ∙ sym (tried_by _ c.outcome.result (tries_of c.args.self.now.seat) c.outcome.ensures)
