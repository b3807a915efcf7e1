use Rattle.std.proofs.Common.{rules, ◌≡◌, ◌∙◌, ap, length, sym, subst}
use Rattle.word_table.specs.Tables.{IsSeatOf, proc_of, seat_place}
use Rattle.word_deck.specs.Flights.{IsBoarded}
use Rattle.word_deck.specs.Landing.{IsLanded}
use Rattle.word_deck.proofs.Listing.{landed_more, landed_none, open_front, open_last}
use Rattle.word_deck.proofs.scopes.+fly_rest.Goals as goal

pub board-boarding-requires-clause-seat : goal.board-boarding-requires-clause-seat
board-boarding-requires-clause-seat g t c κs within =
    (open_last c.args.shared.now.resources.now.words c.args.roster.now.waiting.items c.pop.new.self.items c.pop.result c.in-Some.seat
    c.pop.ensures.items c.in-Some.is c.requires.waiting).0

pub board-boarding-requires-clause-opening : goal.board-boarding-requires-clause-opening
board-boarding-requires-clause-opening g t c κs within =
    (open_last c.args.shared.now.resources.now.words c.args.roster.now.waiting.items c.pop.new.self.items c.pop.result c.in-Some.seat
    c.pop.ensures.items c.in-Some.is c.requires.waiting).2

pub fly_rest-kernel-requires-clause-waiting : goal.fly_rest-kernel-requires-clause-waiting
fly_rest-kernel-requires-clause-waiting g t c κs within =
    open_front c.args.shared.now.resources.now.words c.args.roster.now.waiting.items c.pop.new.self.items c.pop.result c.in-Some.seat
    c.pop.ensures.items c.in-Some.is c.requires.waiting

pub fly_rest-kernel-requires-clause-own : goal.fly_rest-kernel-requires-clause-own
fly_rest-kernel-requires-clause-own g t c κs within = c.board-boarding.ensures.own

pub returns-in-None-clause-seats : goal.returns-in-None-clause-seats
returns-in-None-clause-seats g t c =
    let none : length c.args.roster.now.landed.items ≡ 0 = search rules in landed_none c.args.shared.now.resources.now.words c.args.roster.now.landed.items none

pub land_boarded-seat-requires-clause-own : goal.land_boarded-seat-requires-clause-own
land_boarded-seat-requires-clause-own g t c = c.fly_rest-kernel.ensures.own

pub land_boarded-seat-requires-clause-boarded : goal.land_boarded-seat-requires-clause-boarded
land_boarded-seat-requires-clause-boarded g t c =
    subst (λ seat. IsBoarded c.args.shared.now.resources.now.words seat c.board-boarding.result) (sym c.of-was.ensures) c.board-boarding.ensures.boarded

pub land_boarded-seat-requires-clause-seat : goal.land_boarded-seat-requires-clause-seat
land_boarded-seat-requires-clause-seat g t c =
    let last = open_last c.args.shared.now.resources.now.words c.args.roster.now.waiting.items c.pop.new.self.items c.pop.result c.in-Some.seat
    c.pop.ensures.items c.in-Some.is c.requires.waiting in
    subst (λ seat. IsSeatOf c.args.shared.now.resources.now.words seat) (sym c.of-was.ensures) last.0

pub land_boarded-seat-requires-clause-opening : goal.land_boarded-seat-requires-clause-opening
land_boarded-seat-requires-clause-opening g t c =
    let last = open_last c.args.shared.now.resources.now.words c.args.roster.now.waiting.items c.pop.new.self.items c.pop.result c.in-Some.seat
    c.pop.ensures.items c.in-Some.is c.requires.waiting in
    ap seat_place c.of-was.ensures ∙ last.2

pub returns-clause-seats : goal.returns-clause-seats
returns-clause-seats g t c =
    let last = open_last c.args.shared.now.resources.now.words c.args.roster.now.waiting.items c.pop.new.self.items c.pop.result c.in-Some.seat c.pop.ensures.items c.in-Some.is c.requires.waiting in
    let long : length c.fly_rest-kernel.new.roster.landed.items ≡ length c.pop.new.self.items = search rules in
    landed_more c.args.shared.now.resources.now.words c.fly_rest-kernel.new.roster.landed.items c.push_reserved.new.self.items c.land_boarded-seat.result (length c.pop.new.self.items) c.fly_rest-kernel.ensures.seats long
    (subst (λ p. IsLanded c.args.shared.now.resources.now.words p c.land_boarded-seat.result) (ap proc_of c.of-was.ensures ∙ last.1) c.land_boarded-seat.ensures.landed) c.push_reserved.ensures.items

pub returns-in-None-clause-done : goal.returns-in-None-clause-done
returns-in-None-clause-done c = search rules
