use Rattle.std.proofs.Common.{◌≡◌, ◌∙◌, ap, length, rules, subst, sym}
use Rattle.std.specs.Prelude.{IfSome, option_to_list}
use Rattle.fail_stop.specs.Events.{At}
use Rattle.word_table.specs.Tables.{IsSeatOf, proc_of, seat_place}
use Rattle.test_flights.proofs.words.Seats.{first_of_two, last_of_two}
use Rattle.test_flights.proofs.words.crews.pair_of.Goals as goal

pub crew_of-requires-2-clause-seat : goal.crew_of-requires-2-clause-seat
crew_of-requires-2-clause-seat g c =
    let two : length c.args.seats.items ≡ 2 = search rules in
    last_of_two (λ i seat. IsSeatOf c.args.words.now seat) c.args.seats.items c.pop-two.new.self.items c.pop-two.result two c.pop-two.ensures.items (λ i seat there. (c.requires.seats.each i seat there).0)

pub crew_of-requires-2-clause-opening : goal.crew_of-requires-2-clause-opening
crew_of-requires-2-clause-opening g c =
    let two : length c.args.seats.items ≡ 2 = search rules in
    last_of_two (λ i seat. seat_place seat ≡ At 0 0) c.args.seats.items c.pop-two.new.self.items c.pop-two.result two c.pop-two.ensures.items c.requires.opening

pub returns : goal.returns
returns g c =
    let two : length c.args.seats.items ≡ 2 = search rules in
    let some : length (option_to_list c.pop-two.result) ≡ 1 = ap (λ o. length (option_to_list o)) (sym c.in_ok-second.ensures.seat) in
    let first = first_of_two (λ i seat. proc_of seat ≡ i) c.args.seats.items c.pop-two.new.self.items c.pop-one.new.self.items c.pop-two.result c.pop-one.result two c.pop-two.ensures.items c.pop-one.ensures.items some
    (λ i seat there. (c.requires.seats.each i seat there).1) in
    let second = last_of_two (λ i seat. proc_of seat ≡ i) c.args.seats.items c.pop-two.new.self.items c.pop-two.result two c.pop-two.ensures.items (λ i seat there. (c.requires.seats.each i seat there).1) in
    record {
      two = sym c.requires.seats.count ∙ two;
      first_is = subst (λ o. IfSome o (λ seat. proc_of seat ≡ 0)) (sym c.in_ok-first.ensures.seat) first;
      second_is = subst (λ o. IfSome o (λ seat. proc_of seat ≡ 1)) (sym c.in_ok-second.ensures.seat) second;
      first_fits = c.in_ok-first.ensures.fits;
      second_fits = c.in_ok-second.ensures.fits;
    }
