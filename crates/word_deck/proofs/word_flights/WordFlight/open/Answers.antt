use Rattle.std.proofs.Common.{rules, ap, arith, length, subst, sym}
use Rattle.word_deck.specs.Flights.{IsAtTable}
use Rattle.word_deck.proofs.Noting.{fresh}
use Rattle.word_deck.proofs.Outcomes.{at_table}
use Rattle.word_deck.proofs.word_flights.WordFlight.open.Goals as goal

pub invariant_of-result : goal.invariant_of-result
invariant_of-result g c =
    let kernel = c.in_ok-words.ensures.kernel in
    record {
      of = c.in_ok-words.ensures.mission;
      same = ap (λ mission. mission.now) c.kernel.ensures.mission;
      seated = subst (IsAtTable c.in_ok-words.words) (sym c.kernel.ensures.seat) (kernel.table, kernel.mission);
      fresh = fresh (length c.args.mission.now.spec.procs) c.in_ok-words.kseat c.kernel.result.kseat (omega (arith, c.holds.ensures.spec.procs_count.enough)) c.kernel.ensures.seat c.in_ok-words.ensures.kernel_place;
      waiting = at_table c.in_ok-words.words c.in_ok-words.waiting.items c.in_ok-words.ensures.seats c.in_ok-words.ensures.opening;
      all = search rules;
      none_own = search rules;
      none_landed = search rules;
      own_room = search rules;
      room = search rules;
    }
