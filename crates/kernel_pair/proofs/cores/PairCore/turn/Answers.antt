use Rattle.std.proofs.Common.{sym, subst}
use Rattle.std.specs.Prelude.{replicate}
use Rattle.kernel_pair.specs.Machines.{PairParts, pair_flight, pair_in}
use Rattle.kernel_pair.specs.Pairs.{IsPairNext}
use Rattle.kernel_pair.proofs.CoreSteps.{quiet_keeps, turn_quiet, turn_words}
use Rattle.kernel_pair.proofs.cores.PairCore.turn.Goals as goal

pub make-requires-clause-words : goal.make-requires-clause-words
make-requires-clause-words g c = turn_words (pair_flight c.self.inside.machine) (pair_in c.self.inside.machine) c.args.event (replicate 64 0) 0 c.requires.turn

pub invariant_of-self : goal.invariant_of-self
invariant_of-self g c =
    let k = c.self.inside in
    let next : IsPairNext (pair_flight k.machine) k.machine.halt (pair_in k.machine) c.args.event = subst (λ (v : PairParts). IsPairNext (pair_flight v) v.halt (pair_in v) c.args.event) (sym c.self.view_is) c.requires.next in
    quiet_keeps k.machine c.make.new.self c.args.event c.make.ensures c.holds.ensures.facts next (turn_quiet c.args.event c.requires.turn) k.first k.second k.flyers.items c.self.invariant
