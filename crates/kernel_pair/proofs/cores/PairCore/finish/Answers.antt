use Rattle.std.proofs.Common.{sym, subst, arith}
use Rattle.kernel_pair.specs.Machines.{PairParts, pair_flight, pair_in}
use Rattle.kernel_pair.specs.Pairs.{IsPairOver}
use Rattle.kernel_pair.proofs.Landing.{all_ended, first_stays, second_stays}
use Rattle.kernel_pair.proofs.cores.PairCore.finish.Goals as goal

pub finish-requires : goal.finish-requires
finish-requires g c =
    let k = c.self.inside in
    let over : IsPairOver (pair_flight k.machine) (pair_in k.machine) = subst (λ (v : PairParts). IsPairOver (pair_flight v) (pair_in v)) (sym c.self.view_is) c.requires in
    all_ended k.machine 1 k.second c.holds.ensures.holds over (omega arith) (second_stays (pair_in k.machine) c.has_halted-stopped.result c.holds.ensures.holds.one_stays.stays c.has_halted-stopped.ensures c.if-stopped.true) c.self.invariant.second

pub finish-requires-else-stopped : goal.finish-requires-else-stopped
finish-requires-else-stopped g c =
    let k = c.self.inside in
    let over : IsPairOver (pair_flight k.machine) (pair_in k.machine) = subst (λ (v : PairParts). IsPairOver (pair_flight v) (pair_in v)) (sym c.self.view_is) c.requires in
    all_ended k.machine 0 k.first c.holds.ensures.holds over (omega arith) (first_stays (pair_in k.machine) c.has_halted-stopped.result c.has_halted-stopped.ensures c.if-stopped.false) c.self.invariant.first
