use Rattle.std.proofs.Common.{arith, length}
use Rattle.scram_types.specs.Lookups.{conf_id}
use Rattle.coverage_check.specs.declared.shown.Other.TheVariants as other
use Rattle.coverage_check.specs.Showing.{shown_at}
use Rattle.coverage_check.specs.Holding.{breaks_from}
use Rattle.coverage_check.proofs.Showing.{first_shown}
use Rattle.coverage_check.proofs.Reaching.{covered}
use Rattle.coverage_check.proofs.holding.refuse_invariant_of.Goals as goal

pub returns-then-breaks_from : goal.returns-then-breaks_from
returns-then-breaks_from c = first_shown (λ i. breaks_from c.args.spec.now c.args.inv.now (conf_id i)) (λ i. shown_at 11 i (other.Item c.args.k)) (length c.args.spec.now.confs)
    c.loop-i.i c.at.result c.breaks_from.result c.loop-i.invariant c.breaks_from.ensures c.if-breaks_from.true c.at.ensures (omega arith)

pub breaks_from-requires : goal.breaks_from-requires
breaks_from-requires c =
    let wide = c.told-covers in
    let count = c.count_confs-i-end.ensures in
    covered c.args.spec.now c.args.covers.now c.loop-i.i c.from.result _ c.from.ensures c.requires (omega arith) (omega arith)
