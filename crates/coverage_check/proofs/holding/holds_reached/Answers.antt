use Rattle.std.proofs.Common.{◌∙◌, arith, length, sym}
use Rattle.scram_types.specs.Lookups.{conf_id}
use Rattle.scram_types.proofs.Searches.{all_false}
use Rattle.coverage_check.specs.Holding.{holds_on_way}
use Rattle.coverage_check.proofs.holding.holds_reached.Goals as goal

pub returns-then-not-holds_on_way : goal.returns-then-not-holds_on_way
returns-then-not-holds_on_way c = sym (all_false (holds_on_way c.args.spec.now c.args.inv.now (conf_id c.args.i)) (length c.args.spec.now.confs) c.loop-j.j (omega arith)
    (sym c.holds_on_way.ensures ∙ c.if-not-holds_on_way.true))
