use Rattle.std.proofs.Common.{◌∙◌, arith, length, sym}
use Rattle.scram_types.proofs.Searches.{any_below_is}
use Rattle.idle_parts.specs.Wants.{is_placed_monitor}
use Rattle.idle_parts.proofs.wants.has_placed_monitor.Goals as goal

pub returns-then-is_placed_monitor : goal.returns-then-is_placed_monitor
returns-then-is_placed_monitor c = sym (any_below_is (is_placed_monitor c.args.spec.now) (length c.args.spec.now.apps) c.loop-a.a
    (sym c.is_placed_monitor.ensures ∙ c.if-is_placed_monitor.true) (omega (arith, c.loop-a-test.true, c.count_apps-a-end.ensures.value)))
