use Rattle.std.proofs.Common.{rules}
use Rattle.event_core.specs.Cores.{core_places, core_words, core_flight}
use Rattle.test_schedules.proofs.Choosing.{if_own_next}
use Rattle.test_schedules.proofs.choices.next_in_order.Goals as goal

pub returns-then-backwards-clause-next : goal.returns-then-backwards-clause-next
returns-then-backwards-clause-next c = if_own_next (core_flight c.args.core.now) (core_places c.args.core.now) (core_words c.args.core.now) _ c.next_of.result c.next_of.ensures

pub returns-else-backwards-clause-next : goal.returns-else-backwards-clause-next
returns-else-backwards-clause-next c = if_own_next (core_flight c.args.core.now) (core_places c.args.core.now) (core_words c.args.core.now) _ c.next_of-else-backwards.result c.next_of-else-backwards.ensures

pub returns-then-backwards-clause-same : goal.returns-then-backwards-clause-same
returns-then-backwards-clause-same c = search rules
