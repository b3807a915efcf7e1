use Rattle.std.proofs.Common.{arith}
use Rattle.trace_text.proofs.NameLists.{too_many}
use Rattle.trace_text.proofs.name_lists.has_names.Goals as goal

pub returns-then-wanted-eq0 : goal.returns-then-wanted-eq0
returns-then-wanted-eq0 c = too_many c.args.list.now c.loop-left.left c.in-Some.names c.loop-left.wanted c.args.count c.in-Some.is (omega arith) c.loop-left.invariant.rest
