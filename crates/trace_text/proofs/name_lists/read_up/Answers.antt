use Rattle.std.proofs.Common.{arith}
use Rattle.trace_text.proofs.NameLists.{names_over}
use Rattle.trace_text.proofs.name_lists.read_up.Goals as goal

pub returns-in-Some : goal.returns-in-Some
returns-in-Some c = names_over c.args.procs.now c.loop-proc.proc-index c.loop-proc.left c.in-Some.field-0 c.loop-proc.bit c.loop-proc.up _ (omega arith) c.in-Some.is c.loop-proc.invariant.rest
