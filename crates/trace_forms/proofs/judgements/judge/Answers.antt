use Rattle.std.specs.Prelude.{Some, None}
use Rattle.std.proofs.Common.{refl}
use Rattle.trace_forms.proofs.judgements.judge.Goals as goal

pub returns-in-Ok-clause-is : goal.returns-in-Ok-clause-is
returns-in-Ok-clause-is c = record { judged = None; judges = (rw (c.items.ensures, c.items-2.ensures) at c.in-Ok.ensures.holds).0 refl; gives = rw (c.make_holds_line.ensures) refl }

pub returns-in-Err-clause-is : goal.returns-in-Err-clause-is
returns-in-Err-clause-is c = record { judged = Some c.in-Err.broken; judges = rw (c.items.ensures, c.items-2.ensures) at c.in-Err.ensures.broken; gives = rw (c.make_broken_line.ensures) refl }
