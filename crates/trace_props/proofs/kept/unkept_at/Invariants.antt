use Rattle.std.proofs.Common.{◌≡◌, drop}
use Rattle.trace_props.specs.Judging.{least_unkept, unkept_at}
use Rattle.trace_props.proofs.kept.unkept_at.Given as goal

abbrev pub invariant-loop-inv : goal.invariant-loop-inv
invariant-loop-inv l = least_unkept l.rows l.read l.least (drop l.inv-index l.inv-items) ≡ unkept_at l.spec l.rows l.read
