use Rattle.std.proofs.Common.{◌≡◌, drop}
use Rattle.idle_parts.specs.DemandedEnvs.{demanded_value}
use Rattle.idle_parts.proofs.wants.demanded_value.Given as goal

abbrev pub invariant-loop-want : goal.invariant-loop-want
invariant-loop-want l = demanded_value (drop l.want-index l.wants) l.factor ≡ demanded_value l.wants l.factor
