use Rattle.std.proofs.Common.{arith, subst}
use Rattle.scram_types.specs.Specification.{IsSpec}
use Rattle.spec_forms.proofs.choice_forms.choosing.taken_down.Goals as goal

pub others_up-requires : goal.others_up-requires
others_up-requires c =
    let few = (subst IsSpec c.spec.view_is c.spec.invariant).procs_count.few in
    let below = c.in_ok-p.ensures.below in
    omega (arith, few, below)
