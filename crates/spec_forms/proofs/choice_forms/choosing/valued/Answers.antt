use Rattle.std.proofs.Common.{arith, subst, sym}
use Rattle.scram_types.specs.Specification.{IsSpec}
use Rattle.choice_table.specs.Environments.{IsEnv}
use Rattle.spec_forms.proofs.choice_forms.Envs.{found_belongs}
use Rattle.spec_forms.proofs.choice_forms.choosing.valued.Goals as goal

pub with_value-requires : goal.with_value-requires
with_value-requires c =
    let few = (subst IsSpec c.spec.view_is c.spec.invariant).factors_count in
    let below = c.in_ok-x.ensures.below in
    omega (arith, few, below)

pub returns-clause-belongs : goal.returns-clause-belongs
returns-clause-belongs c = subst (IsEnv c.args.spec.now) (sym c.with_value.ensures)
    (found_belongs c.args.spec.now (subst IsSpec c.spec.view_is c.spec.invariant) c.args.env.now c.in_ok-x.x c.as_bytes-2.result.now c.in_ok-number.number c.requires (sym c.in_ok-number.ensures))
