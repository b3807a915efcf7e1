use Rattle.std.proofs.lemmas.Grind.{common_steps}
use Rattle.std.proofs.Common.{arith, ap, subst, sym}
use Rattle.scram_types.specs.Specification.{IsSpec}
use Rattle.scram_types.specs.declared.rows.Env.{Env}
use Rattle.choice_table.specs.Environments.{IsEnv}
use Rattle.spec_forms.specs.choice_forms.Choosing.{env_after_all}
use Rattle.spec_forms.proofs.choice_forms.Envs.{opening_belongs}
use Rattle.spec_forms.proofs.choice_forms.choosing.env_after_all.Goals as goal

pub loop-word-init : goal.loop-word-init
loop-word-init c = record {
  rest = ap (λ (v : Env). env_after_all c.args.spec.now v c.args.state.now) c.opening_env-env.ensures;
  belongs = subst (IsEnv c.args.spec.now) (sym c.opening_env-env.ensures) (opening_belongs c.args.spec.now (subst IsSpec c.spec.view_is c.spec.invariant));
}

pub loop-word-preserved : goal.loop-word-preserved
loop-word-preserved c = grind (arith, common_steps)
