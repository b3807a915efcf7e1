use Rattle.std.proofs.Common.{◌∙◌, ap, subst, sym}
use Rattle.std.specs.Prelude.{◌&&◌, not}
use Rattle.scram_types.specs.Specification.{IsSpec}
use Rattle.choice_table.specs.Demands.{applies_in}
use Rattle.choice_table.specs.Environments.{in_scope}
use Rattle.idle_parts.proofs.DemandedEnvs.{spoken_somewhere}
use Rattle.idle_parts.proofs.wants.is_demand_idle.Goals as goal

pub returns : goal.returns
returns c = ap not (c.speaks_in_scope.ensures
    ∙ ap (λ v. in_scope c.args.spec.now v && applies_in c.args.demand.now v) c.make_spoken-env.ensures
    ∙ sym (spoken_somewhere c.args.spec.now (subst IsSpec c.spec.view_is c.spec.invariant) c.args.demand.now c.requires))
