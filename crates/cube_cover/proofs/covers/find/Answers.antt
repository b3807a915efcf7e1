use Rattle.std.proofs.Common.{◌∙◌, subst, sym}
use Rattle.cube_cover.specs.Covers.{IsLeastEnv}
use Rattle.cube_cover.specs.Cubes.{IsSplit, is_in}
use Rattle.cube_cover.specs.Findings.{is_stuck_at}
use Rattle.cube_cover.proofs.Splitting.{digits_in_scope}
use Rattle.cube_cover.proofs.Targets.{chosen_all, chosen_cubes, chosen_only, stuck_cubes}
use Rattle.cube_cover.proofs.Unions.{least_same}
use Rattle.cube_cover.proofs.covers.find.Goals as goal

pub returns : goal.returns
returns c =
    let at = chosen_cubes c.args.spec.now c.args.i c.args.t c.args.regions.now c.in_ok-cubes.cubes.items c.requires.regions (λ v. c.in_ok-cubes.ensures v) in
    let least = subst (λ xs. IsLeastEnv c.args.spec.now (is_in xs) c.least_of.result) c.deref.ensures.value c.least_of.ensures in
    let parts = subst (λ xs. IsSplit c.args.spec.now xs c.running.result c.in_ok-parts.parts.inside.items c.in_ok-parts.parts.outside.items) c.deref-2.ensures.value c.in_ok-parts.ensures in
    let stuck = subst (λ xs. IsLeastEnv c.args.spec.now (is_in xs) c.least_of-not_runnable.result) c.deref-3.ensures.value c.least_of-not_runnable.ensures in
    record {
      only = λ t. chosen_only c.args.spec.now c.args.i c.args.t c.in_ok-cubes.cubes.items c.least_of.result at least (sym c.is_some-is_chosen.ensures ∙ t);
      all = λ target. c.is_some-is_chosen.ensures ∙ chosen_all c.args.spec.now c.args.i c.args.t c.in_ok-cubes.cubes.items c.least_of.result at least target;
      not_runnable = least_same c.args.spec.now (is_in c.in_ok-parts.parts.outside.items) (is_stuck_at c.args.spec.now c.args.i c.args.t) c.least_of-not_runnable.result
          (stuck_cubes c.args.spec.now c.args.i c.args.t c.in_ok-cubes.cubes.items c.in_ok-parts.parts.inside.items c.in_ok-parts.parts.outside.items c.running.result at
          (λ v scope. c.running.ensures v (digits_in_scope c.args.spec.now c.requires.known v scope)) parts) stuck;
      unsettled = c.in_ok-unsettled.ensures;
    }
