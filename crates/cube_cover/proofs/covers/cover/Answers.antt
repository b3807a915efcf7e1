use Rattle.std.proofs.Common.{◌+◌, arith, refl, subst, sym}
use Rattle.cube_cover.specs.Covers.{IsLeastEnv, is_unfit}
use Rattle.cube_cover.specs.Cubes.{is_in}
use Rattle.cube_cover.specs.Findings.{is_left_at, is_stuck_at}
use Rattle.cube_cover.specs.Regions.{AreAll}
use Rattle.cube_cover.proofs.Targets.{HasTargetsBelow, all_chosen, least_more, no_targets, targets_more, unfit_rest, whole_cover}
use Rattle.cube_cover.proofs.Unions.{least_same}
use Rattle.cube_cover.proofs.covers.cover.Goals as goal

pub find-requires-clause-regions : goal.find-requires-clause-regions
find-requires-clause-regions c = subst (AreAll c.args.spec.now c.args.i) (sym c.deref-in-loop-t.ensures.value)
    (all_chosen c.args.spec.now c.args.i c.in_ok-all_cubes.field-0.items c.in_ok-found.found.unruled.items c.in_ok-found.found.ruled.items c.in_ok-regions.regions.items
    (λ v scope. c.in_ok-all_cubes.ensures.all v scope) c.in_ok-found.ensures (λ passes v. c.in_ok-regions.ensures passes v))

pub loop-t-init : goal.loop-t-init
loop-t-init c =
    let unfit = subst (λ xs. IsLeastEnv c.args.spec.now (is_in xs) c.least_of-unfit.result) c.deref.ensures.value c.least_of-unfit.ensures in
    record {
      targets = no_targets c.args.spec.now c.args.i;
      unfit = least_same c.args.spec.now (is_in c.in_ok-found.found.unruled.items) (is_unfit c.args.spec.now c.args.i) c.least_of-unfit.result
          (unfit_rest c.args.spec.now c.args.i c.in_ok-all_cubes.field-0.items c.in_ok-found.found.unruled.items c.in_ok-found.found.ruled.items (λ v scope. c.in_ok-all_cubes.ensures.all v scope) c.in_ok-found.ensures) unfit;
      not_runnable = λ v known scope. refl;
      unsettled = λ v known scope. refl;
    }

pub loop-t-preserved : goal.loop-t-preserved
loop-t-preserved c = record {
  targets = subst (HasTargetsBelow c.args.spec.now c.args.i (c.loop-t.t + 1)) (sym c.with_finding-cover.ensures.targets)
      (targets_more c.args.spec.now c.args.i c.loop-t.t c.loop-t.cover.targets c.loop-t.invariant.targets c.in_ok-finding.finding.is_chosen c.in_ok-finding.ensures.only c.in_ok-finding.ensures.all);
  unfit = subst (IsLeastEnv c.args.spec.now (is_unfit c.args.spec.now c.args.i)) (sym c.with_finding-cover.ensures.unfit) c.loop-t.invariant.unfit;
  not_runnable = least_more c.args.spec.now (is_stuck_at c.args.spec.now c.args.i) c.loop-t.t c.loop-t.cover.not_runnable c.in_ok-finding.finding.not_runnable c.with_finding-cover.result.not_runnable
      c.loop-t.invariant.not_runnable c.in_ok-finding.ensures.not_runnable c.with_finding-cover.ensures.not_runnable;
  unsettled = least_more c.args.spec.now (is_left_at c.args.spec.now c.args.i) c.loop-t.t c.loop-t.cover.unsettled c.in_ok-finding.finding.unsettled c.with_finding-cover.result.unsettled
      c.loop-t.invariant.unsettled c.in_ok-finding.ensures.unsettled c.with_finding-cover.ensures.unsettled;
}

pub returns : goal.returns
returns c = whole_cover c.args.spec.now c.count_confs-count.ensures.known c.args.i c.requires c.loop-t.t c.loop-t.cover (let same = c.count_confs-count.ensures.value in omega arith)
    c.loop-t.invariant.targets c.loop-t.invariant.unfit c.loop-t.invariant.not_runnable c.loop-t.invariant.unsettled
