use Rattle.std.proofs.Common.{◌≡◌, ◌∙◌, ap, arith}
use Rattle.std.specs.Prelude.{◌+◌, ◌&&◌, not}
use Rattle.scram_types.specs.Searches.{all_below}
use Rattle.cube_cover.specs.Cubes.{allows, holders, holds, once}
use Rattle.cube_cover.proofs.Splitting.{beyond_more, digits_in_scope, rest_more}
use Rattle.cube_cover.proofs.splits.cut.Goals as goal

pub loop-x-preserved : goal.loop-x-preserved
loop-x-preserved c = record {
  rest = rest_more c.args.spec.now c.args.cube c.args.by c.loop-x.rest c.inside_at-rest.result c.loop-x.x c.loop-x.invariant.rest
      (λ v scope. c.inside_at-rest.ensures v (digits_in_scope c.args.spec.now c.requires v scope));
  beyond = beyond_more c.args.spec.now c.args.cube c.args.by c.loop-x.rest c.inside_at-rest.result c.loop-x.x
      c.args.outside.now.items c.loop-x.outside.items c.push_outside_at.new.outside.items c.loop-x.invariant.rest c.loop-x.invariant.beyond
      (λ v scope. c.in_ok-push_outside_at.ensures v scope);
}

pub returns-clause-beyond : goal.returns-clause-beyond
unfolding holds
returns-clause-beyond c = λ v scope.
    let end : c.loop-x.x ≡ 14 = omega arith in
    c.loop-x.invariant.beyond v scope ∙ ap (λ n. holders c.args.outside.now.items v + once (holds c.args.cube v && not (all_below (allows c.args.by v) n))) end

pub returns-clause-within : goal.returns-clause-within
unfolding holds
returns-clause-within c = λ v scope.
    let end : c.loop-x.x ≡ 14 = omega arith in
    c.loop-x.invariant.rest v scope ∙ ap (λ n. holds c.args.cube v && all_below (allows c.args.by v) n) end
