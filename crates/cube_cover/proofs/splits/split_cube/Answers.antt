use Rattle.std.proofs.Common.{◌∙◌, ap}
use Rattle.std.specs.Prelude.{◌+◌}
use Rattle.cube_cover.specs.Cubes.{holders, once}
use Rattle.cube_cover.proofs.Holders.{add_none, held_more}
use Rattle.cube_cover.proofs.Splitting.{apart_beyond, digits_in_scope, not_met}
use Rattle.cube_cover.proofs.splits.split_cube.Goals as goal

pub returns-then-not-meet-clause-within : goal.returns-then-not-meet-clause-within
returns-then-not-meet-clause-within c = λ v scope.
    let digits = digits_in_scope c.args.spec.now c.requires v scope in
    add_none (holders c.args.inside.now.items v) _ (not_met c.args.cube c.args.by v c.meet.result c.if-not-meet.true (λ t. c.meet.ensures v digits t))

pub returns-then-not-meet-clause-beyond : goal.returns-then-not-meet-clause-beyond
returns-then-not-meet-clause-beyond c = λ v scope.
    let digits = digits_in_scope c.args.spec.now c.requires v scope in
    let apart = not_met c.args.cube c.args.by v c.meet.result c.if-not-meet.true (λ t. c.meet.ensures v digits t) in
    ap (λ xs. holders xs v) c.in_ok-push.ensures.items ∙ held_more c.args.outside.now.items c.args.cube v
    ∙ ap (λ b. holders c.args.outside.now.items v + once b) (apart_beyond c.args.cube c.args.by v apart)

pub returns-clause-within : goal.returns-clause-within
returns-clause-within c = λ v scope. c.in_ok-push_in_scope.ensures v scope ∙ ap (λ b. holders c.args.inside.now.items v + once b) (c.in_ok-rest.ensures.within v scope)

pub returns-clause-beyond : goal.returns-clause-beyond
returns-clause-beyond c = λ v scope. c.in_ok-rest.ensures.beyond v scope
