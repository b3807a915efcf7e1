use Rattle.std.proofs.Common.{◌∙◌, ap, sym}
use Rattle.std.specs.Prelude.{◌+◌, ◌&&◌, not}
use Rattle.cube_cover.specs.Cubes.{allows, holders, holds, once}
use Rattle.cube_cover.proofs.Holders.{add_none}
use Rattle.cube_cover.proofs.Splitting.{digits_in_scope, shut}
use Rattle.cube_cover.proofs.splits.push_outside_at.Goals as goal

pub returns-then-not-is_open_at : goal.returns-then-not-is_open_at
returns-then-not-is_open_at c = λ v scope.
    let digits = digits_in_scope c.args.spec.now c.requires.known v scope in
    let none = shut c.outside_at-part.result v c.is_open_at.result c.if-not-is_open_at.true (λ t. c.is_open_at.ensures v digits t) in
    add_none (holders c.args.outside.now.items v) (holds c.args.cube v && not (allows c.args.by v c.args.x)) (sym (c.outside_at-part.ensures v digits) ∙ none)

pub returns : goal.returns
returns c = λ v scope.
    let digits = digits_in_scope c.args.spec.now c.requires.known v scope in
    c.in_ok-push_in_scope.ensures v scope ∙ ap (λ b. holders c.args.outside.now.items v + once b) (c.outside_at-part.ensures v digits)
