use Rattle.std.proofs.Common.{◌≡◌, ◌∙◌, ap, arith}
use Rattle.std.specs.Prelude.{◌+◌, ◌||◌}
use Rattle.cube_cover.specs.Cubes.{holders, holds, is_in, once}
use Rattle.cube_cover.proofs.Holders.{held_by_none, held_more}
use Rattle.cube_cover.proofs.Unions.{in_more, in_none}
use Rattle.cube_cover.proofs.covers.all_cubes.Goals as goal

pub returns-clause-all : goal.returns-clause-all
returns-clause-all c = λ v scope.
    ap (λ xs. is_in xs v) c.in_ok-push.ensures.items ∙ in_more c.new-cubes.result.items c.whole.result v
    ∙ ap (λ xs. is_in xs v || holds c.whole.result v) c.new-cubes.ensures.items ∙ ap (λ b. b || holds c.whole.result v) (in_none v) ∙ c.whole.ensures v scope.belongs

pub returns-clause-once : goal.returns-clause-once
returns-clause-once c = λ v scope.
    let whole : 0 + once (holds c.whole.result v) ≡ once (holds c.whole.result v) = omega arith in
    ap (λ xs. holders xs v) c.in_ok-push.ensures.items ∙ held_more c.new-cubes.result.items c.whole.result v
    ∙ ap (λ xs. holders xs v + once (holds c.whole.result v)) c.new-cubes.ensures.items ∙ ap (λ n. n + once (holds c.whole.result v)) (held_by_none v)
    ∙ whole ∙ ap once (c.whole.ensures v scope.belongs)
