use Rattle.std.proofs.Common.{◌≡◌, ◌<◌, ◌∙◌, ap, arith, length, not}
use Rattle.scram_types.specs.Specification.{Parts}
use Rattle.scram_types.specs.Bits.{count_below}
use Rattle.cube_cover.specs.Cubes.{holders, holds, may_be_up}
use Rattle.cube_cover.proofs.Holders.{add_none, held_more}
use Rattle.cube_cover.proofs.LeastDigits.{out_of_scope}
use Rattle.cube_cover.proofs.splits.push_in_scope.Goals as goal

pub returns-then-spec-count_always_down : goal.returns-then-spec-count_always_down
returns-then-spec-count_always_down c =
    let same : c.spec.inside.halts ≡ c.args.spec.now.halts = ap (λ (s : Parts). s.halts) c.spec.view_is in
    let down : c.count_always_down.result ≡ count_below (λ p. not (may_be_up c.args.cube p)) (length c.args.spec.now.procs) = c.count_always_down.ensures in
    let test = c.if-spec-count_always_down.true in
    let many : c.args.spec.now.halts < count_below (λ p. not (may_be_up c.args.cube p)) (length c.args.spec.now.procs) = omega (arith, same, down, test) in
    λ v scope. add_none (holders c.args.cubes.now.items v) (holds c.args.cube v) (out_of_scope c.args.spec.now c.requires c.args.cube many v scope)

pub returns : goal.returns
returns c = λ v scope. ap (λ xs. holders xs v) c.in_ok-push.ensures.items ∙ held_more c.args.cubes.now.items c.args.cube v
