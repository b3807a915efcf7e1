use Rattle.std.proofs.Common.{◌≡◌, ◌∙◌, ◌≤◌, ap, arith, length, sym}
use Rattle.std.specs.Prelude.{Option, Some, slice_get}
use Rattle.std.specs.Option.{option_map_or}
use Rattle.scram_types.specs.declared.specification.Factor.{Factor}
use Rattle.scram_types.specs.Specification.{Parts}
use Rattle.scram_types.proofs.Placed.{read_within}
use Rattle.cube_cover.proofs.cubes.count_values.Goals as goal

there : (c : goal.After-items-in-Some) → slice_get c.items.result.now c.from.result ≡ Some c.in-Some.factor.now
there c = read_within c.items.result.now c.from.result c.in-Some.factor.now c.in-Some.ensures.lookup.0 c.in-Some.ensures.lookup.1

pub overflow_cast-result : goal.overflow_cast-result
overflow_cast-result c =
    let few : length c.items-in-Some.result.now ≤ 4 =
    rw (c.items-in-Some.ensures) ((c.spec.invariant.factors c.from.result c.in-Some.factor.now (rw (c.items.ensures) at (there c))).count.few) in
    omega arith

pub returns-in-Some : goal.returns-in-Some
returns-in-Some c =
    let factors = c.items.ensures ∙ ap (λ (s : Parts). s.factors) c.spec.view_is in
    let found = rw (factors, c.from.ensures) at (there c) in
    ap length c.items-in-Some.ensures ∙ sym (ap (λ (one : Option Factor). option_map_or (λ (factor : Factor). length factor.values) one 0) found)
