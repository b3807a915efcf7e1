use Rattle.std.proofs.Common.{◌≡◌, ◌∙◌, ap, length, rules, subst, sym, vec_len}
use Rattle.std.specs.Prelude.{◌&&◌, ◌||◌}
use Rattle.scram_types.proofs.Naturals.{equal}
use Rattle.cube_cover.specs.Cubes.{IsSplit, is_in}
use Rattle.cube_cover.specs.Regions.{is_marked}
use Rattle.cube_cover.proofs.Marking.{no_items, none_of_none, none_of_other, nothing_left, nothing_taken, own_source, rest_of_rule, taken_by_rule}
use Rattle.cube_cover.proofs.Splitting.{digits_in_scope}
use Rattle.cube_cover.proofs.regions.apply_rule.Goals as goal

pub returns-then-not-has_source-clause-rest : goal.returns-then-not-has_source-clause-rest
returns-then-not-has_source-clause-rest c = nothing_left c.args.source.now.spec.now c.args.source.now.c c.args.rule.now (is_in c.args.cubes.items)
    (none_of_other c.args.source.now.c c.args.rule.now c.args.cubes.items (sym c.has_source.ensures ∙ c.if-not-has_source.true))

pub returns-then-not-has_source-clause-ruled : goal.returns-then-not-has_source-clause-ruled
returns-then-not-has_source-clause-ruled c = nothing_taken c.args.source.now.spec.now c.args.source.now.c c.args.rule.now c.args.cubes.items c.args.ruled.now.items
    (none_of_other c.args.source.now.c c.args.rule.now c.args.cubes.items (sym c.has_source.ensures ∙ c.if-not-has_source.true))

pub returns-then-is_empty-clause-rest : goal.returns-then-is_empty-clause-rest
returns-then-is_empty-clause-rest c =
    let counted : length c.args.cubes.items ≡ vec_len c.args.cubes = search rules in
    nothing_left c.args.source.now.spec.now c.args.source.now.c c.args.rule.now (is_in c.args.cubes.items)
    (none_of_none c.args.source.now.c c.args.rule.now c.args.cubes.items (no_items c.args.cubes.items (counted ∙ equal (vec_len c.args.cubes) 0 (sym c.is_empty.ensures ∙ c.if-is_empty.true))))

pub returns-then-is_empty-clause-ruled : goal.returns-then-is_empty-clause-ruled
returns-then-is_empty-clause-ruled c =
    let counted : length c.args.cubes.items ≡ vec_len c.args.cubes = search rules in
    nothing_taken c.args.source.now.spec.now c.args.source.now.c c.args.rule.now c.args.cubes.items c.args.ruled.now.items
    (none_of_none c.args.source.now.c c.args.rule.now c.args.cubes.items (no_items c.args.cubes.items (counted ∙ equal (vec_len c.args.cubes) 0 (sym c.is_empty.ensures ∙ c.if-is_empty.true))))

pub returns-clause-rest : goal.returns-clause-rest
returns-clause-rest c = rest_of_rule c.args.source.now.spec.now c.args.source.now.c c.args.rule.now c.rule_cube.result c.args.cubes.items c.in_ok-parts.parts.inside.items c.in_ok-parts.parts.outside.items
    (subst (λ xs. IsSplit c.args.source.now.spec.now xs c.rule_cube.result c.in_ok-parts.parts.inside.items c.in_ok-parts.parts.outside.items) c.deref.ensures.value c.in_ok-parts.ensures)
    (λ v scope. own_source c.args.source.now.c v c.args.rule.now c.rule_cube.result (sym c.has_source.ensures ∙ c.if-not-has_source.false) (c.rule_cube.ensures v (digits_in_scope c.args.source.now.spec.now c.requires v scope)))

pub returns-clause-ruled : goal.returns-clause-ruled
returns-clause-ruled c = taken_by_rule c.args.source.now.spec.now c.args.source.now.c c.args.rule.now c.rule_cube.result c.args.cubes.items c.in_ok-parts.parts.inside.items c.in_ok-parts.parts.outside.items
    (subst (λ xs. IsSplit c.args.source.now.spec.now xs c.rule_cube.result c.in_ok-parts.parts.inside.items c.in_ok-parts.parts.outside.items) c.deref.ensures.value c.in_ok-parts.ensures)
    (λ v scope. own_source c.args.source.now.c v c.args.rule.now c.rule_cube.result (sym c.has_source.ensures ∙ c.if-not-has_source.false) (c.rule_cube.ensures v (digits_in_scope c.args.source.now.spec.now c.requires v scope)))
    c.args.ruled.now.items c.assign.new.regions.items (λ passes v. c.in_ok-assign.ensures passes v ∙ ap (λ xs. is_marked c.args.ruled.now.items passes v || (is_in xs v && passes c.args.rule.now.to.0)) c.deref-2.ensures.value)
