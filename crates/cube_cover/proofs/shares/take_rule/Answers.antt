use Rattle.std.proofs.Common.{◌∙◌, ap, subst}
use Rattle.std.specs.Prelude.{◌&&◌, if◌then◌else◌}
use Rattle.choice_table.specs.Choices.{rule_fits}
use Rattle.cube_cover.specs.Cubes.{IsSplit, holders, is_in}
use Rattle.cube_cover.specs.Shares.{IsShare}
use Rattle.cube_cover.proofs.Holders.{split_within}
use Rattle.cube_cover.proofs.RuleShares.{share_same}
use Rattle.cube_cover.proofs.Splitting.{digits_in_scope}
use Rattle.cube_cover.proofs.shares.take_rule.Goals as goal

pub returns-clause-share : goal.returns-clause-share
returns-clause-share c =
    let parts = subst (λ xs. IsSplit c.args.spec.now xs c.fitting_cube.result c.in_ok-parts.parts.inside.items c.in_ok-parts.parts.outside.items) c.deref.ensures.value c.in_ok-parts.ensures in
    let is = subst (λ xs. IsShare c.args.spec.now (is_in xs) c.share_of.result) c.deref-2.ensures.value c.share_of.ensures in
    share_same c.args.spec.now c.requires.known (is_in c.in_ok-parts.parts.inside.items) (λ v. is_in c.args.cubes.items v && rule_fits c.args.c v c.args.rule.now) c.share_of.result
    (λ v scope. split_within c.args.spec.now c.args.cubes.items c.fitting_cube.result c.in_ok-parts.parts.inside.items c.in_ok-parts.parts.outside.items parts v scope
    ∙ ap (λ b. is_in c.args.cubes.items v && b) (c.fitting_cube.ensures v (digits_in_scope c.args.spec.now c.requires.known v scope))) is

pub returns-clause-rest : goal.returns-clause-rest
returns-clause-rest c =
    let parts = subst (λ xs. IsSplit c.args.spec.now xs c.fitting_cube.result c.in_ok-parts.parts.inside.items c.in_ok-parts.parts.outside.items) c.deref.ensures.value c.in_ok-parts.ensures in
    λ v scope. parts.beyond v scope ∙ ap (λ b. if b then 0 else holders c.args.cubes.items v) (c.fitting_cube.ensures v (digits_in_scope c.args.spec.now c.requires.known v scope))
