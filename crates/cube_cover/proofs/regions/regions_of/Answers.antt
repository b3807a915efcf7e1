use Rattle.std.proofs.Common.{◌≡◌, ◌≤◌, ◌<◌, ◌∙◌, ap, get_or, length, not, subst, refl}
use Rattle.std.specs.Prelude.{◌||◌, ◌&&◌}
use Rattle.scram_types.specs.Specification.{Parts}
use Rattle.choice_table.specs.Choices.{rule_fits}
use Rattle.cube_cover.specs.Cubes.{Agree, is_in}
use Rattle.cube_cover.specs.Regions.{Rule, is_marked, is_ruled}
use Rattle.cube_cover.proofs.Marking.{all_rest, all_ruled, marks_none, rest_ruled, targets_ruled}
use Rattle.cube_cover.proofs.regions.regions_of.Goals as goal

pub loop-rule-init : goal.loop-rule-init
loop-rule-init c = record {
  targets = λ passes v scope. ap (λ b. b || (is_in c.args.cubes.items v && is_ruled c.args.spec.now.rules c.args.c passes v))
      (ap (λ rs. is_marked rs passes v) c.new-ruled.ensures.items ∙ marks_none passes v);
  rest = λ v scope. refl;
}

pub loop-rule-preserved : goal.loop-rule-preserved
loop-rule-preserved c =
    let same : c.items-rule-items.result.now ≡ c.args.spec.now.rules = c.items-rule-items.ensures ∙ ap (λ (s : Parts). s.rules) c.spec.view_is in
    let item : c.rule-item.result ≡ get_or c.args.spec.now.rules c.loop-rule.rule-index c.rule-item.result =
    c.rule-item.is ∙ ap (λ xs. get_or xs c.loop-rule.rule-index c.rule-item.result) same in
    let low : c.loop-rule.rule-index < length c.args.spec.now.rules = subst (λ xs. c.loop-rule.rule-index < length xs) same c.loop-rule-test.true in
    let rest : Agree c.args.spec.now (is_in c.in_ok-open.open.items) (λ v. is_in c.loop-rule.open.items v && not (rule_fits c.args.c v (get_or c.args.spec.now.rules c.loop-rule.rule-index c.rule-item.result))) =
    λ v scope. c.in_ok-open.ensures.rest v scope ∙ ap (λ r. is_in c.loop-rule.open.items v && not (rule_fits c.args.c v r)) item in
    record {
      targets = λ passes. targets_ruled c.args.spec.now c.args.c c.args.spec.now.rules c.loop-rule.rule-index c.rule-item.result low c.loop-rule.open.items c.in_ok-open.open.items rest
          c.loop-rule.ruled.items c.apply_rule.new.ruled.items passes _
          (subst (λ r. Rule c.args.spec.now c.args.c r c.loop-rule.open.items c.loop-rule.ruled.items c.apply_rule.new.ruled.items) item (λ p v scope. c.in_ok-open.ensures.ruled p v scope))
          (c.loop-rule.invariant.targets passes);
      rest = rest_ruled c.args.spec.now c.args.c c.args.spec.now.rules c.loop-rule.rule-index c.rule-item.result low c.loop-rule.open.items c.in_ok-open.open.items rest _ c.loop-rule.invariant.rest;
    }

pub returns : goal.returns
returns c =
    let same : c.items-rule-items.result.now ≡ c.args.spec.now.rules = c.items-rule-items.ensures ∙ ap (λ (s : Parts). s.rules) c.spec.view_is in
    let high : length c.args.spec.now.rules ≤ c.loop-rule.rule-index = subst (λ xs. length xs ≤ c.loop-rule.rule-index) same c.loop-rule-test.false in
    record {
      targets = λ passes. all_ruled c.args.spec.now c.args.c c.loop-rule.rule-index (is_in c.loop-rule.open.items) (is_marked c.loop-rule.ruled.items passes) _ passes high (c.loop-rule.invariant.targets passes);
      rest = all_rest c.args.spec.now c.args.c c.loop-rule.rule-index (is_in c.loop-rule.open.items) _ high c.loop-rule.invariant.rest;
    }
