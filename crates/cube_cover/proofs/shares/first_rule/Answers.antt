use Rattle.std.proofs.Common.{◌≡◌, ◌∙◌, ◌<◌, ◌≤◌, ap, arith, get_or, length, subst, sym}
use Rattle.scram_types.specs.Specification.{IsSpec, Parts}
use Rattle.choice_table.specs.Choices.{rule_fits}
use Rattle.cube_cover.specs.Shares.{first_rule}
use Rattle.cube_cover.proofs.RuleShares.{first_fit, ruled_below}
use Rattle.cube_cover.proofs.Scopes.{has_digits}
use Rattle.cube_cover.proofs.shares.first_rule.Goals as goal

pub holds-requires : goal.holds-requires
holds-requires c = has_digits c.args.spec.now (subst IsSpec c.spec.view_is c.spec.invariant) c.args.env.now c.requires

pub returns-then-holds : goal.returns-then-holds
returns-then-holds c =
    let same : c.items-rule-items.result.now ≡ c.args.spec.now.rules = c.items-rule-items.ensures ∙ ap (λ (s : Parts). s.rules) c.spec.view_is in
    let digits = has_digits c.args.spec.now (subst IsSpec c.spec.view_is c.spec.invariant) c.args.env.now c.requires in
    let item : c.rule-item.result ≡ get_or c.args.spec.now.rules c.loop-rule.rule-index c.rule-item.result =
    c.rule-item.is ∙ ap (λ xs. get_or xs c.loop-rule.rule-index c.rule-item.result) same in
    let low : c.loop-rule.rule-index < length c.args.spec.now.rules = subst (λ xs. c.loop-rule.rule-index < length xs) same c.loop-rule-test.true in
    let before : c.loop-rule.rule-index ≤ first_rule c.args.spec.now.rules c.args.c c.args.env.now = subst (λ n. n ≤ first_rule c.args.spec.now.rules c.args.c c.args.env.now) c.loop-rule.invariant.count c.loop-rule.invariant.before in
    let fits = sym (ap (rule_fits c.args.c c.args.env.now) item) ∙ sym (c.fitting_cube.ensures c.args.env.now digits) ∙ sym c.holds.ensures ∙ c.if-holds.true in
    c.loop-rule.invariant.count ∙ sym ((first_fit c.args.spec.now.rules c.args.c c.args.env.now c.loop-rule.rule-index c.rule-item.result low before).0 fits)

pub loop-rule-preserved : goal.loop-rule-preserved
loop-rule-preserved c =
    let same : c.items-rule-items.result.now ≡ c.args.spec.now.rules = c.items-rule-items.ensures ∙ ap (λ (s : Parts). s.rules) c.spec.view_is in
    let digits = has_digits c.args.spec.now (subst IsSpec c.spec.view_is c.spec.invariant) c.args.env.now c.requires in
    let item : c.rule-item.result ≡ get_or c.args.spec.now.rules c.loop-rule.rule-index c.rule-item.result =
    c.rule-item.is ∙ ap (λ xs. get_or xs c.loop-rule.rule-index c.rule-item.result) same in
    let low : c.loop-rule.rule-index < length c.args.spec.now.rules = subst (λ xs. c.loop-rule.rule-index < length xs) same c.loop-rule-test.true in
    let count = c.loop-rule.invariant.count in
    let before : c.loop-rule.rule-index ≤ first_rule c.args.spec.now.rules c.args.c c.args.env.now = subst (λ n. n ≤ first_rule c.args.spec.now.rules c.args.c c.args.env.now) count c.loop-rule.invariant.before in
    let fails = sym (ap (rule_fits c.args.c c.args.env.now) item) ∙ sym (c.fitting_cube.ensures c.args.env.now digits) ∙ sym c.holds.ensures ∙ c.if-holds.false in
    let more = (first_fit c.args.spec.now.rules c.args.c c.args.env.now c.loop-rule.rule-index c.rule-item.result low before).1 fails in
    record { count = omega (arith, count); before = omega (arith, count, more) }

pub returns : goal.returns
returns c =
    let same : c.items-rule-items.result.now ≡ c.args.spec.now.rules = c.items-rule-items.ensures ∙ ap (λ (s : Parts). s.rules) c.spec.view_is in
    let high : length c.args.spec.now.rules ≤ c.loop-rule.rule-index = subst (λ xs. length xs ≤ c.loop-rule.rule-index) same c.loop-rule-test.false in
    let most = ruled_below c.args.spec.now.rules c.args.c c.args.env.now in
    let count = c.loop-rule.invariant.count in
    let before = c.loop-rule.invariant.before in
    omega (arith, high, most, count, before)
