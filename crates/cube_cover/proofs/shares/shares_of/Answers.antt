use Rattle.std.proofs.Common.{◌≡◌, ◌∙◌, ◌<◌, ◌≤◌, ◌&&◌, ap, arith, get_or, length, subst}
use Rattle.scram_types.specs.Specification.{IsSpec, Parts}
use Rattle.choice_table.specs.Choices.{rule_fits}
use Rattle.cube_cover.specs.Cubes.{is_in}
use Rattle.cube_cover.specs.Shares.{HoldsRest, IsShare, is_ruled_by}
use Rattle.cube_cover.proofs.Listed.{each_more, length_more}
use Rattle.cube_cover.proofs.RuleShares.{last_share, rule_rest, rule_share}
use Rattle.cube_cover.proofs.shares.shares_of.Goals as goal

pub take_rule-requires-clause-known : goal.take_rule-requires-clause-known
take_rule-requires-clause-known c = subst IsSpec c.spec.view_is c.spec.invariant

pub share_of-requires-clause-known : goal.share_of-requires-clause-known
share_of-requires-clause-known c = subst IsSpec c.spec.view_is c.spec.invariant

pub all_cubes-requires : goal.all_cubes-requires
all_cubes-requires c = subst IsSpec c.spec.view_is c.spec.invariant

pub loop-rule-preserved : goal.loop-rule-preserved
loop-rule-preserved c =
    let same : c.items-rules.result.now ≡ c.args.spec.now.rules = c.items-rules.ensures ∙ ap (λ (s : Parts). s.rules) c.spec.view_is in
    let made : IsSpec c.args.spec.now = subst IsSpec c.spec.view_is c.spec.invariant in
    let item : c.rule-item.result ≡ get_or c.args.spec.now.rules c.loop-rule.rule-index c.rule-item.result =
    c.rule-item.is ∙ ap (λ xs. get_or xs c.loop-rule.rule-index c.rule-item.result) same in
    let low : c.loop-rule.rule-index < length c.args.spec.now.rules = subst (λ xs. c.loop-rule.rule-index < length xs) same c.loop-rule-test.true in
    record {
      width = length_more c.loop-rule.shares.items c.push.new.self.items c.loop-rule.rule-index c.in_ok-taken.taken.share c.in_ok-push.ensures.items c.loop-rule.invariant.width;
      each = each_more (λ k share. IsShare c.args.spec.now (is_ruled_by c.args.spec.now c.args.c k) share) c.loop-rule.shares.items c.push.new.self.items c.loop-rule.rule-index c.in_ok-taken.taken.share c.in_ok-push.ensures.items c.loop-rule.invariant.width c.loop-rule.invariant.each
          (rule_share c.args.spec.now made c.args.c c.loop-rule.rule-index c.loop-rule.open.items c.loop-rule.invariant.rest c.rule-item.result low c.in_ok-taken.taken.share
          (subst (λ r. IsShare c.args.spec.now (λ v. is_in c.loop-rule.open.items v && rule_fits c.args.c v r) c.in_ok-taken.taken.share) item c.in_ok-taken.ensures.share));
      rest = rule_rest c.args.spec.now made c.args.c c.loop-rule.rule-index c.loop-rule.open.items c.loop-rule.invariant.rest c.rule-item.result low c.in_ok-taken.taken.share
          c.in_ok-taken.taken.rest.items
          (subst (λ r. HoldsRest c.args.spec.now c.args.c r c.loop-rule.open.items c.in_ok-taken.taken.rest.items) item (λ v scope. c.in_ok-taken.ensures.rest v scope));
    }

pub returns : goal.returns
returns c =
    let same : c.items-rules.result.now ≡ c.args.spec.now.rules = c.items-rules.ensures ∙ ap (λ (s : Parts). s.rules) c.spec.view_is in
    let made : IsSpec c.args.spec.now = subst IsSpec c.spec.view_is c.spec.invariant in
    let high : length c.args.spec.now.rules ≤ c.loop-rule.rule-index = subst (λ xs. length xs ≤ c.loop-rule.rule-index) same c.loop-rule-test.false in
    let low : c.loop-rule.rule-index ≤ length c.args.spec.now.rules = subst (λ xs. c.loop-rule.rule-index ≤ length xs) same c.loop-rule.auto.rule-index-end in
    let wide = length_more c.loop-rule.shares.items c.push-2.new.self.items c.loop-rule.rule-index c.share_of.result c.in_ok-push-2.ensures.items c.loop-rule.invariant.width in
    record {
      width = omega (arith, wide, high, low);
      each = each_more (λ k share. IsShare c.args.spec.now (is_ruled_by c.args.spec.now c.args.c k) share) c.loop-rule.shares.items c.push-2.new.self.items c.loop-rule.rule-index c.share_of.result c.in_ok-push-2.ensures.items c.loop-rule.invariant.width c.loop-rule.invariant.each
          (last_share c.args.spec.now made c.args.c c.loop-rule.rule-index c.loop-rule.open.items c.loop-rule.invariant.rest c.share_of.result high low
          (subst (λ xs. IsShare c.args.spec.now (is_in xs) c.share_of.result) c.deref.ensures.value c.share_of.ensures));
    }
