use Rattle.std.proofs.Common.{◌≡◌, ap, true, false, sym, refl, ◌∙◌}
use Rattle.scram_types.specs.Lookups.{conf_id, place_of}
use Rattle.coverage_check.specs.Holding.{holds_reaching}
use Rattle.coverage_check.specs.Timing.{is_target}
use Rattle.coverage_check.proofs.Reaching.{cover_targets}
use Rattle.coverage_check.proofs.holding.holds_on_way.Goals as goal

pub returns-then-not-is_in : goal.returns-then-not-is_in
returns-then-not-is_in c =
    let same = cover_targets c.args.spec.now c.requires.known (conf_id c.args.i) c.args.cover.now c.requires.cover c.args.j c.requires.inside in
    let target : is_target c.args.spec.now (conf_id c.args.i) c.args.j ≡ false = sym same ∙ sym c.is_in.ensures ∙ c.if-not-is_in.true in
    rw (target, c.if-not-is_in.true) refl

pub returns-else-not-is_in : goal.returns-else-not-is_in
returns-else-not-is_in c =
    let same = cover_targets c.args.spec.now c.requires.known (conf_id c.args.i) c.args.cover.now c.requires.cover c.args.j c.requires.inside in
    let target : is_target c.args.spec.now (conf_id c.args.i) c.args.j ≡ true = sym same ∙ sym c.is_in.ensures ∙ c.if-not-is_in.false in
    let there : c.place_of.result ≡ place_of c.args.spec.now (conf_id c.args.j) c.args.inv.now.app.0 = c.place_of.ensures.place in
    rw (target) (c.holds_reaching.ensures ∙ ap (holds_reaching c.args.spec.now c.args.inv.now) there)
