use Rattle.std.proofs.Common.{◌≡◌, true, false, sym, ◌∙◌}
use Rattle.scram_types.specs.Lookups.{conf_id}
use Rattle.coverage_check.specs.Timing.{is_target}
use Rattle.coverage_check.proofs.Reaching.{cover_targets}
use Rattle.coverage_check.proofs.timing.is_bound_asked.Goals as goal

pub returns-then-is_in : goal.returns-then-is_in
returns-then-is_in c =
    let same = cover_targets c.args.spec.now c.requires.known (conf_id c.args.i) c.args.cover.now c.requires.cover c.args.j c.requires.inside in
    let target : is_target c.args.spec.now (conf_id c.args.i) c.args.j ≡ true = sym same ∙ sym c.is_in.ensures ∙ c.if-is_in.true in
    rw target c.may_end_in.ensures

pub returns-else-is_in : goal.returns-else-is_in
returns-else-is_in c =
    let same = cover_targets c.args.spec.now c.requires.known (conf_id c.args.i) c.args.cover.now c.requires.cover c.args.j c.requires.inside in
    let target : is_target c.args.spec.now (conf_id c.args.i) c.args.j ≡ false = sym same ∙ sym c.is_in.ensures ∙ c.if-is_in.false in
    rw target c.if-is_in.false
