use Rattle.std.proofs.Common.{arith, refl}
use Rattle.scram_types.specs.Lookups.{conf_id}
use Rattle.coverage_check.specs.Form.{is_same}
use Rattle.coverage_check.proofs.Showing.{first_shown}
use Rattle.condition_breaks.proofs.form.first_twin.Goals as goal

pub returns-then-is_same : goal.returns-then-is_same
returns-then-is_same c =
    first_shown (λ d. is_same c.args.spec.now (conf_id c.args.c) (conf_id d)) conf_id
    c.args.c c.loop-d.d (conf_id c.loop-d.d) c.is_same.result c.loop-d.invariant c.is_same.ensures c.if-is_same.true refl (omega arith)
