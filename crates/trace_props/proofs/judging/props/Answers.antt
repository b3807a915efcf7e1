use Rattle.std.proofs.Common.{◌≡◌, ◌∙◌, refl, sym, true}
use Rattle.std.specs.Prelude.{Some}
use Rattle.scram_types.proofs.Booleans.{true_false}
use Rattle.trace_props.specs.Judging.{first_break}
use Rattle.trace_props.proofs.Judged.{first_broken, holds_if, unbroken_of}
use Rattle.trace_props.proofs.judging.props.Goals as goal

pub returns-in-Some-clause-holds : goal.returns-in-Some-clause-holds
returns-in-Some-clause-holds c =
    let first : first_break c.args.spec.now c.args.rows.now c.args.told.now ≡ Some c.in-Some.broken = sym c.first_break.ensures ∙ c.in-Some.is in
    let broken = (first_broken c.args.spec.now c.args.rows.now c.args.told.now c.in-Some.broken first).broken in (
      (λ ok. absurd (true_false true refl (sym ok))),
      (λ holds. absurd (unbroken_of c.args.spec.now c.args.rows.now c.args.told.now holds c.in-Some.broken.property c.in-Some.broken.frame broken)),
    )

pub returns-in-Some-clause-broken : goal.returns-in-Some-clause-broken
returns-in-Some-clause-broken c =
    first_broken c.args.spec.now c.args.rows.now c.args.told.now c.in-Some.broken (sym c.first_break.ensures ∙ c.in-Some.is)

pub returns-in-None-clause-holds : goal.returns-in-None-clause-holds
returns-in-None-clause-holds c = ((λ ok. holds_if c.args.spec.now c.args.rows.now c.args.told.now (sym c.first_break.ensures ∙ c.in-None.is)), (λ holds. refl))
