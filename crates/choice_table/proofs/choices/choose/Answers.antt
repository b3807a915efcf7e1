use Rattle.std.proofs.Common.{◌≡◌, ◌<◌, refl, subst, length}
use Rattle.std.specs.Prelude.{slice_get, Some}
use Rattle.std.proofs.lemmas.Option.{slice_get_read}
use Rattle.scram_types.specs.Specification.{Parts}
use Rattle.choice_table.proofs.choices.choose.Goals as goal

-- The target of each rule of a specification exists.
pub returns-then-fits-clause-inside : goal.returns-then-fits-clause-inside
returns-then-fits-clause-inside c = λ inside.
    let there : slice_get c.spec.inside.rules c.loop-rule.rule-index ≡ Some c.rule-item.result =
    rw (← c.items-rule-items.ensures) (slice_get_read _ _ _ _ refl c.loop-rule-test.true c.rule-item.is) in
    subst (λ (spec : Parts). c.rule-item.result.to.0 < length spec.confs) c.spec.view_is
    (c.spec.invariant.rules c.loop-rule.rule-index c.rule-item.result there).to
