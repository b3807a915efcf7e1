use Rattle.std.proofs.Common.{◌≡◌, ◌∙◌, ◌+◌, ap, arith, sym}
use Rattle.std.specs.Prelude.{Some}
use Rattle.scram_types.specs.Specification.{Parts}
use Rattle.fault_family.proofs.Numbered.{far_gap, near_gap}
use Rattle.fault_family.proofs.candidates.gap.Goals as goal

pub returns-then-i-greatest-clause-value : goal.returns-then-i-greatest-clause-value
returns-then-i-greatest-clause-value c = near_gap c.args.spec.now c.args.i (omega (arith, c.if-i-greatest.true, c.greatest.ensures.value))

pub returns-else-i-greatest-clause-value : goal.returns-else-i-greatest-clause-value
returns-else-i-greatest-clause-value c =
    let same : c.args.spec.now.window + 1 ≡ c.spec.inside.window + 1 = ap (λ (s : Parts). s.window + 1) (sym c.spec.view_is) in
    far_gap c.args.spec.now c.args.i (omega (arith, c.if-i-greatest.false, c.greatest.ensures.value, c.requires)) ∙ ap Some same
