use Rattle.std.proofs.Common.{None, ap, refl, sym, ◌∙◌}
use Rattle.scram_types.specs.Specification.{Parts}
use Rattle.coverage_check.specs.Holding.{invariant_refusal_of}
use Rattle.coverage_check.proofs.Reading.{left_out, taken}
use Rattle.coverage_check.proofs.holding.refuse_invariant_at.Goals as goal

pub returns-in-Some : goal.returns-in-Some
returns-in-Some c =
    let spec = c.args.spec.now in
    let items = c.items.ensures ∙ ap (λ (s : Parts). s.invariants) c.spec.view_is in
    c.refuse_invariant_of.ensures
    ∙ sym (taken (invariant_refusal_of spec c.args.k) None spec.invariants c.items.result.now c.args.k c.args.k items refl
    c.in-Some.inv.now c.in-Some.ensures.lookup.0 c.in-Some.ensures.lookup.1)

pub returns-in-None : goal.returns-in-None
returns-in-None c =
    let spec = c.args.spec.now in
    let items = c.items.ensures ∙ ap (λ (s : Parts). s.invariants) c.spec.view_is in
    sym (left_out (invariant_refusal_of spec c.args.k) None spec.invariants c.items.result.now c.args.k c.args.k items refl c.in-None.ensures.lookup.0)
