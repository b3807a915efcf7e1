use Rattle.std.proofs.Common.{ap, false, sym, ◌∙◌}
use Rattle.scram_types.specs.Specification.{Parts}
use Rattle.coverage_check.specs.Form.{has_off}
use Rattle.coverage_check.proofs.Reading.{left_out, taken}
use Rattle.coverage_check.proofs.form.has_off_need.Goals as goal

pub returns-in-Some : goal.returns-in-Some
returns-in-Some c =
    let spec = c.args.spec.now in
    let apps = c.items.ensures ∙ ap (λ (s : Parts). s.apps) c.spec.view_is in
    c.has_off.ensures ∙ ap (has_off spec c.args.c) c.items-in-Some.ensures
    ∙ sym (taken (λ needing. has_off spec c.args.c needing.needs) false spec.apps c.items.result.now c.args.a c.from.result apps c.from.ensures
    c.in-Some.app.now c.in-Some.ensures.lookup.0 c.in-Some.ensures.lookup.1)

pub returns-in-None : goal.returns-in-None
returns-in-None c =
    let spec = c.args.spec.now in
    let apps = c.items.ensures ∙ ap (λ (s : Parts). s.apps) c.spec.view_is in
    sym (left_out (λ needing. has_off spec c.args.c needing.needs) false spec.apps c.items.result.now c.args.a c.from.result apps c.from.ensures
    c.in-None.ensures.lookup.0)
