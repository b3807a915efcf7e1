use Rattle.std.proofs.Common.{ap, sym, ◌∙◌}
use Rattle.scram_types.specs.declared.specification.Proc.{Proc}
use Rattle.scram_types.specs.Specification.{Parts}
use Rattle.coverage_check.proofs.Reading.{left_out, taken}
use Rattle.coverage_check.proofs.form.capacity_of.Goals as goal

pub returns-in-Some : goal.returns-in-Some
returns-in-Some c =
    let procs = c.items.ensures ∙ ap (λ (s : Parts). s.procs) c.spec.view_is in
    sym (taken (λ (processor : Proc). processor.capacity) 0 c.args.spec.now.procs c.items.result.now c.args.p c.from.result procs c.from.ensures
    c.in-Some.proc.now c.in-Some.ensures.lookup.0 c.in-Some.ensures.lookup.1)

pub returns-in-None : goal.returns-in-None
returns-in-None c =
    let procs = c.items.ensures ∙ ap (λ (s : Parts). s.procs) c.spec.view_is in
    sym (left_out (λ (processor : Proc). processor.capacity) 0 c.args.spec.now.procs c.items.result.now c.args.p c.from.result procs c.from.ensures
    c.in-None.ensures.lookup.0)
