use Rattle.std.proofs.Common.{◌∙◌, sym, ap, arith, length}
use Rattle.scram_types.specs.Specification.{Parts}
use Rattle.frame_model.proofs.Leads.{lead_here, lead_later}
use Rattle.frame_model.proofs.outcomes.lead_of.Goals as goal

pub returns-then-kind_of_app-kind : goal.returns-then-kind_of_app-kind
returns-then-kind_of_app-kind c =
    let count = ap length c.items.ensures in
    let whole = ap (λ (s : Parts). length s.apps) c.spec.view_is in
    let few = c.spec.invariant.apps_count.few in
    rw (c.from.ensures)
    (sym (lead_here c.args.spec.now.apps c.args.areas.now c.loop-a.a c.args.kind _ (omega arith) c.told-areas (omega arith) (sym c.kind_of_app.ensures.kind ∙ c.if-kind_of_app-kind.true)) ∙ c.loop-a.invariant)

pub loop-a-preserved : goal.loop-a-preserved
loop-a-preserved c =
    let count = ap length c.items.ensures in
    let whole = ap (λ (s : Parts). length s.apps) c.spec.view_is in
    let few = c.spec.invariant.apps_count.few in
    sym (lead_later c.args.spec.now.apps c.args.areas.now c.loop-a.a c.args.kind (omega arith) c.told-areas (omega arith) (λ same. c.if-kind_of_app-kind.false (c.kind_of_app.ensures.kind ∙ same)))
    ∙ c.loop-a.invariant
