use Rattle.std.proofs.Common.{◌≡◌, ◌∙◌, ◌+◌, ◌-◌, ap, arith, refl}
use Rattle.scram_types.specs.Specification.{Parts}
use Rattle.fault_script.proofs.Walking.{at_most_one, byte_is, changes_most, left_counted, stands_next, window_grows, window_moves}
use Rattle.fault_script.proofs.walks.next_window.Goals as goal

pub overflow_add-changes : goal.overflow_add-changes
overflow_add-changes c =
    let most = changes_most c.args.spec.now c.args.script.now c.args.frame c.args.window.now c.requires.window in
    let one = at_most_one c.differs-changed.result c.from.result (c.from.ensures ∙ byte_is c.differs-changed.result) in
    omega arith

pub returns-then-frame-spec : goal.returns-then-frame-spec
returns-then-frame-spec c =
    let wide : c.spec.inside.window ≡ c.args.spec.now.window = ap (λ (s : Parts). s.window) c.spec.view_is in
    window_grows c.args.spec.now c.args.script.now c.args.frame c.args.window.now _ (omega arith) c.requires.window
    (stands_next c.args.spec.now c.args.script.now c.args.frame c.args.window.now.lead c.next-lead.result c.requires.window.lead c.next-lead.ensures) refl c.differs-changed.ensures (ap (λ n. c.args.window.now.changes + n) (c.from.ensures ∙ byte_is c.differs-changed.result))

pub overflow_sub-result : goal.overflow_sub-result
overflow_sub-result c =
    let wide : c.spec.inside.window ≡ c.args.spec.now.window = ap (λ (s : Parts). s.window) c.spec.view_is in
    let counted = left_counted c.args.spec.now c.args.script.now c.args.frame c.args.window.now c.next-lead.result c.next-trail.result
    c.differs-changed.result c.differs.result (omega arith) c.requires.window (stands_next c.args.spec.now c.args.script.now c.args.frame c.args.window.now.lead c.next-lead.result c.requires.window.lead c.next-lead.ensures)
    (stands_next c.args.spec.now c.args.script.now (c.args.frame - c.args.spec.now.window) c.args.window.now.trail c.next-trail.result c.requires.window.trail c.next-trail.ensures) c.differs-changed.ensures c.differs.ensures in
    rw (c.from-left.ensures ∙ byte_is c.differs.result, c.from.ensures ∙ byte_is c.differs-changed.result) counted

pub returns : goal.returns
returns c =
    let wide : c.spec.inside.window ≡ c.args.spec.now.window = ap (λ (s : Parts). s.window) c.spec.view_is in
    window_moves c.args.spec.now c.args.script.now c.args.frame c.args.window.now _ c.differs.result (omega arith) c.requires.window
    (stands_next c.args.spec.now c.args.script.now c.args.frame c.args.window.now.lead c.next-lead.result c.requires.window.lead c.next-lead.ensures) (stands_next c.args.spec.now c.args.script.now (c.args.frame - c.args.spec.now.window) c.args.window.now.trail c.next-trail.result c.requires.window.trail c.next-trail.ensures) c.differs-changed.ensures c.differs.ensures
    (rw (c.from.ensures ∙ byte_is c.differs-changed.result, c.from-left.ensures ∙ byte_is c.differs.result) refl)
