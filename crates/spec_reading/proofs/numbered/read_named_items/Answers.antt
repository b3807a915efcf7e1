use Rattle.std.proofs.Common.{◌+◌, [], ◌∷◌, ap, refl, sym, ◌∙◌}
use Rattle.std.proofs.lemmas.List.{at_drop_all, length-append}
use Rattle.serde_json.specs.View.{items_view}
use Rattle.scram_doc.specs.Lists.{elements_from}
use Rattle.scram_doc.proofs.Growing.{after_push, element_read, element_refused}
use Rattle.spec_reading.proofs.numbered.read_named_items.Goals as goal

pub with-requires : goal.with-requires
with-requires g c = g.met.E.NamedElements.is_new c.args.elements.now c.loop-i.done c.in_ok-element.element c.in_ok-element.ensures.fits

pub loop-i-preserved : goal.loop-i-preserved
loop-i-preserved g c =
    let readings = g.E.NamedElements.reading c.args.elements.now in
    let facts = g.E.NamedElements.Fits c.args.elements.now in
    let at = c.args.at.now in
    let items = c.args.items.now in
    let done = c.loop-i.done in
    let element = c.in_ok-element.element in
    let value = rw (c.item.ensures.path) at c.in_ok-element.ensures.value in
    rw (c.in_ok-done.ensures) (
      length-append done (element ∷ []) ∙ ap (λ n. n + 1) c.loop-i.invariant.0,
      element_read readings at c.loop-i.i done items c.index-items-i.result element (elements_from readings at 0 [] (items_view items)) c.loop-i-test.true c.index-items-i.is value c.loop-i.invariant.1,
      after_push facts done element c.loop-i.invariant.2 c.in_ok-element.ensures.fits,
    )

pub returns-in_err-element-clause-value : goal.returns-in_err-element-clause-value
returns-in_err-element-clause-value g c =
    let readings = g.E.NamedElements.reading c.args.elements.now in
    let at = c.args.at.now in
    let items = c.args.items.now in
    element_refused readings at c.loop-i.i c.loop-i.done items c.index-items-i.result (λ l. l) c.item.result c.loop-i.done c.in_err-element.field-0.0 c.from_residual.result
    (elements_from readings at 0 [] (items_view items)) c.loop-i-test.true c.index-items-i.is c.item.ensures.path refl c.in_err-element.ensures.value
    c.from_residual.ensures.1 c.loop-i.invariant.1

pub returns-clause-value : goal.returns-clause-value
returns-clause-value g c =
    let readings = g.E.NamedElements.reading c.args.elements.now in
    sym c.loop-i.invariant.1 ∙ at_drop_all (λ left. elements_from readings c.args.at.now c.loop-i.i c.loop-i.done (items_view left)) c.args.items.now c.loop-i.i c.loop-i-test.false
