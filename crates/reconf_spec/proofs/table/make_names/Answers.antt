use Rattle.std.proofs.Common.{[], ◌∷◌, add-one, append_assoc, map, sym, ◌++◌, ◌∙◌}
use Rattle.std.proofs.lemmas.List.{append-nil, at_drop_all, at_drop_more, map-append}
use Rattle.serde_json.specs.View.{view}
use Rattle.reconf_spec.specs.Texts.{names_data}
use Rattle.reconf_spec.proofs.table.make_names.Goals as goal
use Rattle.reconf_spec.proofs.table.make_names.Goals.{then-is_in+in_ok-value+in_ok-push, else-is_in}

pub returns : goal.returns
returns g c =
    let values = map view c.loop-n.values.items in
    let none_left = at_drop_all (λ items. values ++ names_data g.N.Naming.spelling c.args.set c.loop-n.n items) c.args.items.now c.loop-n.n c.loop-n-test.false in
    sym (append-nil values) ∙ sym none_left ∙ c.loop-n.invariant

pub loop-n-preserved : goal.loop-n-preserved
loop-n-preserved g c =
    let n = c.loop-n.n in
    let values = c.loop-n.values.items in
    let left =
    at_drop_more (λ items. map view values ++ names_data g.N.Naming.spelling c.args.set n items)
    c.args.items.now n c.index-items-n.result c.loop-n-test.true in
    elim c.if-is_in.branch [
      | then-is_in+in_ok-value+in_ok-push w ↦
          let here = rw (← c.index-items-n.is, sym c.is_in.ensures ∙ w.if-is_in.true, add-one) at left in
          let appended = map-append view values (w.in_ok-value.value ∷ []) in
          rw (w.values-is, w.in_ok-push.ensures.ok, appended, w.in_ok-value.ensures, w.name.ensures, append_assoc, add-one) (sym here ∙ c.loop-n.invariant)
      | else-is_in w ↦
          let here = rw (← c.index-items-n.is, sym c.is_in.ensures ∙ w.if-is_in.false, add-one) at left in
          rw (w.values-is, add-one) (sym here ∙ c.loop-n.invariant)
    ]
