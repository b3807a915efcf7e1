use Rattle.std.proofs.Common.{arith, ◌≡◌, [], ◌∷◌, ◌++◌, string_bytes, sym, ap, ◌∙◌, subst, append_assoc, map}
use Rattle.std.proofs.lemmas.List.{take_all}
use Rattle.std.specs.List.Sorted.{IsStrictlySortedBy}
use Rattle.std.specs.Map.{keys_of}
use Rattle.std.specs.String.{string_cmp}
use Rattle.serde_json.specs.View.{members_view, view}
use Rattle.serde_json.specs.declared.value.Value.{Value}
use Rattle.serde_json.proofs.Views.{Entry, members_view-insert_entry, put_last}
use Rattle.document_explanations.specs.Values.{members_without_floats, without_floats}
use Rattle.document_explanations.proofs.Shown.{items_shown, put_shown}
use Rattle.document_explanations.proofs.values.+without_floats.Goals as goal

pub items_without_floats-returns : goal.items_without_floats-returns
items_without_floats-returns t c =
    let l = c.loop-item in
    let whole = take_all l.item-index c.deref-item-items.result.now (omega (arith, l.auto.item-index-end, c.loop-item-test.false)) ∙ c.deref-item-items.ensures.value in
    items_shown l.copies.items c.args.items.now.items (l.invariant ∙ ap (map (λ (v : Value). without_floats (view v))) whole)

pub members_without_floats-loop-key-preserved : goal.members_without_floats-loop-key-preserved
members_without_floats-loop-key-preserved t c =
    let l = c.loop-key in
    let done = l.invariant.0 in
    let e : Entry = (c.in-Some.key.now, c.in-Some.member.now) in
    let left = c.next.new.self in
    let all : c.args.members.now.entries ≡ done ++ e ∷ left = l.invariant.1 ∙ ap (λ es. done ++ es) c.in-Some.ensures.steps in
    let last = put_last done e left (subst (λ es. IsStrictlySortedBy string_cmp (keys_of es)) all c.iter-key-items.ensures.ordered) in
    let named : string_bytes c.in_ok-name.name ≡ string_bytes e.0 = c.in_ok-name.ensures.cases in
    let shown = put_shown (string_bytes e.0) (view e.1) (members_view done) ∙ ap members_without_floats last in (
      done ++ e ∷ [],
      all ∙ sym (append_assoc done (e ∷ []) left),
      ap members_view c.in_ok-insert.ensures.entries ∙ members_view-insert_entry l.copies.entries c.in_ok-name.name c.in_ok-without_floats.field-0
          ∙ rw (named, c.in_ok-without_floats.ensures, l.invariant.2) shown,
    )
