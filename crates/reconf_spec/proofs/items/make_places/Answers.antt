use Rattle.std.proofs.Common.{◌≡◌, ◌<◌, ◌+◌, suc, List, [], ◌∷◌, Option, None, ap, append_assoc, arith, drop, length, map, sym, ◌++◌, ◌∙◌}
use Rattle.std.proofs.Math.Seq.{drop-cons}
use Rattle.std.proofs.lemmas.List.{append-nil, at_drop_all, map-append}
use Rattle.scram_types.specs.declared.specification.Place.{Place}
use Rattle.serde_json.specs.Data.{Data}
use Rattle.serde_json.specs.View.{view}
use Rattle.reconf_spec.specs.Texts.{place_data, places_data}
use Rattle.reconf_spec.proofs.items.make_places.Goals as goal
use Rattle.reconf_spec.proofs.items.make_places.Goals.{in-Some+in_ok-value+in_ok-push, in_default}

pub returns : goal.returns
returns c =
    let values = map view c.loop-app.values.items in
    let none_left = at_drop_all (λ (places : List (Option Place)). values ++ places_data c.args.spec.now c.loop-app.app places) c.args.places.now c.loop-app.app (omega arith) in
    sym (append-nil values) ∙ sym none_left ∙ c.loop-app.invariant

pub loop-app-preserved : goal.loop-app-preserved
loop-app-preserved c =
    let spec = c.args.spec.now in
    let places = c.args.places.now in
    let i = c.loop-app.app in
    let values = c.loop-app.values.items in
    let low : i < length places = let inside = c.loop-app-test.true in omega arith in
    let next : i + 1 ≡ suc i = omega arith in
    let rest = places_data spec (suc i) (drop (suc i) places) in
    let left = ap (places_data spec i) (drop-cons places i None low) in
    rw next (elim c.match-place.branch [
      | in-Some+in_ok-value+in_ok-push w ↦
          let here = left ∙ ap (λ (place : Option Place). places_data spec i (place ∷ drop (suc i) places)) w.in-Some.is in
          let written = w.in_ok-value.ensures in
          rw (w.values-is, w.in_ok-push.ensures.ok, map-append view values (w.in_ok-value.value ∷ []), written) (
          append_assoc (map view values) (place_data spec i w.in-Some.place ∷ []) rest ∙ ap (λ (further : List Data). map view values ++ further) (sym here) ∙ c.loop-app.invariant)
      | in_default w ↦
          let here = left ∙ ap (λ (place : Option Place). places_data spec i (place ∷ drop (suc i) places)) w.in_default.is in
          rw (w.values-is) (ap (λ (further : List Data). map view values ++ further) (sym here) ∙ c.loop-app.invariant)
    ])
