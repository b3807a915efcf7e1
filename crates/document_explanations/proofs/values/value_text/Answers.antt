use Rattle.std.proofs.Common.{◌≡◌, false, ◌∙◌, ap}
use Rattle.serde_json.specs.View.{view}
use Rattle.serde_json.specs.Written.{compact_text, has_float}
use Rattle.document_explanations.specs.Values.{without_floats}
use Rattle.document_explanations.proofs.Floats.{has_no_float}
use Rattle.document_explanations.proofs.values.value_text.Goals as goal

pub returns : goal.returns
returns c =
    let shown : view c.in_ok-shown.shown ≡ without_floats (view c.args.value.now) = c.in_ok-shown.ensures in
    let none : has_float (view c.in_ok-shown.shown) ≡ false = ap has_float shown ∙ has_no_float (view c.args.value.now) in
    c.in_ok-to_string.ensures.text none ∙ ap compact_text shown
