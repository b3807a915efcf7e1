use Rattle.std.proofs.Common.{◌≡◌, List, ℕ, ap, codes, decimal, refl, w64, ◌++◌, ◌∙◌}
use Rattle.std.specs.Prelude.{if◌then◌else◌}
use Rattle.std.proofs.lemmas.Int.{to_z-of_z}
use mir.Val.{SFits}
use Rattle.scram_types.proofs.Placed.{read_within}
use Rattle.picture_form.proofs.curves.make_point.Goals as goal
use Rattle.picture_form.proofs.curves.make_point.Goals.{then-joined, else-joined}

four_pieces : (a b c d one two three four : List ℕ) → one ≡ a → two ≡ one ++ b → three ≡ two ++ c → four ≡ three ++ d → four ≡ a ++ b ++ c ++ d
four_pieces a b c d one two three four e f g h = rw (h, g, f, e) refl

pub returns-after-joined : goal.returns-after-joined
returns-after-joined c =
    let there = read_within c.args.rows.now c.args.k c.in-Some.row.now c.in-Some.ensures.lookup.0 c.in-Some.ensures.lookup.1 in
    let letter : c.if-joined.text.now ≡ (if c.is_joined-joined.result then codes "L" else codes "M")
    = elim c.if-joined.branch [ then-joined w ↦ rw (w.if-joined.true, w.text-is) refl | else-joined w ↦ rw (w.if-joined.false, w.text-is) refl ] in
    let fits : SFits w64 c.quantity_of-number.result = record { sfits = c.quantity_of-number.type_inv } in
    rw (there, ← c.quantity_of-number.ensures, ← to_z-of_z w64 c.quantity_of-number.result fits, ← c.drop_of.ensures, ← c.row_before.ensures, ← c.is_joined-joined.ensures, ← letter)
    (four_pieces c.if-joined.text.now (decimal c.args.k) (codes " ") (decimal c.drop_of.result) _ _ _ _ (c.text.ensures.text ∙ ap (λ (line : List ℕ). line ++ c.if-joined.text.now) c.new-line.ensures) c.add_number.ensures.text c.text-in-Some.ensures.text c.add_number-in-Some.ensures.text)
