-- If two pictures have the same curves, their flights have the same extremes, and each row is drawn at the same
-- height.
use Rattle.std.proofs.Common.{◌≡◌, ℕ, ℤ, pos, negsuc, zero, suc, ◌+◌, ◌-◌, ◌*◌, ◌/◌, ◌<◌, ◌≤◌, ◌^◌, Bool, true, false, cond, List, [], ◌∷◌, ◌++◌, Option, Some, None, drop as past, length, decimal, refl, sym, ap, arith, append_assoc, ◌∙◌}
use mathlib.Core.Logic.{inl, inr}
use Rattle.std.specs.Prelude.{◌==◌, codes, int_lt, nat_lt, nat_le, slice_get, if◌then◌else◌}
use Rattle.std.specs.Char.{is_ascii_digit}
use Rattle.std.specs.Fmt.{signed_decimal}
use Rattle.std.specs.List.{list_all}
use Rattle.std.specs.Option.{option_map_or}
use Rattle.std.proofs.lemmas.Bool.{and_from, and_parts, leb-true, lt-ltb}
use Rattle.std.proofs.lemmas.Fmt.{decimal_injective, signed_decimal_injective}
use Rattle.std.proofs.lemmas.List.{append_cancel_left}
use lib.Signed.{mag}
use Rattle.scram_types.specs.Specification.{Each}
use Rattle.scram_types.specs.declared.rows.Row.{Row}
use Rattle.scram_types.proofs.Items.{some_item}
use Rattle.scram_types.proofs.Naturals.{below_or_at}
use Rattle.scram_types.proofs.Options.{same_some}
use Rattle.flight_facts.specs.Extremes.{extremes_of, quantity_of, widened}
use Rattle.flight_facts.specs.Spans.{row_before}
use Rattle.flight_facts.specs.declared.extremes.Extremes.{Extremes}
use Rattle.flight_facts.specs.declared.extremes.Quantity.{Quantity}
use Rattle.form_base.specs.Texts.{texts_below}
use Rattle.picture_form.specs.Boxes.{place_text, placed_text}
use Rattle.picture_form.specs.Curves.{curve_begin, curve_end, distance, drop_of, is_joined, line_between, point_text}
use Rattle.picture_form.specs.Laws.{DrawnAlike, drop_at}
use Rattle.picture_form.specs.Picture.{names_text, quantity_text}
use Rattle.picture_form.specs.Sheets.{x_of}
use Rattle.picture_form.specs.declared.curves.Curve.{Curve}
use Rattle.picture_form.specs.declared.sheets.Sheet.{Sheet}
use Rattle.picture_form.proofs.Cuts.{field, fields}
use Rattle.picture_form.proofs.RectsBack.{decimal_digits, placed_grouped}

-- Lemmas that the distance of a point from the top of its curve is at most 480 tenths of a pixel.

drop_by : (t : Bool) (n : ℕ) → cond t 240 (480 - n) ≤ 480
drop_by true n = omega arith
drop_by false n = omega arith

drop_small : (ends : Extremes) (number : ℤ) → drop_of ends number ≤ 480
drop_small ends number = drop_by (distance ends.least ends.greatest == 0) (distance ends.least number * 480 / distance ends.least ends.greatest)

-- The letter at the start of a point: `L` if the curve joins the point to the preceding point, or `M` otherwise.
abbrev mark : Bool → ℕ
mark joined = if joined then 76 else 77

mark_free : (joined : Bool) → is_ascii_digit (mark joined) ≡ false
mark_free true = refl
mark_free false = refl

-- The text of a point after its letter, followed by `rest`.
abbrev after_mark : ℕ → ℕ → List ℕ → List ℕ
after_mark k drop rest = decimal k ++ 32 ∷ (decimal drop ++ rest)

marked : (joined : Bool) (k drop : ℕ) (rest : List ℕ) → ((if joined then codes "L" else codes "M") ++ decimal k ++ codes " " ++ decimal drop) ++ rest ≡ mark joined ∷ after_mark k drop rest
marked true k drop rest =
    ap (λ (text : List ℕ). 76 ∷ text) (ap (λ (text : List ℕ). text ++ rest) (append_assoc (decimal k) (codes " ") (decimal drop)) ∙ append_assoc (decimal k) (32 ∷ decimal drop) rest)
marked false k drop rest =
    ap (λ (text : List ℕ). 77 ∷ text) (ap (λ (text : List ℕ). text ++ rest) (append_assoc (decimal k) (codes " ") (decimal drop)) ∙ append_assoc (decimal k) (32 ∷ decimal drop) rest)

point_here : (rows : List Row) (curve : Curve) (k : ℕ) (o : Option Row) (row : Row) (rest : List ℕ) → o ≡ Some row
    → option_map_or (λ (r : Row). (if is_joined curve.quantity (row_before rows k) r then codes "L" else codes "M") ++ decimal k ++ codes " "
    ++ decimal (drop_of curve.extremes (quantity_of curve.quantity r.world))) o [] ++ rest
    ≡ mark (is_joined curve.quantity (row_before rows k) row) ∷ after_mark k (drop_of curve.extremes (quantity_of curve.quantity row.world)) rest
point_here rows curve k o row rest e =
    rw e (marked (is_joined curve.quantity (row_before rows k) row) k (drop_of curve.extremes (quantity_of curve.quantity row.world)) rest)

height_is : (quantity : Quantity) (ends : Extremes) (rows : List Row) (k n : ℕ) (row : Row) → k ≡ n → slice_get rows n ≡ Some row
    → drop_at quantity ends rows k ≡ Some (drop_of ends (quantity_of quantity row.world))
height_is quantity ends rows k n row e f = rw (e, f) refl

points_same : (rows others : List Row) (curve other_curve : Curve) (n d f : ℕ) (r s : List ℕ) → n < 2 ^ 32 → n ≤ length rows → n ≤ length others → is_ascii_digit d ≡ false → is_ascii_digit f ≡ false
    → texts_below (point_text rows curve) n ++ d ∷ r ≡ texts_below (point_text others other_curve) n ++ f ∷ s
    → ((k : ℕ) → k < n → drop_at curve.quantity curve.extremes rows k ≡ drop_at other_curve.quantity other_curve.extremes others k) × (d ∷ r ≡ f ∷ s)
points_same rows others curve other_curve zero d f r s small few fits free other h = (λ k less. absurd (omega (arith, less)), h)
points_same rows others curve other_curve (suc n) d f r s small few fits free other h =
    some_item rows n (omega (arith, few)) (λ row here. some_item others n (omega (arith, fits)) (λ next there.
    let drop = drop_of curve.extremes (quantity_of curve.quantity row.world) in
    let other_drop = drop_of other_curve.extremes (quantity_of other_curve.quantity next.world) in
    let joined = is_joined curve.quantity (row_before rows n) row in
    let other_joined = is_joined other_curve.quantity (row_before others n) next in
    let mine = texts_below (point_text rows curve) n in
    let theirs = texts_below (point_text others other_curve) n in
    let apart : mine ++ mark joined ∷ after_mark n drop (d ∷ r) ≡ theirs ++ mark other_joined ∷ after_mark n other_drop (f ∷ s)
    = ap (λ (text : List ℕ). mine ++ text) (sym (point_here rows curve n (slice_get rows n) row (d ∷ r) here)) ∙ sym (append_assoc mine (point_text rows curve n) (d ∷ r)) ∙ h
    ∙ append_assoc theirs (point_text others other_curve n) (f ∷ s) ∙ ap (λ (text : List ℕ). theirs ++ text) (point_here others other_curve n (slice_get others n) next (f ∷ s) there) in
    let before = points_same rows others curve other_curve n (mark joined) (mark other_joined) (after_mark n drop (d ∷ r)) (after_mark n other_drop (f ∷ s)) (omega (arith, small))
    (omega (arith, few)) (omega (arith, fits)) (mark_free joined) (mark_free other_joined) apart in
    let marks = before.1 in
    let tails : after_mark n drop (d ∷ r) ≡ after_mark n other_drop (f ∷ s) = cc in
    let low = drop_small curve.extremes (quantity_of curve.quantity row.world) in
    let other_low = drop_small other_curve.extremes (quantity_of other_curve.quantity next.world) in
    let last = fields is_ascii_digit d f (decimal drop) (decimal other_drop) r s free other (decimal_digits drop (omega (arith, low))) (decimal_digits other_drop (omega (arith, other_low)))
    (append_cancel_left (32 ∷ []) _ _ (append_cancel_left (decimal n) _ _ tails)) in
    let same : drop ≡ other_drop = decimal_injective drop other_drop (omega (arith, low)) (omega (arith, other_low)) last.0 in (
      λ k less. elim (below_or_at k n less) [
        | inl lower ↦ before.0 k lower
        | inr at ↦ height_is curve.quantity curve.extremes rows k n row at here ∙ ap (λ (x : ℕ). Some x) same ∙ sym (height_is other_curve.quantity other_curve.extremes others k n next at there)
      ],
      last.1,
    )))

-- Lemmas that the extremes of a quantity in rows that can be drawn are signed 64-bit numbers.

small_by : (t : Bool) (y z : ℤ) → mag y < 2 ^ 63 → mag z < 2 ^ 63 → mag (cond t y z) < 2 ^ 63
small_by true y z e f = e
small_by false y z e f = f

-- Both extremes are signed 64-bit numbers.
record AreSmall (ends : Extremes) : Type 0 where
  pub least : mag ends.least < 2 ^ 63
  pub greatest : mag ends.greatest < 2 ^ 63

widened_small : (number : ℤ) (so_far : Option Extremes) → mag number < 2 ^ 63 → ((ends : Extremes) → so_far ≡ Some ends → AreSmall ends) → AreSmall (widened number so_far)
widened_small number None small known = record { least = small; greatest = small }
widened_small number (Some ends) small known = record {
  least = small_by (int_lt ends.least number) ends.least number (known ends refl).least small;
  greatest = small_by (int_lt ends.greatest number) number ends.greatest small (known ends refl).greatest;
}

extremes_small : (quantity : Quantity) (rows : List Row) → Each (λ (row : Row). mag (quantity_of quantity row.world) < 2 ^ 63) rows → (ends : Extremes) → extremes_of quantity rows ≡ Some ends → AreSmall ends
extremes_small quantity [] known ends e = absurd (let x = e in cc)
extremes_small quantity (row ∷ rows) known ends e =
    let same : widened (quantity_of quantity row.world) (extremes_of quantity rows) ≡ ends = same_some _ ends e in
    rw same at (widened_small (quantity_of quantity row.world) (extremes_of quantity rows) (known 0 row refl) (extremes_small quantity rows (λ i x there. known (suc i) x there)))

-- Whether a byte is less than the byte of `<`.
abbrev is_low : ℕ → Bool
is_low b = nat_lt b 60

digits_low : (ds : List ℕ) → list_all is_ascii_digit ds ≡ true → list_all is_low ds ≡ true
digits_low [] e = refl
digits_low (b ∷ ds) e =
    let p = and_parts (is_ascii_digit b) (list_all is_ascii_digit ds) e in
    let k = leb-true b 57 (and_parts (nat_le 48 b) (nat_le b 57) p.0).1 in
    and_from _ _ (lt-ltb b 60 (omega (arith, k))) (digits_low ds p.1)

signed_low : (z : ℤ) → mag z < 2 ^ 63 → list_all is_low (signed_decimal z) ≡ true
signed_low (pos n) small = digits_low (decimal n) (decimal_digits n (omega arith))
signed_low (negsuc n) small = digits_low (decimal (suc n)) (decimal_digits (suc n) (omega arith))

six_grouped : (a b c d e f g h : List ℕ) → (a ++ (b ++ (c ++ (d ++ (e ++ (f ++ g)))))) ++ h ≡ a ++ (b ++ (c ++ (d ++ (e ++ (f ++ (g ++ h))))))
six_grouped a b c d e f g h = simp append_assoc

note_before : (x y : ℕ) (text rest : List ℕ) → placed_text (codes "note") x y text ++ rest
    ≡ codes "<text class=\"" ++ (codes "note" ++ (codes "\"" ++ (place_text x y ++ (codes ">" ++ (text ++ (codes "</text>" ++ rest))))))
note_before x y text rest =
    ap (λ (front : List ℕ). front ++ rest) (placed_grouped (codes "note") text x y) ∙ six_grouped (codes "<text class=\"") (codes "note") (codes "\"") (place_text x y) (codes ">") text (codes "</text>") rest

note_same : (x y : ℕ) (number other : ℤ) (r s : List ℕ) → mag number < 2 ^ 63 → mag other < 2 ^ 63
    → placed_text (codes "note") x y (signed_decimal number) ++ r ≡ placed_text (codes "note") x y (signed_decimal other) ++ s → (number ≡ other) × (r ≡ s)
note_same x y number other r s small fits h =
    let whole = sym (note_before x y (signed_decimal number) r) ∙ h ∙ note_before x y (signed_decimal other) s in
    let inner = append_cancel_left (codes ">") _ _ (append_cancel_left (place_text x y) _ _ (append_cancel_left (codes "\"") _ _ (append_cancel_left (codes "note") _ _ (append_cancel_left (codes "<text class=\"") _ _ whole)))) in
    let parts = field is_low 60 (signed_decimal number) (signed_decimal other) (codes "/text>" ++ r) (codes "/text>" ++ s) refl (signed_low number small) (signed_low other fits) inner in
    (signed_decimal_injective number other small fits parts.0, append_cancel_left (codes "/text>") _ _ parts.1)

five_grouped : (a b c d e : List ℕ) → (a ++ b ++ c ++ d) ++ e ≡ a ++ (b ++ (c ++ (d ++ e)))
five_grouped a b c d e = simp append_assoc

same_ends : (ends others : Extremes) → ends.least ≡ others.least → ends.greatest ≡ others.greatest → ends ≡ others
same_ends ends others e f = ap (λ (z : ℤ). record { least = z; greatest = ends.greatest }) e ∙ ap (λ (z : ℤ). record { least = others.least; greatest = z }) f

end_same : (sheet : Sheet) (y : ℕ) (ends others : Extremes) (r s : List ℕ) → AreSmall ends → AreSmall others → curve_end sheet y ends ++ r ≡ curve_end sheet y others ++ s → (ends ≡ others) × (r ≡ s)
end_same sheet y ends others r s small fits h =
    let x = x_of sheet sheet.rows + 8 in
    let mine = placed_text (codes "note") x (y + 8) (signed_decimal ends.greatest) in
    let mine_below = placed_text (codes "note") x (y + 48) (signed_decimal ends.least) in
    let theirs = placed_text (codes "note") x (y + 8) (signed_decimal others.greatest) in
    let theirs_below = placed_text (codes "note") x (y + 48) (signed_decimal others.least) in
    let whole = sym (five_grouped (codes "\"/>\n") mine mine_below (codes "\n") r) ∙ h ∙ five_grouped (codes "\"/>\n") theirs theirs_below (codes "\n") s in
    let first = note_same x (y + 8) ends.greatest others.greatest (mine_below ++ (codes "\n" ++ r)) (theirs_below ++ (codes "\n" ++ s)) small.greatest fits.greatest (append_cancel_left (codes "\"/>\n") _ _ whole) in
    let second = note_same x (y + 48) ends.least others.least (codes "\n" ++ r) (codes "\n" ++ s) small.least fits.least first.1 in
    (same_ends ends others second.0 first.0, append_cancel_left (codes "\n") r s second.1)

-- Two flights have the same curve of a quantity, and the texts after the curves are the same.

pub record SameCurves (quantity : Quantity) (rows others : List Row) (rest other_rest : List ℕ) : Type 0 where
  pub alike : DrawnAlike quantity rows others
  pub behind : rest ≡ other_rest

four_grouped : (a b c d e : List ℕ) → (a ++ (b ++ (c ++ d))) ++ e ≡ a ++ (b ++ (c ++ (d ++ e)))
four_grouped a b c d e = simp append_assoc

line_same : (sheet : Sheet) (quantity : Quantity) (y : ℕ) (rows others : List Row) (ends other_ends : Extremes) (r s : List ℕ) → extremes_of quantity rows ≡ Some ends → extremes_of quantity others ≡ Some other_ends
    → length rows < 2 ^ 32 → length rows ≡ length others → AreSmall ends → AreSmall other_ends
    → (names_text quantity y ++ line_between sheet rows quantity y (Some ends)) ++ r ≡ (names_text quantity y ++ line_between sheet others quantity y (Some other_ends)) ++ s
    → SameCurves quantity rows others r s
line_same sheet quantity y rows others ends other_ends r s is other_is few same small fits h =
    let curve : Curve = record { quantity = quantity; y = y; extremes = ends } in
    let other_curve : Curve = record { quantity = quantity; y = y; extremes = other_ends } in
    let mine = texts_below (point_text rows curve) (length rows) in
    let theirs = texts_below (point_text others other_curve) (length others) in
    let whole = sym (four_grouped (names_text quantity y) (curve_begin sheet y) mine (curve_end sheet y ends) r) ∙ h
    ∙ four_grouped (names_text quantity y) (curve_begin sheet y) theirs (curve_end sheet y other_ends) s in
    let inner = append_cancel_left (curve_begin sheet y) _ _ (append_cancel_left (names_text quantity y) _ _ whole) in
    let shifted : texts_below (point_text rows curve) (length rows) ++ (curve_end sheet y ends ++ r) ≡ texts_below (point_text others other_curve) (length rows) ++ (curve_end sheet y other_ends ++ s)
    = inner ∙ ap (λ (n : ℕ). texts_below (point_text others other_curve) n ++ (curve_end sheet y other_ends ++ s)) (sym same) in
    let points = points_same rows others curve other_curve (length rows) 34 34 (past 1 (curve_end sheet y ends ++ r)) (past 1 (curve_end sheet y other_ends ++ s))
    few (omega arith) (omega (arith, same)) refl refl shifted in
    let last = end_same sheet y ends other_ends r s small fits points.1 in
    let all : extremes_of quantity rows ≡ extremes_of quantity others = is ∙ ap (λ (e : Extremes). Some e) last.0 ∙ sym other_is in
    record {
      alike = record {
        extremes = all;
        drops = λ given k there less.
            let first : given ≡ ends = same_some given ends (sym there ∙ is) in
            ap (λ (e : Extremes). drop_at quantity e rows k) first ∙ points.0 k less ∙ ap (λ (e : Extremes). drop_at quantity e others k) (sym last.0 ∙ sym first);
      };
      behind = last.1;
    }

pub quantity_same : (sheet : Sheet) (quantity : Quantity) (y : ℕ) (rows others : List Row) (r s : List ℕ) → length rows < 2 ^ 32 → length rows ≡ length others
    → Each (λ (row : Row). mag (quantity_of quantity row.world) < 2 ^ 63) rows → Each (λ (row : Row). mag (quantity_of quantity row.world) < 2 ^ 63) others
    → quantity_text sheet rows quantity y ++ r ≡ quantity_text sheet others quantity y ++ s → SameCurves quantity rows others r s
quantity_same sheet quantity y [] [] r s few same known drawn h = record {
  alike = record { extremes = refl; drops = λ given k there less. absurd (omega (arith, less)) };
  behind = append_cancel_left (names_text quantity y ++ []) r s h;
}
quantity_same sheet quantity y [] (other ∷ others) r s few same known drawn h = absurd (omega (arith, same))
quantity_same sheet quantity y (row ∷ rows) [] r s few same known drawn h = absurd (omega (arith, same))
quantity_same sheet quantity y (row ∷ rows) (other ∷ others) r s few same known drawn h =
    let ends = widened (quantity_of quantity row.world) (extremes_of quantity rows) in
    let other_ends = widened (quantity_of quantity other.world) (extremes_of quantity others) in
    line_same sheet quantity y (row ∷ rows) (other ∷ others) ends other_ends r s refl refl few same (extremes_small quantity (row ∷ rows) known ends refl)
    (extremes_small quantity (other ∷ others) drawn other_ends refl) h
