-- The curves of the aircraft's quantities over the rows of a flight.
use Rattle.std.specs.Prelude.{ℕ, ℤ, ◌+◌, ◌-◌, ◌*◌, ◌/◌, ◌==◌, Bool, true, false, List, [], ◌++◌, length, slice_get, nat_lt, Option, Some, None, codes, decimal, if◌then◌else◌}
use Rattle.std.specs.Fmt.{signed_decimal}
use Rattle.std.specs.Int.{int_gap}
use Rattle.std.specs.Option.{option_map_or}
use Rattle.scram_types.specs.declared.rows.Row.{Row}
use Rattle.flight_facts.specs.Extremes.{extremes_of, quantity_of}
use Rattle.flight_facts.specs.Spans.{row_before}
use Rattle.flight_facts.specs.declared.extremes.Extremes.{Extremes}
use Rattle.flight_facts.specs.declared.extremes.Quantity.{Quantity}
use Rattle.flight_facts.specs.declared.extremes.Quantity.TheVariants.{Altitude, Climb, Heading, Bank}
use Rattle.form_base.specs.Texts.{texts_below}
use Rattle.picture_form.specs.Boxes.{name_text, placed_text}
use Rattle.picture_form.specs.Sheets.{scale_of, x_of}
use Rattle.picture_form.specs.declared.curves.Curve.{Curve}
use Rattle.picture_form.specs.declared.sheets.Sheet.{Sheet}

-- The distance between two numbers.
abbrev pub distance : ℤ → ℤ → ℕ
distance a b = int_gap a b + int_gap b a

-- The distance of a value of a quantity from the top of the quantity's curve, in tenths of a pixel. The distance is
-- 480 for the minimum, 0 for the maximum, and 240 if the extremes are equal.
abbrev pub drop_of : Extremes → ℤ → ℕ
drop_of extremes number =
    if distance extremes.least extremes.greatest == 0 then 240
    else 480 - distance extremes.least number * 480 / distance extremes.least extremes.greatest

-- Whether a quantity crosses north between two consecutive rows, given its values in these rows. Only the heading can
-- cross north. It does so if its values are more than 180 degrees apart. Crossing north interrupts the curve.
abbrev pub crosses_north : Quantity → ℤ → ℤ → Bool
crosses_north Altitude before number = false
crosses_north Climb before number = false
crosses_north Heading before number = nat_lt 1800 (distance before number)
crosses_north Bank before number = false

-- Whether the curve of a quantity joins `row` to the preceding row. It does not if there is no preceding row, or if
-- the heading crosses north between the two rows.
abbrev pub is_joined : Quantity → Option Row → Row → Bool
is_joined quantity None row = false
is_joined quantity (Some before) row =
    if crosses_north quantity (quantity_of quantity before.world) (quantity_of quantity row.world) then false else true

-- The path command for the point of row `k` on a curve, or the empty text if there is no such row. The command is `L`
-- if the curve joins the row to the preceding row, and `M` otherwise.
abbrev pub point_text : List Row → Curve → ℕ → List ℕ
point_text rows curve k =
    option_map_or (λ (row : Row). (if is_joined curve.quantity (row_before rows k) row then codes "L" else codes "M") ++ decimal k ++ codes " "
    ++ decimal (drop_of curve.extremes (quantity_of curve.quantity row.world))) (slice_get rows k) []

-- The text elements for the name of a quantity and, below it, for its unit. They are to the left of the curve whose
-- top is at `y`.
abbrev pub curve_names : ℕ → List ℕ → List ℕ → List ℕ
curve_names y name unit = name_text (y + 20) name ++ placed_text (codes "name note") 128 (y + 34) unit ++ codes "\n"

-- The start of the path element of a curve whose top is at `y`. Each point of the path is at the middle of a row.
abbrev pub curve_begin : Sheet → ℕ → List ℕ
curve_begin sheet y =
    codes "<path class=\"line\" transform=\"translate(" ++ decimal (x_of sheet 0 + scale_of sheet.rows / 2) ++ codes " " ++ decimal y
    ++ codes ") scale(" ++ decimal (scale_of sheet.rows) ++ codes " .1)\" d=\""

-- The end of the path element of a curve whose top is at `y`, followed by text elements for the quantity's maximum
-- and minimum. These elements are to the right of the curve.
abbrev pub curve_end : Sheet → ℕ → Extremes → List ℕ
curve_end sheet y extremes =
    codes "\"/>\n" ++ placed_text (codes "note") (x_of sheet sheet.rows + 8) (y + 8) (signed_decimal extremes.greatest)
    ++ placed_text (codes "note") (x_of sheet sheet.rows + 8) (y + 48) (signed_decimal extremes.least) ++ codes "\n"

-- The points of a curve, followed by the end of its path.
abbrev pub points_text : Sheet → List Row → Curve → List ℕ
points_text sheet rows curve = texts_below (point_text rows curve) (length rows) ++ curve_end sheet curve.y curve.extremes

-- The path of a curve, with a point for each row.
abbrev pub curve_line_text : Sheet → List Row → Curve → List ℕ
curve_line_text sheet rows curve = curve_begin sheet curve.y ++ points_text sheet rows curve

-- The curve of a quantity with the given extremes, or the empty text if the extremes are `None`.
abbrev pub line_between : Sheet → List Row → Quantity → ℕ → Option Extremes → List ℕ
line_between sheet rows quantity y None = []
line_between sheet rows quantity y (Some extremes) = curve_line_text sheet rows (record { quantity = quantity; y = y; extremes = extremes })

-- The curve of a quantity, or the empty text if the flight has no rows.
abbrev pub curve_text : Sheet → List Row → Quantity → ℕ → List ℕ
curve_text sheet rows quantity y = line_between sheet rows quantity y (extremes_of quantity rows)
