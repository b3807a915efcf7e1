-- Pieces of a picture: boxes, names and labels.
use Rattle.std.specs.Prelude.{ℕ, zero, suc, ◌+◌, ◌*◌, List, [], ◌++◌, length, nat_le, codes, decimal, if◌then◌else◌}

-- The attributes `x` and `y` of an element at the given position.
unfoldable pub place_text : ℕ → ℕ → List ℕ
place_text x y = codes " x=\"" ++ decimal x ++ codes "\" y=\"" ++ decimal y ++ codes "\""

-- The attributes of the position and the size of a box, whose height is 16 pixels.
unfoldable pub box_text : ℕ → ℕ → ℕ → List ℕ
box_text x y width = place_text x y ++ codes " width=\"" ++ decimal width ++ codes "\" height=\"16\""

-- The text element with the name of a lane, to the left of the lane's rows. `y` is the y-coordinate of the text.
abbrev pub name_text : ℕ → List ℕ → List ℕ
name_text y name = codes "<text class=\"name\" x=\"128\" y=\"" ++ decimal y ++ codes "\">" ++ name ++ codes "</text>"

-- A text element with the given class, position and text.
unfoldable pub placed_text : List ℕ → ℕ → ℕ → List ℕ → List ℕ
placed_text class x y text =
    codes "<text class=\"" ++ class ++ codes "\"" ++ place_text x y ++ codes ">" ++ text ++ codes "</text>"

-- The label of a box with the given position and width, or the empty text if the box is too narrow for the label.
-- Each letter counts as 7 pixels.
abbrev pub label_text : ℕ → ℕ → ℕ → List ℕ → List ℕ
label_text x y width label = if nat_le (7 * length label + 3) width then placed_text (codes "value") (x + 3) (y + 12) label else []

-- The text of the first and the last frame of a span, or of its only frame, given the first row `k` and the number of
-- rows. It is empty if the span has no rows.
abbrev pub frames_text : ℕ → ℕ → List ℕ
frames_text k zero = []
frames_text k (suc zero) = codes " frame " ++ decimal k
frames_text k (suc (suc n)) = codes " frames " ++ decimal k ++ codes " to " ++ decimal (k + suc n)
