-- The lanes of a picture.
use Rattle.std.specs.Prelude.{ℕ, ◌+◌, List, ◌++◌, length, codes}
use Rattle.scram_types.specs.Specification.{Parts}
use Rattle.scram_types.specs.declared.rows.Row.{Row}
use Rattle.form_base.specs.Texts.{texts_below}
use Rattle.picture_form.specs.Boxes.{name_text}
use Rattle.picture_form.specs.Sheets.{lane_of, lane_y, lanes_of}
use Rattle.picture_form.specs.Spans.{lane_name, span_text}
use Rattle.picture_form.specs.declared.sheets.Sheet.{Sheet}
use Rattle.picture_form.specs.declared.spans.Strip.{Strip}

-- The drawings of all spans of a lane, in the order of the rows.
abbrev pub spans_text : Parts → Sheet → List Row → Strip → List ℕ
spans_text spec sheet rows strip = texts_below (span_text spec sheet rows strip) (length rows)

-- Lane `n` with the y-coordinate of its top. The lanes of the factors are first, followed by the lanes of the
-- processors and the lanes of the applications.
abbrev pub strip_of : Sheet → ℕ → Strip
strip_of sheet n = record { lane = lane_of sheet n; y = lane_y sheet n }

-- The text element with the name of a lane, followed by a line feed.
abbrev pub name_line : Parts → Strip → List ℕ
name_line spec strip = name_text (strip.y + 12) (lane_name spec strip.lane) ++ codes "\n"

-- The name of a lane, followed by the drawings of its spans.
abbrev pub strip_text : Parts → Sheet → List Row → Strip → List ℕ
strip_text spec sheet rows strip = name_line spec strip ++ spans_text spec sheet rows strip

-- The name of lane `n`, followed by the drawings of its spans.
abbrev pub lane_text : Parts → Sheet → List Row → ℕ → List ℕ
lane_text spec sheet rows n = strip_text spec sheet rows (strip_of sheet n)

-- The lanes of all factors, processors and applications.
abbrev pub lanes_text : Parts → Sheet → List Row → List ℕ
lanes_text spec sheet rows = texts_below (lane_text spec sheet rows) (lanes_of sheet)
