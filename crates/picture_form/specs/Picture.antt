-- The picture of a flight.
use Rattle.std.specs.Prelude.{ℕ, ◌+◌, ◌*◌, List, ◌++◌, length, codes, decimal}
use Rattle.scram_types.specs.Specification.{Parts}
use Rattle.scram_types.specs.declared.rows.Report.{Report}
use Rattle.scram_types.specs.declared.rows.Row.{Row}
use Rattle.flight_facts.specs.declared.extremes.Quantity.{Quantity}
use Rattle.flight_facts.specs.declared.extremes.Quantity.TheVariants.{Altitude, Climb, Heading, Bank}
use Rattle.flight_facts.specs.declared.spans.Lane.TheVariants.{Configuration}
use Rattle.form_base.specs.Texts.{texts_below}
use Rattle.picture_form.specs.Curves.{curve_names, curve_text}
use Rattle.picture_form.specs.Lanes.{lanes_text, spans_text}
use Rattle.picture_form.specs.Reconfigurations.{begin_text, reconfiguration_boxes}
use Rattle.picture_form.specs.Sheets.{bottom_of, curves_y, rows_of_tick, sheet_height, sheet_of, sheet_width, ticks_of, x_of}
use Rattle.picture_form.specs.declared.sheets.Sheet.{Sheet}
use Rattle.picture_form.specs.declared.spans.Strip.{Strip}
use Rattle.picture_form.specs.Styles.{part_text}
use Rattle.picture_form.specs.declared.styles.Part.TheVariants.{Style, Names, Legend}

-- The opening tag of the document, with the picture's size.
abbrev pub open_line : Sheet → List ℕ
open_line sheet =
    codes "<svg xmlns=\"http://www.w3.org/2000/svg\" width=\"" ++ decimal (sheet_width sheet) ++ codes "\" height=\"" ++ decimal (sheet_height sheet)
    ++ codes "\" viewBox=\"0 0 " ++ decimal (sheet_width sheet) ++ codes " " ++ decimal (sheet_height sheet) ++ codes "\">\n"

-- The opening tag of the document, followed by its styles.
abbrev pub head_text : Sheet → List ℕ
head_text sheet = open_line sheet ++ part_text Style

-- A vertical line at row `k`, with the row's number below the line.
abbrev pub tick_line : Sheet → ℕ → List ℕ
tick_line sheet k =
    codes "<path class=\"tick\" d=\"M" ++ decimal (x_of sheet k) ++ codes " 44V" ++ decimal (bottom_of sheet) ++ codes "\"/><text class=\"axis\" x=\""
    ++ decimal (x_of sheet k) ++ codes "\" y=\"" ++ decimal (bottom_of sheet + 14) ++ codes "\">" ++ decimal k ++ codes "</text>\n"

-- The vertical line of tick `j`, with the number of the tick's row.
abbrev pub tick_text : Sheet → ℕ → List ℕ
tick_text sheet j = tick_line sheet (j * rows_of_tick sheet.rows)

-- The lines of all ticks.
abbrev pub ticks_text : Sheet → List ℕ
ticks_text sheet = texts_below (tick_text sheet) (ticks_of sheet)

-- The vertical lines behind the lanes: the ticks, and the starts of the reconfigurations.
abbrev pub grid_text : Sheet → List Report → List ℕ
grid_text sheet reports = ticks_text sheet ++ texts_below (begin_text sheet reports) (length reports)

-- The lane of configurations, with the y-coordinate of its top.
abbrev pub conf_strip : Strip
conf_strip = record { lane = Configuration; y = 20 }

-- The names of the lanes of configurations and reconfigurations, followed by the spans in which a configuration is
-- stable.
abbrev pub stable_spans : Parts → Sheet → List Row → List ℕ
stable_spans spec sheet rows = part_text Names ++ spans_text spec sheet rows conf_strip

-- The first two lanes, which show configurations and reconfigurations.
abbrev pub top_text : Parts → Sheet → List Row → List Report → List ℕ
top_text spec sheet rows reports = stable_spans spec sheet rows ++ texts_below (reconfiguration_boxes spec sheet reports) (length reports)

-- The name of a quantity.
abbrev pub quantity_name : Quantity → List ℕ
quantity_name Altitude = codes "altitude"
quantity_name Climb = codes "climb"
quantity_name Heading = codes "heading"
quantity_name Bank = codes "bank"

-- The unit of a quantity.
abbrev pub quantity_unit : Quantity → List ℕ
quantity_unit Altitude = codes "ft"
quantity_unit Climb = codes "0.1 ft"
quantity_unit Heading = codes "0.1 deg"
quantity_unit Bank = codes "0.1 deg"

-- The text elements for the name of a quantity and, below it, for its unit. They are to the left of the curve whose
-- top is at `y`.
abbrev pub names_text : Quantity → ℕ → List ℕ
names_text quantity y = curve_names y (quantity_name quantity) (quantity_unit quantity)

-- The curve of a quantity with its top at `y`, preceded by the quantity's name and unit.
abbrev pub quantity_text : Sheet → List Row → Quantity → ℕ → List ℕ
quantity_text sheet rows quantity y = names_text quantity y ++ curve_text sheet rows quantity y

-- The curve of the aircraft's altitude, with its name and unit.
abbrev pub altitude_text : Sheet → List Row → List ℕ
altitude_text sheet rows = quantity_text sheet rows Altitude (curves_y sheet)

-- The curve of the aircraft's heading, with its name and unit.
abbrev pub heading_text : Sheet → List Row → List ℕ
heading_text sheet rows = quantity_text sheet rows Heading (curves_y sheet + 64)

-- The curves of altitude and heading.
abbrev pub curves_text : Sheet → List Row → List ℕ
curves_text sheet rows = altitude_text sheet rows ++ heading_text sheet rows

-- The opening tag of the legend, with its position.
abbrev pub legend_line : Sheet → List ℕ
legend_line sheet = codes "<g transform=\"translate(0 " ++ decimal (bottom_of sheet + 28) ++ codes ")\">\n"

-- The legend, followed by the end of the document.
abbrev pub legend_text : Sheet → List ℕ
legend_text sheet = legend_line sheet ++ part_text Legend

-- The part of the picture below the lanes: the curves and the legend.
abbrev pub foot_text : Sheet → List Row → List ℕ
foot_text sheet rows = curves_text sheet rows ++ legend_text sheet

-- The lanes of factors, processors and applications, and the part of the picture below them.
abbrev pub lanes_and_foot : Parts → Sheet → List Row → List ℕ
lanes_and_foot spec sheet rows = lanes_text spec sheet rows ++ foot_text sheet rows

-- The part of the document that is drawn over the grid: the lanes, the curves and the legend.
abbrev pub front_text : Parts → Sheet → List Row → List Report → List ℕ
front_text spec sheet rows reports = top_text spec sheet rows reports ++ lanes_and_foot spec sheet rows

-- The part of the document after the opening tag and the styles.
abbrev pub body_text : Parts → Sheet → List Row → List Report → List ℕ
body_text spec sheet rows reports = grid_text sheet reports ++ front_text spec sheet rows reports

-- The picture of a flight on a sheet.
abbrev pub sheet_text : Parts → Sheet → List Row → List Report → List ℕ
sheet_text spec sheet rows reports = head_text sheet ++ body_text spec sheet rows reports

-- The picture of a flight.
abbrev pub picture_text : Parts → List Row → List Report → List ℕ
picture_text spec rows reports = sheet_text spec (sheet_of spec rows) rows reports
