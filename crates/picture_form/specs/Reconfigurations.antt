-- The boxes of reconfigurations and of their bounds.
use Rattle.std.specs.Prelude.{ℕ, ◌+◌, ◌-◌, min, List, [], ◌++◌, slice_get, nat_lt, Option, Some, None, codes, decimal, if◌then◌else◌}
use Rattle.std.specs.Option.{option_map_or}
use Rattle.scram_types.specs.Lookups.{conf_name}
use Rattle.scram_types.specs.Specification.{Parts}
use Rattle.scram_types.specs.declared.rows.Report.{Report}
use Rattle.scram_types.specs.declared.ids.ConfId.{ConfId}
use Rattle.trace_text.specs.Names.{conf_or_dash}
use Rattle.trace_text.specs.Text.{length_text}
use Rattle.flight_facts.specs.Margins.{bound_of}
use Rattle.picture_form.specs.Boxes.{box_text}
use Rattle.picture_form.specs.Sheets.{bottom_of, width_of, x_of}
use Rattle.picture_form.specs.declared.sheets.Sheet.{Sheet}

-- A vertical line at the start of a reconfiguration.
abbrev pub begin_line : Sheet → ℕ → List ℕ
begin_line sheet begin =
    codes "<path class=\"begin\" d=\"M" ++ decimal (x_of sheet begin) ++ codes " 44V" ++ decimal (bottom_of sheet) ++ codes "\"/>\n"

-- The vertical line at the start of reconfiguration `n`, or the empty text if there is no such reconfiguration or it
-- does not begin in a row.
abbrev pub begin_text : Sheet → List Report → ℕ → List ℕ
begin_text sheet reports n =
    option_map_or (λ (report : Report). if nat_lt report.begin sheet.rows then begin_line sheet report.begin else []) (slice_get reports n) []

-- The last frame of a reconfiguration, given its target. The text is `-` if the target is `None`, which means that
-- the reconfiguration is unfinished.
abbrev pub end_text : Report → Option ConfId → List ℕ
end_text report None = codes "-"
end_text report (Some to) = decimal report.end

-- The first frame, the last frame and the length of a reconfiguration, and the bound on its length.
unfoldable pub times_text : Parts → Report → List ℕ
times_text spec report = codes " begin " ++ decimal report.begin ++ codes " end " ++ end_text report report.to ++ length_text report (bound_of spec report)

-- The source and the target of a reconfiguration, with `>` escaped.
unfoldable pub route_text : Parts → ConfId → Option ConfId → List ℕ
route_text spec from to = codes "reconfiguration " ++ conf_name spec from.0 ++ codes " &gt; " ++ conf_or_dash spec to

-- The title of a reconfiguration: its line in the trace, with `>` escaped.
unfoldable pub report_title : Parts → Report → List ℕ
report_title spec report = route_text spec report.from report.to ++ times_text spec report

-- The width of the rows from `begin` to `last`, inclusive, or to the last row of the flight if that row is earlier.
-- The width is 0 if `last` is less than `begin`.
abbrev pub rows_width : Sheet → ℕ → ℕ → ℕ
rows_width sheet begin last = width_of sheet (min last (sheet.rows - 1) + 1 - begin)

-- The outline of the rows that a bound allows for a reconfiguration that begins in row `begin`, or the empty text if
-- there is no bound.
abbrev pub bound_rect : Sheet → ℕ → Option ℕ → List ℕ
bound_rect sheet begin None = []
bound_rect sheet begin (Some bound) =
    codes "<rect class=\"bound\"" ++ box_text (x_of sheet begin) 48 (rows_width sheet begin (begin + bound)) ++ codes "/>\n"

-- The box of a reconfiguration with its title, preceded by the outline of its bound.
abbrev pub report_boxes : Parts → Sheet → Report → List ℕ
report_boxes spec sheet report =
    bound_rect sheet report.begin (bound_of spec report) ++ codes "<rect class=\"reconfiguration\""
    ++ box_text (x_of sheet report.begin) 48 (rows_width sheet report.begin report.end) ++ codes "><title>"
    ++ report_title spec report ++ codes "</title></rect>\n"

-- The boxes of reconfiguration `n`, or the empty text if there is no such reconfiguration or it does not begin in a
-- row.
abbrev pub reconfiguration_boxes : Parts → Sheet → List Report → ℕ → List ℕ
reconfiguration_boxes spec sheet reports n =
    option_map_or (λ (report : Report). if nat_lt report.begin sheet.rows then report_boxes spec sheet report else []) (slice_get reports n) []
