-- The laws of pictures. If two flights can be drawn and have the same picture, they show the same. Every flight can
-- be drawn, and every trace that can be read can be drawn.
use Rattle.std.specs.Prelude.{◌≡◌, ◌<◌, ◌^◌, ℕ, true, List, Option, filter, length, map, nat_lt, option_map, slice_get, slice_index, Some}
use lib.Signed.{mag}
use Rattle.scram_types.specs.Specification.{Each, IsSpec, Parts}
use Rattle.scram_types.specs.declared.rows.Flown.{Flown}
use Rattle.scram_types.specs.declared.rows.Report.{Report}
use Rattle.scram_types.specs.declared.rows.Row.{Row}
use Rattle.scram_types.specs.declared.specification.AppSpec.{AppSpec}
use Rattle.trace_text.specs.Flights.{IsActShown, IsFlight}
use Rattle.form_base.specs.trace_files.Traces.{SaysTrace}
use Rattle.flight_facts.specs.Acts.{act_of}
use Rattle.flight_facts.specs.Extremes.{extremes_of, quantity_of}
use Rattle.flight_facts.specs.Spans.{are_alike}
use Rattle.flight_facts.specs.declared.extremes.Extremes.{Extremes}
use Rattle.flight_facts.specs.declared.extremes.Quantity.{Quantity}
use Rattle.flight_facts.specs.declared.extremes.Quantity.TheVariants.{Altitude, Heading}
use Rattle.picture_form.specs.Curves.{drop_of}
use Rattle.picture_form.specs.Picture.{picture_text}
use Rattle.picture_form.specs.Reconfigurations.{report_title}
use Rattle.picture_form.specs.Sheets.{lane_of, lanes_of, sheet_of}

-- A row can be drawn. The values of its factors are bytes, the act of each application is possible for the
-- application, and altitude and heading are signed 64-bit numbers.
pub record IsRowDrawn (spec : Parts) (row : Row) : Type 0 where
  pub values : (x : ℕ) → slice_index row.env.factors x < 2 ^ 8
  pub acts : (a : ℕ) (app : AppSpec) → slice_get spec.apps a ≡ Some app → IsActShown spec app (act_of row a)
  pub altitude : mag row.world.alt < 2 ^ 63
  pub heading : mag row.world.heading < 2 ^ 63

-- A report can be drawn: its frames are 32-bit numbers.
pub record IsReportDrawn (report : Report) : Type 0 where
  pub begin : report.begin < 2 ^ 32
  pub end : report.end < 2 ^ 32

-- A flight can be drawn: it has fewer than `2 ^ 32` rows, and each of its rows and reports can be drawn.
pub record IsDrawn (spec : Parts) (rows : List Row) (reports : List Report) : Type 0 where
  pub few : length rows < 2 ^ 32
  pub rows_drawn : Each (IsRowDrawn spec) rows
  pub reports_drawn : Each IsReportDrawn reports

-- The reports of the reconfigurations that begin in one of the first `frames` rows.
abbrev pub drawn_in : ℕ → List Report → List Report
drawn_in frames reports = filter (λ (report : Report). nat_lt report.begin frames) reports

-- The titles of the reconfigurations that begin in one of the first `frames` rows.
abbrev pub drawn_titles : Parts → ℕ → List Report → List (List ℕ)
drawn_titles spec frames reports = map (report_title spec) (drawn_in frames reports)

-- The distance of the point of row `k` from the top of a quantity's curve, in tenths of a pixel, or `None` if there
-- is no such row.
abbrev pub drop_at : Quantity → Extremes → List Row → ℕ → Option ℕ
drop_at quantity extremes rows k = option_map (λ (row : Row). drop_of extremes (quantity_of quantity row.world)) (slice_get rows k)

-- Two flights have the same curve of a quantity. The extremes are the same, and each row is drawn at the same height.
pub record DrawnAlike (quantity : Quantity) (rows others : List Row) : Type 0 where
  pub extremes : extremes_of quantity rows ≡ extremes_of quantity others
  pub drops : (ends : Extremes) (k : ℕ) → extremes_of quantity rows ≡ Some ends → k < length rows
      → drop_at quantity ends rows k ≡ drop_at quantity ends others k

-- Two flights show the same. They have the same number of rows, and each row shows the same in the lane of each factor,
-- processor and application. The reconfigurations that begin in a row have the same titles, and altitude and heading
-- have the same curves.
pub record ShowTheSame (spec : Parts) (rows others : List Row) (reports reported : List Report) : Type 0 where
  pub frames : length rows ≡ length others
  pub alike : (n k : ℕ) (row other : Row) → n < lanes_of (sheet_of spec rows) → slice_get rows k ≡ Some row → slice_get others k ≡ Some other
      → are_alike (lane_of (sheet_of spec rows) n) row other ≡ true
  pub reconfigurations : drawn_titles spec (length rows) reports ≡ drawn_titles spec (length others) reported
  pub altitude : DrawnAlike Altitude rows others
  pub heading : DrawnAlike Heading rows others

-- If two flights of one specification can be drawn and have the same picture, they show the same.
abbrev pub EqualPicturesShowTheSame : Type 0
EqualPicturesShowTheSame = (spec : Parts) (rows others : List Row) (reports reported : List Report) → IsSpec spec → IsDrawn spec rows reports
    → IsDrawn spec others reported → picture_text spec rows reports ≡ picture_text spec others reported → ShowTheSame spec rows others reports reported

-- Every flight of a specification can be drawn.
abbrev pub FlightsAreDrawn : Type 0
FlightsAreDrawn = (spec : Parts) (rows : List Row) (reports : List Report) → IsSpec spec → IsFlight spec rows reports → IsDrawn spec rows reports

-- Every trace that can be read can be drawn.
abbrev pub TracesAreDrawn : Type 0
TracesAreDrawn = (spec : Parts) (flown : Flown) (bytes : List ℕ) → IsSpec spec → SaysTrace spec flown bytes → IsDrawn spec flown.rows flown.reports
