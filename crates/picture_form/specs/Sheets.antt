-- Positions and sizes in a picture, in pixels.
use Rattle.std.specs.Prelude.{ℕ, ◌+◌, ◌*◌, ◌≤◌, ◌/◌, ◌-◌, max, List, length, nat_lt, if◌then◌else◌}
use Rattle.scram_types.specs.Specification.{Parts}
use Rattle.scram_types.specs.declared.rows.Row.{Row}
use Rattle.flight_facts.specs.declared.spans.Lane.{Lane}
use Rattle.flight_facts.specs.declared.spans.Lane.TheVariants.{Factor, Processor, Application}
use Rattle.picture_form.specs.declared.sheets.Sheet.{Sheet}

-- The sheet of a flight: the number of rows of the flight, and the numbers of factors, processors and applications of
-- the specification.
abbrev pub sheet_of : Parts → List Row → Sheet
sheet_of spec rows = record { rows = length rows; factors = length spec.factors; procs = length spec.procs; apps = length spec.apps }

-- A sheet has at most 6 factors, 8 processors and 8 applications, which are the maximum numbers of a specification.
pub record IsWithinLimits (sheet : Sheet) : Type 0 where
  pub factors : sheet.factors ≤ 6
  pub procs : sheet.procs ≤ 8
  pub apps : sheet.apps ≤ 8

-- The width of a row in a picture with `rows` rows.
abbrev pub scale_of : ℕ → ℕ
scale_of rows = if nat_lt 8000 rows then 1 else (if nat_lt 4000 rows then 2 else (if nat_lt 2000 rows then 4 else 8))

-- The number of rows from one tick to the next in a picture with `rows` rows.
abbrev pub rows_of_tick : ℕ → ℕ
rows_of_tick rows = if nat_lt 8000 rows then 100 else (if nat_lt 4000 rows then 50 else (if nat_lt 2000 rows then 25 else 10))

-- The number of ticks on a sheet.
abbrev pub ticks_of : Sheet → ℕ
ticks_of sheet = sheet.rows / rows_of_tick sheet.rows + 1

-- The x-coordinate of the left edge of row `k`.
abbrev pub x_of : Sheet → ℕ → ℕ
x_of sheet k = 136 + scale_of sheet.rows * k

-- The width of `rows` rows.
abbrev pub width_of : Sheet → ℕ → ℕ
width_of sheet rows = scale_of sheet.rows * rows

-- The number of lanes of factors, processors and applications.
abbrev pub lanes_of : Sheet → ℕ
lanes_of sheet = sheet.factors + sheet.procs + sheet.apps

-- Lane `n`. The lanes of the factors are first, followed by the lanes of the processors and the lanes of the
-- applications.
abbrev pub lane_of : Sheet → ℕ → Lane
lane_of sheet n =
    if nat_lt n sheet.factors then Factor n
    else (if nat_lt n (sheet.factors + sheet.procs) then Processor (n - sheet.factors) else Application (n - (sheet.factors + sheet.procs)))

-- The extra space above lane `n`, which separates the lanes of factors, processors and applications.
abbrev pub room_above : Sheet → ℕ → ℕ
room_above sheet n = if nat_lt n sheet.factors then 0 else (if nat_lt n (sheet.factors + sheet.procs) then 8 else 16)

-- The y-coordinate of the top of lane `n`.
abbrev pub lane_y : Sheet → ℕ → ℕ
lane_y sheet n = 72 + 20 * n + room_above sheet n

-- The y-coordinate of the top of the first curve, which is below all lanes.
abbrev pub curves_y : Sheet → ℕ
curves_y sheet = 96 + 20 * lanes_of sheet

-- The y-coordinate of the bottom of the second curve.
abbrev pub bottom_of : Sheet → ℕ
bottom_of sheet = curves_y sheet + 120

-- The width of the picture, which is at least the width of the legend.
abbrev pub sheet_width : Sheet → ℕ
sheet_width sheet = max (288 + scale_of sheet.rows * sheet.rows) 912

-- The height of the picture.
abbrev pub sheet_height : Sheet → ℕ
sheet_height sheet = bottom_of sheet + 68
