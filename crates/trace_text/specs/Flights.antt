-- The ranges that a specification sets for the rows and reconfigurations of its flights.
use Rattle.std.specs.Prelude.{◌≡◌, ◌<◌, ◌≤◌, ◌^◌, ⊤, ℕ, ℤ, pos, List, [], length, replicate, slice_get, slice_index, slice_index_or, Option, Some, None, IsSome, Ok}
use lib.Signed.{mag}
use Rattle.scram_types.specs.declared.rows.Env.{Env}
use Rattle.scram_types.specs.declared.rows.Report.{Report}
use Rattle.scram_types.specs.declared.rows.Row.{Row}
use Rattle.scram_types.specs.declared.rows.World.{World}
use Rattle.scram_types.specs.declared.ids.ConfId.{ConfId}
use Rattle.scram_types.specs.declared.ids.Mode.{Mode}
use Rattle.scram_types.specs.declared.ids.ProcId.{ProcId}
use Rattle.scram_types.specs.declared.limits.TheConstants.{MAX_FRAMES, MAX_PHASE}
use Rattle.scram_types.specs.declared.orders.Act.{Act}
use Rattle.scram_types.specs.declared.orders.Act.TheVariants.{Ran, Halting, Held, Preparing, Initialising, Off, Lost}
use Rattle.scram_types.specs.declared.orders.KMode.{KMode}
use Rattle.scram_types.specs.declared.orders.KMode.TheVariants.{Stable, Moving}
use Rattle.scram_types.specs.declared.specification.AppSpec.{AppSpec}
use Rattle.scram_types.specs.declared.specification.Factor.{Factor}
use Rattle.scram_types.specs.Specification.{Each, IsIn, IsInIfNamed, IsSpec, Parts, mode_in}
use Rattle.trace_text.specs.Text.{text_of}
use Rattle.trace_text.specs.TraceReading.{trace_of}

-- The configurations of a reconfiguration exist, and `since` is less than `MAX_FRAMES`.
pub record IsMove (spec : Parts) (from : ConfId) (halting : Option ConfId) (to : ConfId) (since : ℕ) : Type 0 where
  pub source : IsIn spec.confs from
  pub halts : IsInIfNamed spec.confs halting
  pub target : IsIn spec.confs to
  pub begun : since < MAX_FRAMES

-- The configurations of a row's mode exist.
abbrev pub IsModeShown : Parts → KMode → Type 0
IsModeShown spec (Stable c) = IsIn spec.confs c
IsModeShown spec (Moving from halting to since) = IsMove spec from halting to since

-- The processors that are up exist, and each factor has one of its values. There are six entries for values, and
-- those past the last factor are 0.
pub record IsEnvShown (spec : Parts) (env : Env) : Type 0 where
  pub up : env.up < 2 ^ length spec.procs
  pub width : length env.factors ≡ 6
  pub values : (x : ℕ) (factor : Factor) → slice_get spec.factors x ≡ Some factor → slice_index env.factors x < length factor.values
  pub rest : (x : ℕ) → length spec.factors ≤ x → slice_index env.factors x ≡ 0

-- A number that a flight shows is between -1,000,001 and 1,000,000, both included.
abbrev pub IsShown : ℤ → Type 0
IsShown z = mag z ≤ 1000000

-- The four numbers of the aircraft's world are in range.
pub record IsWorldShown (world : World) : Type 0 where
  pub alt : IsShown world.alt
  pub climb : IsShown world.climb
  pub heading : IsShown world.heading
  pub bank : IsShown world.bank

-- An application ran in a mode that the specification lists for it, on a processor that exists.
pub record IsRun (spec : Parts) (app : AppSpec) (mode : Mode) (proc : ProcId) : Type 0 where
  pub listed : IsSome (mode_in app.modes mode.0)
  pub on : proc.0 < length spec.procs

-- Frame `k` is one of the `n` frames of a phase, which has at most 16 frames, and the processor exists.
pub record IsStep (spec : Parts) (k n : ℕ) (proc : ProcId) : Type 0 where
  pub inside : k < n
  pub most : n ≤ MAX_PHASE
  pub on : proc.0 < length spec.procs

-- The mode, the frame and the processor that an application's act shows are valid for the application.
abbrev pub IsActShown : Parts → AppSpec → Act → Type 0
IsActShown spec app (Ran mode proc) = IsRun spec app mode proc
IsActShown spec app (Halting k n proc) = IsStep spec k n proc
IsActShown spec app Held = ⊤
IsActShown spec app (Preparing k n proc) = IsStep spec k n proc
IsActShown spec app (Initialising k n proc) = IsStep spec k n proc
IsActShown spec app Off = ⊤
IsActShown spec app Lost = ⊤

-- An area has eight words, each of them in range.
pub record IsAreaShown (area : List ℤ) : Type 0 where
  pub width : length area ≡ 8
  pub words : Each IsShown area

-- A row is a valid row of frame `f`. Each application has a valid act and area. Past the last application all acts
-- are `Off` and all areas are zeros.
pub record IsRowShown (spec : Parts) (f : ℕ) (row : Row) : Type 0 where
  pub frame : row.frame ≡ f
  pub mode : IsModeShown spec row.mode
  pub env : IsEnvShown spec row.env
  pub world : IsWorldShown row.world
  pub acts_width : length row.acts ≡ 8
  pub areas_width : length row.areas ≡ 8
  pub acts : (a : ℕ) (app : AppSpec) → slice_get spec.apps a ≡ Some app → IsActShown spec app (slice_index_or row.acts a Off)
  pub areas : (a : ℕ) → a < length spec.apps → IsAreaShown (slice_index_or row.areas a [])
  pub idle : (a : ℕ) → length spec.apps ≤ a → slice_index_or row.acts a Off ≡ Off
  pub empty : (a : ℕ) → length spec.apps ≤ a → a < 8 → slice_index_or row.areas a [] ≡ replicate 8 (pos 0)

-- A reconfiguration that ended has an end below `MAX_FRAMES`. A reconfiguration that was cut off has the number of
-- frames as its end.
abbrev pub IsEndShown : ℕ → Option ConfId → ℕ → Type 0
IsEndShown frames None end = end ≡ frames
IsEndShown frames (Some to) end = end < MAX_FRAMES

-- A reconfiguration is valid in a flight with `frames` frames: its configurations exist, it begins no later than its
-- end, and both its begin and its end are in range.
pub record IsReportShown (spec : Parts) (frames : ℕ) (report : Report) : Type 0 where
  pub source : IsIn spec.confs report.from
  pub target : IsInIfNamed spec.confs report.to
  pub begun : report.begin < MAX_FRAMES
  pub ordered : report.begin ≤ report.end
  pub ended : IsEndShown frames report.to report.end

-- The rows of a flight are valid rows of the frames 0, 1 and so on, and there are at most `MAX_FRAMES` rows. Each
-- reconfiguration is valid, and there are no more reconfigurations than rows.
pub record IsFlight (spec : Parts) (rows : List Row) (reports : List Report) : Type 0 where
  pub frames : length rows ≤ MAX_FRAMES
  pub rows_shown : (f : ℕ) (row : Row) → slice_get rows f ≡ Some row → IsRowShown spec f row
  pub few : length reports ≤ length rows
  pub reports_shown : Each (IsReportShown spec (length rows)) reports

-- Reading the printed text of a flight returns the flight's rows and reconfigurations.
abbrev pub PrintedIsRead : Type 0
PrintedIsRead = (spec : Parts) (rows : List Row) (reports : List Report) → IsSpec spec → IsFlight spec rows reports
    → trace_of spec (text_of spec rows reports) ≡ Ok (record { rows = rows; reports = reports })
