-- A kernel as its callers see it, and its invariant.
use Rattle.std.specs.Prelude.{◌≡◌, ℕ, suc, ◌≤◌, ℤ, List}
use Rattle.scram_types.specs.Scripts.{ScriptParts}
use Rattle.scram_types.specs.Searches.{listed_below}
use Rattle.scram_types.specs.Specification.{IsSpec, Parts}
use Rattle.scram_types.specs.declared.rows.Report.{Report}
use Rattle.scram_types.specs.declared.rows.Row.{Row}
use Rattle.bank_words.specs.declared.images.KernelImage.{KernelImage}
use Rattle.fault_script.specs.declared.walks.Walk.{Walk}
use Rattle.fault_script.specs.Fits.{Fits}
use Rattle.fault_script.specs.Walks.{IsWalk}
use Rattle.frame_model.specs.declared.readings.Reading.{Reading}
use Rattle.frame_model.specs.Flights.{row_at, state_after}
use Rattle.frame_model.specs.Readings.{ended, reading_of}
use Rattle.frame_model.specs.Storage.{kernel_image}

-- The parts of a kernel: its specification, its script, and the number of frames that have ended.
pub record KernelParts : Type 0 where
  pub spec : Parts
  pub script : ScriptParts
  pub past : ℕ

-- The kernel of a flight after the first `f` frames.
abbrev pub kernel_after : Parts → ScriptParts → ℕ → KernelParts
kernel_after spec script f = record { spec = spec; script = script; past = f }

-- The rows of the first `f` frames.
abbrev pub rows_below : Parts → ScriptParts → ℕ → List Row
rows_below spec script f = listed_below (row_at spec script) f

-- The values are those of a kernel after `f` frames. `image` is the kernel image of frame `f`, and `areas` are the
-- areas before that frame. `rows` are the rows of the first `f` frames, `reading` is the reading of these rows, and
-- `reports` are the reports of the reconfigurations that ended in these rows.
pub record HoldsFlight (spec : Parts) (script : ScriptParts) (f : ℕ) (image : KernelImage) (areas : List (List ℤ))
    (reading : Reading) (rows : List Row) (reports : List Report) : Type 0 where
  pub image_is : image ≡ kernel_image spec script f
  pub areas_are : areas ≡ (state_after spec script f).areas
  pub rows_are : rows ≡ rows_below spec script f
  pub reading_is : reading ≡ reading_of spec (rows_below spec script f)
  pub reports_are : reports ≡ ended spec (rows_below spec script f)

-- After `f` frames there is room for the rest of the flight. The flight needs a row for each frame, a report for each
-- frame, and one report at the end.
pub record HasRoomForFlight (frames f room_of_rows room_of_reports count_of_rows count_of_reports : ℕ) : Type 0 where
  pub within : f ≤ frames
  pub rows_fit : frames ≤ room_of_rows
  pub reports_fit : suc frames ≤ room_of_reports
  pub rows_told : count_of_rows ≡ f
  pub reports_few : count_of_reports ≤ f

-- The invariant of a kernel. The kernel's image is the image of the running frame, which is also the frame of the
-- walk. Therefore the frame of the image is the number of frames that have ended.
pub record KernelKeeps (spec : Parts) (script : ScriptParts) (walk : Walk) (image : KernelImage) (areas : List (List ℤ))
    (reading : Reading) (rows : List Row) (reports : List Report) (room_of_rows room_of_reports count_of_rows count_of_reports : ℕ) : Type 0 where
  pub facts : IsSpec spec
  pub fits : Fits spec script
  pub walk_is : IsWalk spec script walk.frame walk
  pub walk_at : walk.frame ≡ image.frame
  pub stands : HoldsFlight spec script image.frame image areas reading rows reports
  pub room : HasRoomForFlight script.frames image.frame room_of_rows room_of_reports count_of_rows count_of_reports
