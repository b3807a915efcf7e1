-- Reading reconfigurations off the acts of rows.
use Rattle.std.specs.Prelude.{ℕ, suc, List, [], ◌∷◌, ◌++◌, length, Option, Some, None, if◌then◌else◌}
use Rattle.scram_types.specs.declared.ids.ConfId.{ConfId}
use Rattle.scram_types.specs.declared.rows.Row.{Row}
use Rattle.scram_types.specs.declared.rows.Report.{Report}
use Rattle.scram_types.specs.declared.orders.Act.{Act}
use Rattle.scram_types.specs.Specification.{Parts}
use Rattle.frame_model.specs.declared.readings.Reading.{Reading}
use Rattle.frame_model.specs.declared.readings.Reading.TheVariants.{Steady, Leaving}
use Rattle.frame_model.specs.Runs.{running, runs}

-- The reading after a row, given the configuration that the row runs, if any. A reconfiguration that left `c` in
-- frame `begin` is under way, and it ends if the row runs a configuration.
abbrev pub arrive : ConfId → ℕ → Option ConfId → Reading
arrive c begin None = Leaving c begin
arrive c begin (Some j) = Steady j

-- The reading after the row of frame `f`, given the reading before it. The first row that does not run `c` leaves
-- `c`. The first later row that runs a configuration makes the reading steady again.
abbrev pub read_row : Parts → Reading → ℕ → List Act → Reading
read_row spec (Steady c) f acts = if runs spec acts c then Steady c else Leaving c f
read_row spec (Leaving c begin) f acts = arrive c begin (running spec acts)

-- The reconfiguration that ends in frame `f` with the configuration that its row runs, or `None` if the row runs no
-- configuration.
abbrev pub arrival : ConfId → ℕ → ℕ → Option ConfId → Option Report
arrival c begin f None = None
arrival c begin f (Some j) = Some (record { from = c; to = Some j; begin = begin; end = f })

-- The reconfiguration that ends with the row of frame `f`, or `None` if no reconfiguration ends with it.
abbrev pub report_of : Parts → Reading → ℕ → List Act → Option Report
report_of spec (Steady c) f acts = None
report_of spec (Leaving c begin) f acts = arrival c begin f (running spec acts)

-- The reconfiguration that is cut off after `frames` frames, or `None` if no reconfiguration is under way.
abbrev pub close : Reading → ℕ → Option Report
close (Steady c) frames = None
close (Leaving c begin) frames = Some (record { from = c; to = None; begin = begin; end = frames })

-- The list that has the value of an option as its only item, or the empty list if there is no value.
abbrev pub as_list : {A : Type 0} → Option A → List A
as_list None = []
as_list (Some x) = x ∷ []

-- The reading after a list of rows, given the reading before the rows and the frame `f` of the first row.
abbrev pub reading_after : Parts → Reading → ℕ → List Row → Reading
reading_after spec reading f [] = reading
reading_after spec reading f (row ∷ rows) = reading_after spec (read_row spec reading f row.acts) (suc f) rows

-- The reconfigurations that end in a list of rows, given the reading before the rows and the frame `f` of the first
-- row.
abbrev pub ended_in : Parts → Reading → ℕ → List Row → List Report
ended_in spec reading f [] = []
ended_in spec reading f (row ∷ rows) =
    as_list (report_of spec reading f row.acts) ++ ended_in spec (read_row spec reading f row.acts) (suc f) rows

-- The reading after the rows of a flight. The start configuration runs before the first row.
abbrev pub reading_of : Parts → List Row → Reading
reading_of spec rows = reading_after spec (Steady spec.start) 0 rows

-- The reconfigurations that end within the rows of a flight.
abbrev pub ended : Parts → List Row → List Report
ended spec rows = ended_in spec (Steady spec.start) 0 rows

-- All reconfigurations that are read off the rows of a flight. The last one may be cut off.
abbrev pub reports : Parts → List Row → List Report
reports spec rows = ended spec rows ++ as_list (close (reading_of spec rows) (length rows))
