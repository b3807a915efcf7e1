-- The number of reconfigurations that are read off rows is at most the number of rows.
use Rattle.std.proofs.Common.{ℕ, suc, ◌+◌, ◌≤◌, Bool, true, false, arith, List, [], ◌∷◌, length}
use Rattle.std.specs.Prelude.{Option, Some, None, if◌then◌else◌}
use Rattle.std.proofs.Math.ListN.{length-append}
use Rattle.scram_types.specs.declared.rows.Row.{Row}
use Rattle.scram_types.specs.declared.orders.Act.{Act}
use Rattle.scram_types.specs.declared.ids.ConfId.{ConfId}
use Rattle.scram_types.specs.Specification.{Parts}
use Rattle.frame_model.specs.declared.readings.Reading.{Reading}
use Rattle.frame_model.specs.declared.readings.Reading.TheVariants.{Steady, Leaving}
use Rattle.frame_model.specs.Readings.{arrival, arrive, as_list, close, ended_in, read_row, reading_after, report_of, reports}
use Rattle.frame_model.specs.Runs.{running, runs}

-- The number of reconfigurations that are under way: 1, or 0 if there is none.
abbrev begun : Reading → ℕ
begun (Steady c) = 0
begun (Leaving c begin) = 1

left_once : (b : Bool) (c : ConfId) (f : ℕ) → begun (if b then Steady c else Leaving c f) ≤ 1
left_once true c f = omega arith
left_once false c f = omega arith

arrived_once : (c : ConfId) (begin f : ℕ) (o : Option ConfId) → length (as_list (arrival c begin f o)) + begun (arrive c begin o) ≤ 1
arrived_once c begin f None = omega arith
arrived_once c begin f (Some j) = omega arith

few_in_row : (spec : Parts) (rd : Reading) (f : ℕ) (acts : List Act) → length (as_list (report_of spec rd f acts)) + begun (read_row spec rd f acts) ≤ suc (begun rd)
few_in_row spec (Steady c) f acts = let once = left_once (runs spec acts c) c f in omega arith
few_in_row spec (Leaving c begin) f acts = let once = arrived_once c begin f (running spec acts) in omega arith

few_from : (spec : Parts) (rd : Reading) (f n : ℕ) (rows : List Row)
    → length (ended_in spec rd f rows) + length (as_list (close (reading_after spec rd f rows) n)) ≤ length rows + begun rd
few_from spec (Steady c) f n [] = omega arith
few_from spec (Leaving c begin) f n [] = omega arith
few_from spec rd f n (row ∷ rows) =
    let here = few_in_row spec rd f row.acts in
    let rest = few_from spec (read_row spec rd f row.acts) (suc f) n rows in
    let both = length-append (as_list (report_of spec rd f row.acts)) (ended_in spec (read_row spec rd f row.acts) (suc f) rows) in
    omega arith

pub few_reports : (spec : Parts) (rows : List Row) → length (reports spec rows) ≤ length rows
few_reports spec rows =
    let all = few_from spec (Steady spec.start) 0 (length rows) rows in
    let both = length-append (ended_in spec (Steady spec.start) 0 rows) (as_list (close (reading_after spec (Steady spec.start) 0 rows) (length rows))) in
    omega arith
