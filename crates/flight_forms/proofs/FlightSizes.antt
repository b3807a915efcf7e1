-- Lemmas on the maximum numbers of rows and reports in the flight of a script that fits its specification.
use Rattle.std.proofs.Common.{◌≤◌, arith, length}
use Rattle.scram_types.specs.Scripts.{ScriptParts}
use Rattle.scram_types.specs.Specification.{Parts}
use Rattle.scram_types.specs.declared.limits.TheConstants.{MAX_FRAMES}
use Rattle.scram_types.proofs.Searches.{length_listed}
use Rattle.fault_script.specs.Fits.{Fits}
use Rattle.frame_model.specs.Flights.{reports_of, row_at, rows_of}
use Rattle.trace_props.proofs.Sizes.{few_reports}

pub few_rows_flown : (spec : Parts) (script : ScriptParts) → Fits spec script → length (rows_of spec script) ≤ MAX_FRAMES
few_rows_flown spec script fits =
    let frames = fits.frames in
    let count = length_listed (row_at spec script) script.frames in
    omega (arith, frames, count)

pub few_reports_flown : (spec : Parts) (script : ScriptParts) → Fits spec script → length (reports_of spec script) ≤ MAX_FRAMES
few_reports_flown spec script fits =
    let rows = few_rows_flown spec script fits in
    let few = few_reports spec (rows_of spec script) in
    omega (arith, rows, few)
