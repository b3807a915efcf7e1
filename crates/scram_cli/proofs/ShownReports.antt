-- The reconfigurations that are derived from the rows are within the flight, and the text that is printed for a
-- flight can be read.
use Rattle.std.proofs.Common.{◌≡◌, ℕ, zero, suc, ◌<◌, ◌≤◌, ◌+◌, Bool, true, false, cond, List, [], ◌∷◌, ◌++◌, length, arith, refl, subst}
use Rattle.std.specs.Prelude.{IfSome, Option, Some, None, option_map}
use Rattle.scram_types.specs.declared.rows.Row.{Row}
use Rattle.scram_types.specs.declared.ids.ConfId.{ConfId}
use Rattle.scram_types.specs.declared.limits.TheConstants.{MAX_FRAMES}
use Rattle.scram_types.specs.declared.orders.Act.{Act}
use Rattle.scram_types.specs.Lookups.{conf_id}
use Rattle.scram_types.specs.Scripts.{ScriptParts}
use Rattle.scram_types.specs.Searches.{least_from}
use Rattle.scram_types.specs.Specification.{Each, IsIn, IsSpec, Parts}
use Rattle.scram_types.proofs.Searches.{length_listed}
use Rattle.fault_script.proofs.SmallSpec.{each_none, each_one}
use Rattle.fault_script.specs.Fits.{Fits}
use Rattle.frame_model.specs.declared.readings.Reading.{Reading}
use Rattle.frame_model.specs.declared.readings.Reading.TheVariants.{Steady, Leaving}
use Rattle.frame_model.specs.Flights.{reports_of, row_at, rows_of}
use Rattle.frame_model.specs.Readings.{arrival, arrive, as_list, close, ended_in, read_row, reading_after, report_of, reports}
use Rattle.frame_model.specs.Runs.{running, runs}
use Rattle.trace_text.specs.Flights.{IsFlight, IsReportShown}
use Rattle.trace_text.proofs.FlightsBack.{printed_is_read}
use Rattle.trace_props.proofs.Sizes.{few_reports}
use Rattle.scram_cli.specs.Laws.{PrintedMissionsAreRead}
use Rattle.scram_cli.proofs.ShownRows.{rows_shown}

-- The configuration that a row runs belongs to the specification.

found_low : (test : ℕ → Bool) (i n : ℕ) → IfSome (least_from test i n) (λ (j : ℕ). j < i + n)
found_low test i zero = tt
found_low test i (suc n) = by (test i) (found_low test (suc i) n)
  where
    later : (o : Option ℕ) → IfSome o (λ (j : ℕ). j < suc i + n) → IfSome o (λ (j : ℕ). j < i + suc n)
    later None h = tt
    later (Some j) h = omega (arith, h)

    by : (t : Bool) → IfSome (least_from test (suc i) n) (λ (j : ℕ). j < suc i + n) → IfSome (cond t (Some i) (least_from test (suc i) n)) (λ (j : ℕ). j < i + suc n)
    by true h = omega arith
    by false h = later (least_from test (suc i) n) h

runs_known : (spec : Parts) (o : Option ℕ) → IfSome o (λ (j : ℕ). j < 0 + length spec.confs) → IfSome (option_map conf_id o) (IsIn spec.confs)
runs_known spec None h = tt
runs_known spec (Some j) h = omega (arith, h)

running_known : (spec : Parts) (acts : List Act) → IfSome (running spec acts) (IsIn spec.confs)
running_known spec acts = runs_known spec (least_from (λ c. runs spec acts (conf_id c)) 0 (length spec.confs)) (found_low (λ c. runs spec acts (conf_id c)) 0 (length spec.confs))

-- The configuration `c` that is being left belongs to the specification, and the reconfiguration began before frame
-- `f`.
pub record IsLeft (spec : Parts) (f : ℕ) (c : ConfId) (begin : ℕ) : Type 0 where
  pub known : IsIn spec.confs c
  pub past : begin < f

abbrev IsReadingShown : Parts → ℕ → Reading → Type 0
IsReadingShown spec f (Steady c) = IsIn spec.confs c
IsReadingShown spec f (Leaving c begin) = IsLeft spec f c begin

left_by : (t : Bool) (spec : Parts) (f : ℕ) (c : ConfId) → IsIn spec.confs c → IsReadingShown spec (suc f) (cond t (Steady c) (Leaving c f))
left_by true spec f c known = known
left_by false spec f c known = record { known = known; past = omega arith }

arrive_shown : (spec : Parts) (f : ℕ) (c : ConfId) (begin : ℕ) (o : Option ConfId) → IsLeft spec f c begin → IfSome o (IsIn spec.confs) → IsReadingShown spec (suc f) (arrive c begin o)
arrive_shown spec f c begin None left known = let past = left.past in record { known = left.known; past = omega (arith, past) }
arrive_shown spec f c begin (Some j) left known = known

read_shown : (spec : Parts) (f : ℕ) (reading : Reading) (acts : List Act) → IsReadingShown spec f reading → IsReadingShown spec (suc f) (read_row spec reading f acts)
read_shown spec f (Steady c) acts known = left_by (runs spec acts c) spec f c known
read_shown spec f (Leaving c begin) acts left = arrive_shown spec f c begin (running spec acts) left (running_known spec acts)

-- Lemmas that the reconfigurations that are derived from the rows are within the flight.

each_append : {A : Type 0} (P : A → Type 0) (xs ys : List A) → Each P xs → Each P ys → Each P (xs ++ ys)
each_append P [] ys h k i x there = k i x there
each_append P (y ∷ xs) ys h k zero x there = h 0 x there
each_append P (y ∷ xs) ys h k (suc i) x there = each_append P xs ys (λ j z at. h (suc j) z at) k i x there

arrival_shown : (spec : Parts) (frames f : ℕ) (c : ConfId) (begin : ℕ) (o : Option ConfId) → f < MAX_FRAMES → IsLeft spec f c begin → IfSome o (IsIn spec.confs) →
    Each (IsReportShown spec frames) (as_list (arrival c begin f o))
arrival_shown spec frames f c begin None low left known = each_none (IsReportShown spec frames)
arrival_shown spec frames f c begin (Some j) low left known =
    let past = left.past in
    each_one (IsReportShown spec frames) (record { from = c; to = Some j; begin = begin; end = f })
    (record { source = left.known; target = known; begun = omega (arith, past, low); ordered = omega (arith, past); ended = low })

report_shown : (spec : Parts) (frames f : ℕ) (reading : Reading) (acts : List Act) → f < MAX_FRAMES → IsReadingShown spec f reading → Each (IsReportShown spec frames) (as_list (report_of spec reading f acts))
report_shown spec frames f (Steady c) acts low known = each_none (IsReportShown spec frames)
report_shown spec frames f (Leaving c begin) acts low left = arrival_shown spec frames f c begin (running spec acts) low left (running_known spec acts)

ended_shown : (spec : Parts) (frames f : ℕ) (reading : Reading) (rows : List Row) → f + length rows ≤ MAX_FRAMES → IsReadingShown spec f reading → Each (IsReportShown spec frames) (ended_in spec reading f rows)
ended_shown spec frames f reading [] few known = each_none (IsReportShown spec frames)
ended_shown spec frames f reading (row ∷ rows) few known =
    each_append (IsReportShown spec frames) (as_list (report_of spec reading f row.acts)) (ended_in spec (read_row spec reading f row.acts) (suc f) rows)
    (report_shown spec frames f reading row.acts (omega (arith, few)) known)
    (ended_shown spec frames (suc f) (read_row spec reading f row.acts) rows (omega (arith, few)) (read_shown spec f reading row.acts known))

after_shown : (spec : Parts) (f : ℕ) (reading : Reading) (rows : List Row) → IsReadingShown spec f reading → IsReadingShown spec (f + length rows) (reading_after spec reading f rows)
after_shown spec f reading [] known = let e : f + 0 ≡ f = omega arith in rw e known
after_shown spec f reading (row ∷ rows) known =
    let e : suc f + length rows ≡ f + suc (length rows) = omega arith in
    subst (λ (n : ℕ). IsReadingShown spec n (reading_after spec (read_row spec reading f row.acts) (suc f) rows)) e
    (after_shown spec (suc f) (read_row spec reading f row.acts) rows (read_shown spec f reading row.acts known))

close_shown : (spec : Parts) (frames : ℕ) (reading : Reading) → frames ≤ MAX_FRAMES → IsReadingShown spec frames reading → Each (IsReportShown spec frames) (as_list (close reading frames))
close_shown spec frames (Steady c) few known = each_none (IsReportShown spec frames)
close_shown spec frames (Leaving c begin) few left =
    let past = left.past in
    each_one (IsReportShown spec frames) (record { from = c; to = None; begin = begin; end = frames })
    (record { source = left.known; target = tt; begun = omega (arith, past, few); ordered = omega (arith, past); ended = refl })

pub reports_shown : (spec : Parts) (rows : List Row) → IsSpec spec → length rows ≤ MAX_FRAMES → Each (IsReportShown spec (length rows)) (reports spec rows)
reports_shown spec rows sound few =
    each_append (IsReportShown spec (length rows)) (ended_in spec (Steady spec.start) 0 rows) (as_list (close (reading_after spec (Steady spec.start) 0 rows) (length rows)))
    (ended_shown spec (length rows) 0 (Steady spec.start) rows (omega (arith, few)) sound.start)
    (close_shown spec (length rows) (reading_after spec (Steady spec.start) 0 rows) few
    (let e : 0 + length rows ≡ length rows = omega arith in subst (λ (n : ℕ). IsReadingShown spec n (reading_after spec (Steady spec.start) 0 rows)) e (after_shown spec 0 (Steady spec.start) rows sound.start)))

pub flight_shown : (spec : Parts) (script : ScriptParts) → IsSpec spec → Fits spec script → length (reports_of spec script) ≤ length (rows_of spec script) → IsFlight spec (rows_of spec script) (reports_of spec script)
flight_shown spec script sound fits few =
    let frames = fits.frames in
    let count = length_listed (row_at spec script) script.frames in
    record {
      frames = omega (arith, frames, count);
      rows_shown = rows_shown spec script sound fits;
      few = few;
      reports_shown = reports_shown spec (rows_of spec script) sound (omega (arith, frames, count));
    }

pub printed_missions_are_read : PrintedMissionsAreRead
printed_missions_are_read spec script sound fits =
    printed_is_read spec (rows_of spec script) (reports_of spec script) sound (flight_shown spec script sound fits (few_reports spec (rows_of spec script)))
