-- Lemmas on the trace that a flight returns, and on the seats of the kernel and the processors before and after a
-- flight.
use Rattle.std.proofs.Common.{◌≡◌, ◌∙◌, ◌<◌, ◌≤◌, ap, arith, sym, subst, List, length}
use Rattle.std.specs.Prelude.{Some}
use Rattle.std.proofs.lemmas.Option.{slice_get_within}
use Rattle.fail_stop.specs.Events.{Place}
use Rattle.scram_types.specs.declared.rows.Report.{Report}
use Rattle.scram_types.specs.declared.rows.Row.{Row}
use Rattle.scram_types.specs.Scripts.{ScriptParts}
use Rattle.scram_types.specs.Specification.{IsSpec, Parts}
use Rattle.coverage_check.specs.Missions.{IsMission, MissionParts, mission_of}
use Rattle.frame_model.specs.Flights.{reports_of, rows_of}
use Rattle.trace_props.specs.Missions.{ReconfigurationsAreAssured}
use Rattle.trace_props.specs.Properties.{HoldsAll}
use Rattle.trace_props.proofs.Sizes.{few_reports}
use Rattle.word_table.specs.declared.seats.KSeat.{KSeat}
use Rattle.word_table.specs.declared.seats.Seat.{Seat}
use Rattle.word_table.specs.declared.tables.WordTable.{WordTable}
use Rattle.word_table.specs.Actors.{IsInFlight, mission_flight}
use Rattle.word_table.specs.Keeping.{IsFlown}
use Rattle.word_table.specs.Tables.{AreOpening, AreSeatsOf, IsKernelSeatOf, IsSeatOf, mission_in, proc_of}
use Rattle.word_deck.specs.Flights.{AreAtTable, AreLanded, AreOpen, IsAtTable}

-- Lemmas on the trace.

pub few_told : (spec : Parts) (script : ScriptParts) (rows : List Row) (told : List Report) → rows ≡ rows_of spec script → told ≡ reports_of spec script → length told ≤ length rows
few_told spec script rows told r t = rw (r, t) (few_reports spec (rows_of spec script))

pub all_hold : (spec : Parts) (script : ScriptParts) (rows : List Row) (told : List Report) → ReconfigurationsAreAssured → IsSpec spec → IsMission (mission_of spec script)
    → rows ≡ rows_of spec script → told ≡ reports_of spec script → HoldsAll spec rows told
all_hold spec script rows told assured facts is r t = rw (r, t) (assured spec script facts is)

-- If two values of `WordTable` have the same words, a kernel's seat at one of them is also a kernel's seat at the
-- other.
pub kernel_flown : (old new : WordTable) (kseat : KSeat) (mission : MissionParts) → new.table ≡ old.table → IsAtTable old kseat → mission_in old ≡ mission
    → IsSpec mission.spec → IsMission mission → IsKernelSeatOf new kseat
kernel_flown old new kseat mission same at of facts is =
    let key : mission_in old ≡ mission_in new = ap (λ t. t.shared.key) (sym same) in
    record {
      holds = subst IsFlown (sym of ∙ key) record { facts = facts; fits = is.fits };
      table = at.0 ∙ ap (λ t. t.shared.table_id) (sym same);
      mission = at.1 ∙ ap (λ (k : MissionParts). Some k) key;
    }

-- Lemmas on the seats of the processors.

pub at_table : (words : WordTable) (seats : List Seat) → AreSeatsOf words seats → AreOpening seats → AreAtTable words seats
at_table words seats are opening = λ p seat there. let is = are.each p seat there in (is.0.table, is.0.mission, is.1, opening p seat there)

pub open_flown : (old new : WordTable) (seats : List Seat) (mission : MissionParts) → new.table ≡ old.table → AreAtTable old seats → length seats ≡ length mission.spec.procs → mission_in old ≡ mission
    → IsSpec mission.spec → IsMission mission → AreOpen new seats
open_flown old new seats mission same at count of facts is = λ p seat there.
    let key : mission_in old ≡ mission_in new = ap (λ t. t.shared.key) (sym same) in
    let here = at p seat there in
    let number = here.2 in
    let inside : p < length seats = slice_get_within seats p seat there in
    let known : proc_of seat < length mission.spec.procs = omega (arith, number, inside, count) in
    let seated : IsSeatOf new seat = record {
      holds = subst IsFlown (sym of ∙ key) record { facts = facts; fits = is.fits };
      table = here.0 ∙ ap (λ t. t.shared.table_id) (sym same);
      mission = here.1 ∙ ap (λ (k : MissionParts). Some k) key;
      proc = subst (λ (k : MissionParts). proc_of seat < length k.spec.procs) (sym of ∙ key) known;
      in_flight = subst (λ (place : Place). IsInFlight (mission_flight (mission_in new)) place) (sym here.3) (omega arith, λ none. absurd (omega (arith, none)));
    } in
    (seated, here.2, here.3)

pub landed_seats : (words : WordTable) (seats : List Seat) → AreLanded words seats → length seats ≡ length (mission_in words).spec.procs → AreSeatsOf words seats
landed_seats words seats are count = record { count = count; each = λ p seat there. ((are p seat there).seated, (are p seat there).proc) }
