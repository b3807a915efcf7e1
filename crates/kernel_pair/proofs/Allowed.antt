-- Lemmas on a next event of a pair. The numbers of the event are bounded, and the list of events has space for it.
-- The events with the next event appended are a schedule again.
use Rattle.std.proofs.Common.{◌≡◌, ℕ, ◌+◌, ◌<◌, ◌≤◌, refl, ap, subst, arith, List, [], ◌∷◌, ◌++◌, length}
use Rattle.std.specs.Prelude.{Option, Some}
use Rattle.scram_types.specs.Scripts.{ScriptParts}
use Rattle.scram_types.specs.Specification.{IsSpec, Parts}
use Rattle.scram_types.specs.declared.ids.ProcId.{ProcId}
use Rattle.scram_types.specs.Lookups.{proc_id}
use Rattle.fault_script.specs.Fits.{Fits}
use Rattle.fail_stop.specs.Flights.{Flight}
use Rattle.fail_stop.specs.ScriptFlights.{flight_of}
use Rattle.fail_stop.proofs.ScriptBorder.{script_flies}
use Rattle.kernel_pair.specs.declared.events.UnitHalt.{UnitHalt}
use Rattle.kernel_pair.specs.declared.events.PairEvent.{PairEvent}
use Rattle.kernel_pair.specs.declared.events.PairEvent.TheVariants.{Note, Store, Release}
use Rattle.kernel_pair.specs.declared.states.PairState.{PairState}
use Rattle.kernel_pair.specs.Machines.{IsPairStep, PairKeeps, parts_of}
use Rattle.kernel_pair.specs.Pairs.{IsPairNext, IsPairReplay, IsPairSchedule, Pair, pair_after, next_unit, other_unit, frame_to_make}
use Rattle.kernel_pair.specs.States.{pair_of}
use Rattle.kernel_pair.specs.Kept.{IsUnit, PairKept}
use Rattle.kernel_pair.specs.Rooms.{pair_left}
use Rattle.kernel_pair.proofs.Fewer.{fewer}
use Rattle.kernel_pair.proofs.Keeping.{opens, schedule_keeps}
use Rattle.kernel_pair.proofs.Placing.{Read, read}
use Rattle.kernel_pair.proofs.Plans.{Goes, goes}

more : (m : Flight) (halt : Option UnitHalt) (s : Pair) (es : List PairEvent) (t : Pair) (e : PairEvent) → IsPairSchedule m halt s es t → IsPairNext m halt t e → IsPairSchedule m halt s (es ++ e ∷ []) (pair_after m halt t e)
more m halt s [] t e is next = (subst (λ (t : Pair). IsPairNext m halt t e) is next, ap (λ (t : Pair). pair_after m halt t e) is)
more m halt s (x ∷ es) t e is next = (is.0, more m halt (pair_after m halt s x) es t e is.1 next)

pub replay_more : (m : Flight) (halt : Option UnitHalt) (es : List PairEvent) (s t : Pair) (e : PairEvent) → IsPairReplay m halt es s → IsPairNext m halt s e → t ≡ pair_after m halt s e → IsPairReplay m halt (es ++ e ∷ []) t
replay_more m halt es s t e r next is = record { first = r.first; opening = r.opening; schedule = rw is (more m halt r.first es s e r.schedule next) }

pub kept_in : (spec : Parts) (script : ScriptParts) (halt : Option UnitHalt) (state : PairState) (events : List PairEvent) (room count : ℕ) → PairKeeps spec script halt state events room count → PairKept (flight_of spec script) halt (pair_of state)
kept_in spec script halt state events room count k =
    let r = k.replay in
    let y = script_flies spec script k.fits in
    schedule_keeps (flight_of spec script) halt r.first events (pair_of state) y (opens (flight_of spec script) halt r.first y r.opening) r.schedule

module _ (spec : Parts) (script : ScriptParts) (halt : Option UnitHalt) (s : Pair) (is : IsSpec spec) (fits : Fits spec script) (k : PairKept (flight_of spec script) halt s) where
  few : length spec.procs ≤ 8
  few = is.procs_count.few

  pub short : (u : ℕ) → u < 2 → (s.unit u).step < 255
  short u l = let x : IsUnit (flight_of spec script) halt u (s.unit u) = k.units u l in let a = x.steps in let b = few in omega (arith, a, b)

  goes_in : (u : ℕ) (e : PairEvent) → next_unit (flight_of spec script) halt s u ≡ Some e → Goes (flight_of spec script) halt u (s.unit u) (s.unit (other_unit u)).ready (λ p. (s.proc p).end) e
  goes_in u e i = goes (flight_of spec script) halt u (s.unit u) (s.unit (other_unit u)).ready (λ p. (s.proc p).end) e i

  pub note_small : (u : ℕ) (p : ProcId) → IsPairNext (flight_of spec script) halt s (Note u p) → p.0 < 8
  note_small u p i =
      let g : Goes (flight_of spec script) halt u (s.unit u) (s.unit (other_unit u)).ready (λ p. (s.proc p).end) (Note u p) = goes_in u (Note u p) i.1 in
      let same : p ≡ proc_id (s.unit u).step = g.at.1 in
      let number = ap (λ (q : ProcId). q.0) same in
      let low = g.at.0 in
      let b = few in
      omega (arith, number, low, b)

  pub store_small : (u i : ℕ) → IsPairNext (flight_of spec script) halt s (Store u i) → i < 20
  store_small u i n = let g : Goes (flight_of spec script) halt u (s.unit u) (s.unit (other_unit u)).ready (λ p. (s.proc p).end) (Store u i) = goes_in u (Store u i) n.1 in g.at.0

  pub release_small : (u : ℕ) → IsPairNext (flight_of spec script) halt s (Release u) → (s.unit u).frame + 1 < 4294967296
  release_small u i =
      let g : Goes (flight_of spec script) halt u (s.unit u) (s.unit (other_unit u)).ready (λ p. (s.proc p).end) (Release u) = goes_in u (Release u) i.1 in
      let b = g.at in
      let more = b.more in
      let most = fits.frames in
      omega (arith, more, most)

  pub fly_small : (p : ProcId) (u f : ℕ) → p.0 < length spec.procs → u < 2 → frame_to_make ((flight_of spec script).restart p.0) (s.proc p.0).place ≡ Some f → f < (s.unit u).release → (p.0 < 8) × (f + 1 < 4294967296)
  fly_small p u f lp lu e low =
      let r : Read (flight_of spec script) halt s (script_flies spec script fits) k u f = read (flight_of spec script) halt s (script_flies spec script fits) k p.0 u f lp lu e low in
      let x : IsUnit (flight_of spec script) halt u (s.unit u) = k.units u lu in
      let a = x.below r.some in
      let same = r.frame in
      let most = fits.frames in
      let b = few in
      (omega arith, omega (arith, a, same, most))

module _ (spec : Parts) (script : ScriptParts) (halt : Option UnitHalt) (state : PairState) (events : List PairEvent) (room count : ℕ) (k : PairKeeps spec script halt state events room count)
    (e : PairEvent) (next : IsPairNext (flight_of spec script) halt (pair_of state) e) where
  less : pair_left (flight_of spec script) halt (pair_after (flight_of spec script) halt (pair_of state) e) < pair_left (flight_of spec script) halt (pair_of state)
  less = fewer (flight_of spec script) halt (pair_of state) (script_flies spec script k.fits) (kept_in spec script halt state events room count k) e next

  pub has_room : count < room
  has_room = let a = less in omega (arith, a, k.room_left)

  pub step_keeps : (state2 : PairState) (events2 : List PairEvent) (room2 count2 : ℕ) → pair_of state2 ≡ pair_after (flight_of spec script) halt (pair_of state) e → events2 ≡ events ++ e ∷ [] → room2 ≡ room → count2 ≡ count + 1
      → PairKeeps spec script halt state2 events2 room2 count2
  step_keeps state2 events2 room2 count2 is more_is same one = record {
    facts = k.facts;
    fits = k.fits;
    replay = rw more_is (replay_more (flight_of spec script) halt events (pair_of state) (pair_of state2) e k.replay next is);
    room_left = let a = less in let b = ap (λ (s : Pair). pair_left (flight_of spec script) halt s) is in omega (arith, a, b, same, one, k.room_left);
  }

  -- A next event takes the pair to its state after the event.
  pub steps : (state2 : PairState) (events2 : List PairEvent) → pair_of state2 ≡ pair_after (flight_of spec script) halt (pair_of state) e → events2 ≡ events ++ e ∷ []
      → IsPairStep (parts_of spec script halt state events) e (parts_of spec script halt state2 events2)
  steps state2 events2 is more_is = record {
    spec = refl;
    script = refl;
    halt = refl;
    state = is;
    events = more_is;
    fewer = let a = less in let b = ap (λ (s : Pair). pair_left (flight_of spec script) halt s) is in omega (arith, a, b);
  }
