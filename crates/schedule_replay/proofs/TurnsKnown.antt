-- The specification has each event of the round-robin schedule.
use Rattle.std.proofs.Common.{ℕ, zero, suc, ◌≡◌, ◌<◌, ◌≤◌, ◌*◌, Bool, true, false, cond, List, [], ◌∷◌, ◌++◌, Option, Some, None, Result, Ok, Err, length, arith}
use Rattle.std.specs.Prelude.{IfOk, Vec, nat_lt}
use Rattle.scram_types.specs.declared.memory.NoMemory.{NoMemory}
use Rattle.scram_types.specs.Lookups.{proc_id}
use Rattle.scram_types.specs.Scripts.{ScriptParts}
use Rattle.scram_types.specs.Searches.{listed_below}
use Rattle.scram_types.specs.Specification.{Each, Parts}
use Rattle.scram_types.proofs.Options.{same_some}
use Rattle.bank_words.specs.declared.events.Event.{Event}
use Rattle.bank_words.specs.declared.events.Event.TheVariants.{Start, Look, Store, Flip, Done, Halt, KNote, KStore, Release}
use Rattle.fail_stop.specs.Flights.{stores_by}
use Rattle.fail_stop.specs.ScriptFlights.{flight_of}
use Rattle.schedule_replay.specs.Events.{HasEvent, HasEvents}
use Rattle.schedule_replay.specs.Turns.{ending, frames_in_turns, in_turns, releasing, steps_by, turn_of_kernel, turn_of_proc, turns_of_procs}

-- Lemmas that the specification has each event of two concatenated lists if it has each event of both, and that it
-- has each event of a turn.

each_append : {A : Type 0} (Fact : A → Type 0) (xs ys : List A) → Each Fact xs → Each Fact ys → Each Fact (xs ++ ys)
each_append Fact [] ys one two i y there = two i y there
each_append Fact (x ∷ xs) ys one two zero y there = one 0 y there
each_append Fact (x ∷ xs) ys one two (suc i) y there = each_append Fact xs ys (λ j z at. one (suc j) z at) two i y there

module _ (spec : Parts) (script : ScriptParts) where
  abbrev Have : List Event → Type 0
  Have events = Each (HasEvent spec) events

  pub none : Have []
  none i x there = absurd (let e = there in cc)

  pub with_one : (e : Event) (events : List Event) → HasEvent spec e → Have events → Have (e ∷ events)
  with_one e events has more zero x there = let same : e ≡ x = same_some e x there in rw (← same) has
  with_one e events has more (suc i) x there = more i x there

  joined : (xs ys : List Event) → Have xs → Have ys → Have (xs ++ ys)
  joined xs ys h k = each_append (HasEvent spec) xs ys h k

  listed : (value : ℕ → Event) (n : ℕ) → ((k : ℕ) → k < n → HasEvent spec (value k)) → Have (listed_below value n)
  listed value zero each = none
  listed value (suc n) each = joined (listed_below value n) (value n ∷ []) (listed value n (λ k low. each k (omega (arith, low)))) (with_one (value n) [] (each n (omega arith)) none)

  by : (b : Bool) (xs ys : List Event) → Have xs → Have ys → Have (cond b xs ys)
  by true xs ys h k = h
  by false xs ys h k = k

  few_stores : (width : ℕ) (halt : Option ℕ) → stores_by width halt ≤ width
  few_stores width None = omega arith
  few_stores width (Some s) = omega arith

  ended : (p : ℕ) (halt : Option ℕ) → p < length spec.procs → Have (ending (flight_of spec script) p halt)
  ended p None low = with_one (Flip (proc_id p)) (Done (proc_id p) ∷ []) low (with_one (Done (proc_id p)) [] low none)
  ended p (Some s) low =
      let halts : Have (Halt (proc_id p) ∷ []) = with_one (Halt (proc_id p)) [] low none in
      by (nat_lt (8 * length spec.apps) s) (Flip (proc_id p) ∷ Halt (proc_id p) ∷ []) (Halt (proc_id p) ∷ []) (with_one (Flip (proc_id p)) (Halt (proc_id p) ∷ []) low halts) halts

  steps : (p : ℕ) (halt : Option ℕ) → p < length spec.procs → Have (steps_by (flight_of spec script) p halt)
  steps p halt low =
      let few = few_stores (8 * length spec.apps) halt in
      with_one (Start (proc_id p)) _ low (joined (listed_below (λ (q : ℕ). Look (proc_id p) (proc_id q)) (length spec.procs)) _ (listed (λ (q : ℕ). Look (proc_id p) (proc_id q)) (length spec.procs) (λ q below. (low, below)))
      (joined (listed_below (λ (i : ℕ). Store (proc_id p) i) (stores_by (8 * length spec.apps) halt)) _ (listed (λ (i : ℕ). Store (proc_id p) i) (stores_by (8 * length spec.apps) halt) (λ i below. (low, omega (arith, below, few))))
      (ended p halt low)))

  turn_has : (p f : ℕ) → p < length spec.procs → Have (turn_of_proc (flight_of spec script) p f)
  turn_has p f low = by ((flight_of spec script).up p f) (steps_by (flight_of spec script) p ((flight_of spec script).halt p f)) [] (steps p ((flight_of spec script).halt p f) low) none

  procs_have : (f n : ℕ) → n ≤ length spec.procs → Have (turns_of_procs (flight_of spec script) f n)
  procs_have f zero low = none
  procs_have f (suc n) low = joined (turns_of_procs (flight_of spec script) f n) (turn_of_proc (flight_of spec script) n f) (procs_have f n (omega (arith, low))) (turn_has n f (omega (arith, low)))

  kernel_has : (f : ℕ) → Have (turn_of_kernel (flight_of spec script) f)
  kernel_has f = joined (listed_below (λ (p : ℕ). KNote (proc_id p)) (length spec.procs)) (releasing (flight_of spec script) f) (listed (λ (p : ℕ). KNote (proc_id p)) (length spec.procs) (λ p low. low))
      (by (nat_lt (suc f) script.frames) (listed_below KStore 20 ++ Release ∷ []) [] (joined (listed_below KStore 20) (Release ∷ []) (listed KStore 20 (λ i low. low)) (with_one Release [] tt none)) none)

  frames_have : (f : ℕ) → Have (frames_in_turns (flight_of spec script) f)
  frames_have zero = none
  frames_have (suc f) =
      joined (frames_in_turns (flight_of spec script) f) (turns_of_procs (flight_of spec script) f (length spec.procs) ++ turn_of_kernel (flight_of spec script) f) (frames_have f)
      (joined (turns_of_procs (flight_of spec script) f (length spec.procs)) (turn_of_kernel (flight_of spec script) f) (procs_have f (length spec.procs) (omega arith)) (kernel_has f))

  pub turns_known : HasEvents spec (in_turns spec script)
  turns_known = frames_have script.frames

pub turns_are_known : {A : Type 0} (spec : Parts) (script : ScriptParts) (result : Result (Vec Event A) NoMemory) → IfOk result (λ list. list.items ≡ in_turns spec script)
    → IfOk result (λ list. HasEvents spec list.items)
turns_are_known spec script (Ok list) is = rw is (turns_known spec script)
turns_are_known spec script (Err none) is = tt
