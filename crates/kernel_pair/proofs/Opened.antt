-- A state in which each actor is at the opening is an opening. A pair in such a state, with no event and enough room,
-- satisfies `PairKeeps`.
use Rattle.std.proofs.Common.{◌≡◌, ◌∙◌, ℕ, zero, suc, ◌+◌, ◌*◌, ◌<◌, ◌≤◌, refl, ap, arith, List, [], length}
use Rattle.std.specs.Prelude.{Option, nat_eq, slice_index_or, if◌then◌else◌}
use Rattle.scram_types.specs.Scripts.{ScriptParts}
use Rattle.scram_types.specs.Specification.{IsSpec, Parts}
use Rattle.fault_script.specs.Fits.{Fits}
use Rattle.fault_script.specs.Times.{words as width_of}
use Rattle.fail_stop.specs.Flights.{word_in}
use Rattle.fail_stop.specs.Laws.{IsOpening}
use Rattle.fail_stop.specs.ScriptFlights.{flight_of, image_words_after, kernel_words}
use Rattle.kernel_pair.specs.declared.events.PairEvent.{PairEvent}
use Rattle.kernel_pair.specs.declared.events.UnitHalt.{UnitHalt}
use Rattle.kernel_pair.specs.declared.processors.ProcessorState.{ProcessorState}
use Rattle.kernel_pair.specs.declared.states.PairState.{PairState}
use Rattle.kernel_pair.specs.declared.units.UnitState.{UnitState}
use Rattle.kernel_pair.specs.Machines.{PairKeeps}
use Rattle.kernel_pair.specs.Openings.{IsProcessorOpened, IsUnitOpened}
use Rattle.kernel_pair.specs.Pairs.{IsFirstProcessor, IsFirstUnit, IsPairOpening}
use Rattle.kernel_pair.specs.States.{blank_processor, blank_unit, pair_of, stand_place, processor_of, unit_of}
use Rattle.kernel_pair.proofs.Room.{most_left}

module _ (spec : Parts) (script : ScriptParts) (facts : IsSpec spec) (list : List ℕ) (opening : IsOpening spec script list) where
  first_processor : (p : ℕ) (x : ProcessorState) → p < length spec.procs → IsProcessorOpened list p x → IsFirstProcessor (flight_of spec script) p (processor_of x)
  first_processor p x low o = record {
    place = ap stand_place o.stand;
    mark = o.mark;
    end = o.end;
    bank = λ b i. by_bank b i;
  }
    where
      small : (i : ℕ) → i < width_of spec → i < 64
      small i l = let narrow = facts.apps_count.few in omega (arith, l, narrow)

      by_bank : (b i : ℕ) → b < 2 → i < width_of spec → slice_index_or (slice_index_or x.banks b []) i 0 ≡ (if nat_eq b 0 then word_in (image_words_after spec script p 0) i else 0)
      by_bank zero i l n = o.bank 0 i l (small i n) ∙ opening.image p i low n
      by_bank (suc zero) i l n = o.bank 1 i l (small i n) ∙ opening.empty p i low n
      by_bank (suc (suc b)) i l n = absurd (omega arith)

  first_unit : (first : List ℕ) (x : UnitState) → first ≡ kernel_words spec script 0 → IsUnitOpened script.frames first x → IsFirstUnit (flight_of spec script) (unit_of x)
  first_unit first x is o = record {
    frame = o.frame;
    step = o.step;
    stopped = o.stopped;
    release = o.release;
    ready = o.ready;
    kernel = λ i l. ap (λ (words : List ℕ). slice_index_or words i 0) (o.words ∙ is);
  }

  pub opening_by : (first : List ℕ) (state : PairState) → first ≡ kernel_words spec script 0
      → ((p : ℕ) → p < 8 → IsProcessorOpened list p (slice_index_or state.procs p blank_processor))
      → ((u : ℕ) → u < 2 → IsUnitOpened script.frames first (slice_index_or state.units u blank_unit))
      → IsPairOpening (flight_of spec script) (pair_of state)
  opening_by first state is procs units = record {
    processors = λ p l. let few = facts.procs_count.few in first_processor p (slice_index_or state.procs p blank_processor) l (procs p (omega (arith, l, few)));
    units = λ u l. first_unit first (slice_index_or state.units u blank_unit) is (units u l);
  }

-- A pair at its opening satisfies `PairKeeps` if its list has room for every event.
pub open_keeps : (spec : Parts) (script : ScriptParts) (halt : Option UnitHalt) (state : PairState) (events : List PairEvent) (room count : ℕ) → IsSpec spec → Fits spec script
    → IsPairOpening (flight_of spec script) (pair_of state) → events ≡ [] → script.frames * (3 * length spec.procs + 46) + 1 ≤ room → count ≡ 0 → PairKeeps spec script halt state events room count
open_keeps spec script halt state events room count facts fits opening none enough count_is = record {
  facts = facts;
  fits = fits;
  replay = record { first = pair_of state; opening = opening; schedule = rw none refl };
  room_left = let most = most_left (flight_of spec script) halt (pair_of state) in omega (arith, most, enough, count_is);
}
