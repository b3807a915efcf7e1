-- Each state that satisfies the invariant `PairKept` satisfies `PairHolds`.
use Rattle.std.proofs.Common.{ap, ◌∙◌, ℕ, suc, ◌<◌, List, length}
use Rattle.std.specs.Prelude.{Option}
use Rattle.scram_types.specs.declared.ids.ProcId.{ProcId}
use Rattle.scram_types.specs.Scripts.{ScriptParts}
use Rattle.scram_types.specs.Specification.{IsSpec, Parts}
use Rattle.fault_script.specs.Fits.{Fits}
use Rattle.fail_stop.specs.Flights.{word_in}
use Rattle.fail_stop.specs.ScriptFlights.{flight_of}
use Rattle.fail_stop.proofs.ScriptBorder.{images_same, marks_same, restarts_within, script_flies, sides_same}
use Rattle.kernel_pair.specs.declared.events.UnitHalt.{UnitHalt}
use Rattle.kernel_pair.specs.declared.events.PairEvent.TheVariants.{Fly}
use Rattle.kernel_pair.specs.Kept.{IsUnit, PairKept}
use Rattle.kernel_pair.specs.Laws.{FindsBy, HasNoted, PairHolds}
use Rattle.kernel_pair.specs.Pairs.{IsPairNext, Pair}
use Rattle.kernel_pair.proofs.Facts.{both_noted}
use Rattle.kernel_pair.proofs.Placing.{Read, read}
use Rattle.kernel_pair.proofs.Progress.{one_stays, over_noted, progress}

module _ (spec : Parts) (script : ScriptParts) (fits : Fits spec script) (halt : Option UnitHalt) (s : Pair) (kept : PairKept (flight_of spec script) halt s) where
  -- A processor that may make a frame finds the words of the one-thread trace.
  find : (p : ProcId) (u : ℕ) → (next : IsPairNext (flight_of spec script) halt s (Fly p u)) → FindsBy spec script s u next.2.0
  find p u next =
      let r : Read (flight_of spec script) halt s (script_flies spec script fits) kept u next.2.0 =
      read (flight_of spec script) halt s (script_flies spec script fits) kept p.0 u next.2.0 next.0 next.1 next.2.1 next.2.2 in record {
        kernel = r.kernel;
        picked = λ q l. r.picked q l ∙ sides_same spec script fits q next.2.0;
        held = λ q i l h. rw (← sides_same spec script fits q next.2.0) (r.held q i l h) ∙ ap (λ (image : List ℕ). word_in image i) (images_same spec script fits q next.2.0);
      }

  unit_noted : (u p : ℕ) → u < 2 → p < length spec.procs → p < (s.unit u).step → HasNoted spec script (s.unit u) p
  unit_noted u p lu lp noted =
      let x : IsUnit (flight_of spec script) halt u (s.unit u) = kept.units u lu in record {
        mark = x.marks p lp noted ∙ marks_same spec script fits p (suc (s.unit u).frame);
        image = λ i l. x.images p i lp noted l ∙ ap (λ (image : List ℕ). word_in image i) (images_same spec script fits p (suc (s.unit u).frame));
      }

  pub holds : IsSpec spec → PairHolds spec script halt s
  holds facts = record {
    both_noted = both_noted (flight_of spec script) halt s (script_flies spec script fits) kept;
    found = find;
    noted = unit_noted;
    one_stays = record {
      stays = one_stays (flight_of spec script) halt s kept;
      noted_all = over_noted (flight_of spec script) halt s facts.procs_count.enough kept;
    };
    goes_on = progress (flight_of spec script) halt s (script_flies spec script fits) (restarts_within spec script fits) kept;
  }
