-- The opening of a pair satisfies the invariant `PairKept`. A schedule from a state that satisfies the invariant
-- leads only to states that satisfy the invariant.
use Rattle.std.proofs.Common.{◌≡◌, ℕ, refl, sym, ◌∙◌, arith, List, [], ◌∷◌}
use Rattle.std.specs.Prelude.{Option}
use Rattle.fail_stop.specs.Flights.{Flight, Flies, last_commit, side, end_before, bank_before}
use Rattle.fail_stop.specs.Events.{At, Place}
use Rattle.fail_stop.proofs.KernelEvents.{kernel_zero}
use Rattle.fail_stop.proofs.ProcessorEvents.{unflipped, bank_begin, made_none}
use Rattle.kernel_pair.specs.declared.events.UnitHalt.{UnitHalt}
use Rattle.kernel_pair.specs.declared.events.PairEvent.{PairEvent}
use Rattle.kernel_pair.specs.Pairs.{Processor, IsFirstProcessor, IsFirstUnit, IsPairOpening, IsPairSchedule, KernelUnit, Pair, pair_after}
use Rattle.kernel_pair.specs.Kept.{IsProcessor, IsUnit, PairKept, NotBelow, frames_past}
use Rattle.kernel_pair.proofs.Placing.{meetings_low, readies_low}
use Rattle.kernel_pair.proofs.Steps.{keeps}

processor_opens : (m : Flight) (p : ℕ) (x : Processor) → Flies m → IsFirstProcessor m p x → IsProcessor m p x
unfolding last_commit side end_before bank_before
processor_opens m p x y o = record {
  place = rw o.place (record { fresh = refl; within = omega arith; up = y.first p; done = refl });
  mark = rw o.place (o.mark ∙ sym (unflipped m p 0 0 (omega arith)));
  end = rw o.place o.end;
  bank = λ b i l h. rw o.place (o.bank b i l h ∙ sym (bank_begin m p 0 0 b i (made_none m 0 (omega arith))));
}

unit_opens : (m : Flight) (halt : Option UnitHalt) (u : ℕ) (x : KernelUnit) → IsFirstUnit m x → IsUnit m halt u x
unit_opens m halt u x o = let step = o.step in record {
  below = λ l. rw o.frame l;
  still = λ e. (o.frame, o.step);
  steps = omega arith;
  ending = λ g. absurd (omega arith);
  release = rw o.frame o.release;
  ready = rw (o.stopped, o.frame, o.step, readies_low m 0 0 (omega arith)) o.ready;
  kernel = λ i l. rw (o.frame, o.step) (o.kernel i l ∙ sym (kernel_zero m 0 0 i (omega arith)));
  stops = λ t e. let none = o.stopped in cc;
  marks = λ p l g. absurd (omega arith);
  images = λ p i l g h. absurd (omega arith);
}

none_ahead : (f : ℕ) (p : ℕ) (k j : ℕ) → k ≡ 0 → j ≡ 0 → NotBelow k j p f
none_ahead f p k j a b = (omega arith, λ g. absurd (omega arith))

past_none : (place : Place) → place ≡ At 0 0 → frames_past place ≡ 0
past_none place e = rw e refl

pub opens : (m : Flight) (halt : Option UnitHalt) (s : Pair) → Flies m → IsPairOpening m s → PairKept m halt s
opens m halt s y o = record {
  units = λ u l. unit_opens m halt u (s.unit u) (o.units u l);
  processors = λ p l. processor_opens m p (s.proc p) y (o.processors p l);
  ahead = λ u p lu lp f e. let x : IsFirstUnit m (s.unit u) = o.units u lu in none_ahead f p (s.unit u).frame (s.unit u).step x.frame x.step;
  reached = λ p l. let x : IsFirstProcessor m p (s.proc p) = o.processors p l in let a = past_none (s.proc p).place x.place in record { unit = 0; there = omega arith; high = omega arith };
  met = λ u l n. let x : IsFirstUnit m (s.unit u) = o.units u l in rw (x.frame, x.step, meetings_low m 0 0 (omega arith)) (omega arith);
}

pub schedule_keeps : (m : Flight) (halt : Option UnitHalt) (s : Pair) (es : List PairEvent) (t : Pair) → Flies m → PairKept m halt s → IsPairSchedule m halt s es t → PairKept m halt t
schedule_keeps m halt s [] t y k i = rw i k
schedule_keeps m halt s (e ∷ es) t y k i = schedule_keeps m halt (pair_after m halt s e) es t y (keeps m halt s y k e i.0) i.1
