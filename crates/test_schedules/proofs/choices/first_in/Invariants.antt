use Rattle.std.proofs.Common.{◌≡◌, ◌<◌, ◌≤◌, ◌-◌, ℕ}
use Rattle.std.specs.Prelude.{None}
use Rattle.event_core.specs.Cores.{core_places, core_words, core_flight}
use Rattle.test_schedules.specs.Choices.{first_in, next_in_order}
use Rattle.test_schedules.proofs.choices.first_in.Given as goal

abbrev pub invariant-loop-place : goal.invariant-loop-place
invariant-loop-place l = record {
  none : (place : ℕ) → l.begin ≤ place → place < l.place → next_in_order (core_flight l.core) (core_places l.core) (core_words l.core) l.backwards place ≡ None;
  same : first_in (next_in_order (core_flight l.core) (core_places l.core) (core_words l.core) l.backwards) l.place (l.end - l.place)
      ≡ first_in (next_in_order (core_flight l.core) (core_places l.core) (core_words l.core) l.backwards) l.begin (l.end - l.begin);
}
