use Rattle.std.proofs.Common.{rules, ◌≡◌, ◌∙◌, ℕ, ap, length, subst, sym}
use Rattle.std.specs.Prelude.{None}
use Rattle.scram_types.specs.Specification.{Parts}
use Rattle.event_core.specs.Cores.{core_places, core_words, core_flight}
use Rattle.schedule_replay.specs.Replaying.{next_below}
use Rattle.schedule_replay.proofs.Pending.{over_without}
use Rattle.schedule_replay.proofs.replays.pending.Goals as goal

pub returns-in-None-clause-over : goal.returns-in-None-clause-over
returns-in-None-clause-over c = λ is.
    let core = c.args.core.now in
    let told : c.next_below.result ≡ None = search rules in
    let procs : c.count_procs.result ≡ length core.spec.procs = c.count_procs.ensures.value ∙ ap (λ (spec : Parts). length spec.procs) (sym c.requires.spec) in
    let none : next_below (core_flight core) (core_places core) (core_words core) (length core.spec.procs) ≡ None =
    subst (λ (n : ℕ). next_below (core_flight core) (core_places core) (core_words core) n ≡ None) procs (sym c.next_below.ensures ∙ told) in
    over_without (core_flight core) (core_places core) (core_words core) none (sym c.next_kernel.ensures ∙ is) c.goes_on.ensures
