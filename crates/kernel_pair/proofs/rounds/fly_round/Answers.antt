use Rattle.std.proofs.Common.{rules, ◌≡◌, ◌<◌, ◌+◌, ℕ, subst}
use Rattle.scram_types.specs.declared.ids.ProcId.{ProcId}
use Rattle.scram_types.specs.Lookups.{proc_id}
use Rattle.kernel_pair.specs.declared.events.PairEvent.TheVariants.{Fly}
use Rattle.kernel_pair.specs.Machines.{PairParts, pair_flight, pair_in}
use Rattle.kernel_pair.specs.Pairs.{IsPairNext}
use Rattle.kernel_pair.specs.Rounds.{IsFlownOn}
use Rattle.kernel_pair.proofs.FlownOn.{below_more, on_and_on, round_fewer, round_on}
use Rattle.kernel_pair.proofs.rounds.fly_round.Goals as goal

pub loop-p-preserved : goal.loop-p-preserved
loop-p-preserved g c =
    let k = c.args.core.now in
    let at = c.loop-p in
    on_and_on k at.core c.fly_processor.new.core
    ((q : ProcId) (u : ℕ) → q.0 < at.p → u < 2 → IsPairNext (pair_flight k) k.halt (pair_in k) (Fly q u) → ⊥)
    (λ (v : PairParts). (u : ℕ) → u < 2 → IsPairNext (pair_flight v) v.halt (pair_in v) (Fly (proc_id at.p) u) → ⊥)
    (λ (v : PairParts). (q : ProcId) (u : ℕ) → q.0 < at.p + 1 → u < 2 → IsPairNext (pair_flight v) v.halt (pair_in v) (Fly q u) → ⊥)
    at.invariant c.fly_processor.ensures (below_more k at.p)

pub returns-clause-fewer : goal.returns-clause-fewer
returns-clause-fewer g c =
    let k = c.args.core.now in
    let at = c.loop-p in
    let at_end : at.p ≡ 8 = search rules in
    let all = subst (λ (n : ℕ). IsFlownOn k at.core ((q : ProcId) (u : ℕ) → q.0 < n → u < 2 → IsPairNext (pair_flight k) k.halt (pair_in k) (Fly q u) → ⊥)) at_end at.invariant in
    round_fewer k c.run_unit-2.new.core c.holds.ensures.facts.procs_count.few c.holds.ensures.holds.goes_on c.requires (round_on k at.core c.run_unit.new.core c.run_unit-2.new.core all c.run_unit.ensures c.run_unit-2.ensures)
