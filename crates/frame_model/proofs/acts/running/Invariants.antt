use Rattle.std.proofs.Common.{◌≡◌, ◌-◌, length}
use Rattle.scram_types.specs.Lookups.{conf_id}
use Rattle.scram_types.specs.Searches.{least_from}
use Rattle.frame_model.specs.Runs.{runs}
use Rattle.frame_model.proofs.acts.running.Given as goal

abbrev pub invariant-loop-c : goal.invariant-loop-c
invariant-loop-c l =
    least_from (λ c. runs l.spec l.acts (conf_id c)) l.c (length l.spec.confs - l.c)
    ≡ least_from (λ c. runs l.spec l.acts (conf_id c)) 0 (length l.spec.confs)
