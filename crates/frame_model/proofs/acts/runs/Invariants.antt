use Rattle.std.proofs.Common.{◌≡◌, true}
use Rattle.scram_types.specs.Lookups.{place_of}
use Rattle.scram_types.specs.Searches.{all_below}
use Rattle.frame_model.specs.Runs.{act_at, is_run_by}
use Rattle.frame_model.proofs.acts.runs.Given as goal

abbrev pub invariant-loop-a : goal.invariant-loop-a
invariant-loop-a l = all_below (λ a. is_run_by (place_of l.spec l.c a) (act_at l.acts a)) l.a ≡ true
