use Rattle.std.proofs.Common.{◌≡◌, ◌<◌, ℕ, length}
use Rattle.std.specs.Prelude.{slice_get, Some}
use Rattle.scram_types.specs.Lookups.{conf_id}
use Rattle.coverage_check.specs.Timing.{asked_bounds}
use Rattle.spec_forms.proofs.bound_pairs.find_asked.Given as goal

abbrev pub invariant-loop-i : goal.invariant-loop-i
invariant-loop-i l = record {
  width : length l.sets ≡ 12;
  found : (k set : ℕ) → k < l.i → slice_get l.sets k ≡ Some set → set ≡ asked_bounds l.spec (conf_id k);
}
