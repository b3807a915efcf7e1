use Rattle.std.proofs.Common.{◌≡◌, ◌<◌, ℕ, length}
use Rattle.std.specs.Prelude.{slice_get, Some}
use Rattle.scram_types.specs.Lookups.{conf_id}
use Rattle.cube_cover.specs.declared.answers.Cover.{Cover}
use Rattle.cube_cover.specs.Covers.{IsCover}
use Rattle.coverage_check.proofs.target_sets.find_covers.Given as goal

abbrev pub invariant-loop-i : goal.invariant-loop-i
invariant-loop-i l = record {
  width : length l.covers ≡ 12;
  found : (k : ℕ) (cover : Cover) → k < l.i → slice_get l.covers k ≡ Some cover → IsCover l.spec (conf_id k) cover;
}
