use Rattle.std.proofs.Common.{◌≡◌, ℕ, List, length}
use Rattle.std.specs.Prelude.{slice_get, Some}
use Rattle.scram_types.specs.Lookups.{conf_id}
use Rattle.cube_cover.specs.declared.shares.Share.{Share}
use Rattle.cube_cover.specs.Shares.{AreShares}
use Rattle.spec_forms.proofs.choice_forms.tables.find_shares.Given as goal

abbrev pub invariant-loop-i : goal.invariant-loop-i
invariant-loop-i l = record {
  width : length l.shares.items ≡ l.i;
  each : (k : ℕ) (found : List Share) → slice_get l.shares.items k ≡ Some found → AreShares l.spec (conf_id k) found;
}
