use Rattle.std.proofs.Common.{◌≡◌, ℕ, length}
use Rattle.std.specs.Prelude.{nat_le, slice_get, Some}
use Rattle.scram_types.specs.declared.rows.Env.{Env}
use Rattle.cube_cover.specs.declared.shares.Share.{Share}
use Rattle.cube_cover.specs.Cubes.{IsInScope, holders, once}
use Rattle.cube_cover.specs.Shares.{IsShare, first_rule, is_ruled_by}
use Rattle.cube_cover.proofs.shares.shares_of.Given as goal

abbrev pub invariant-loop-rule : goal.invariant-loop-rule
invariant-loop-rule l = record {
  width : length l.shares.items ≡ l.rule-index;
  each : (k : ℕ) (share : Share) → slice_get l.shares.items k ≡ Some share → IsShare l.spec (is_ruled_by l.spec l.c k) share;
  rest : (v : Env) → IsInScope l.spec v → holders l.open.items v ≡ once (nat_le l.rule-index (first_rule l.spec.rules l.c v));
}
