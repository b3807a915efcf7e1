-- Lemmas on blocks of consecutive environments, in which the same processors are down.
use Rattle.std.proofs.Common.{◌≡◌, ℕ, ◌+◌, ◌*◌, ◌<◌, ◌≤◌, ◌/◌, arith, ap, ◌∙◌, false, true}
use mathlib.Core.Logic.{inl, inr}
use Rattle.std.specs.Prelude.{max}
use Rattle.std.proofs.Math.Nat.{div-eq_of_lt-le, lt-div-mul-add}
use Rattle.std.proofs.lemmas.Nat.{mul-le}
use Rattle.scram_types.proofs.Naturals.{low_or_high}
use Rattle.scram_types.specs.Specification.{Parts}
use Rattle.choice_table.specs.Numbering.{IsNextInScope, combinations, environments, is_down_in_scope, is_number_in_scope}

pub in_block : (k d m : ℕ) → d * m ≤ k → k < (d + 1) * m → k / m ≡ d
in_block k d m low high = div-eq_of_lt-le m low high

pub low_in_block : (low d m : ℕ) → 0 < m → low / m ≤ d → low < (d + 1) * m
low_in_block low d m some h =
    let near = lt-div-mul-add {a = low} {b = m} some in
    let most = mul-le (low / m) m d m h (omega arith) in
    omega arith

module _ (spec : Parts) (low d : ℕ) where
  -- Suppose that no environment from number `low` to the start of the block of the set `d` is in scope. If the
  -- processors of `d` may not be down together, no environment from number `low` to the end of the block is in scope.
  pub pass_block : is_down_in_scope spec d ≡ false → ((k : ℕ) → low ≤ k → k < d * combinations spec.factors → is_number_in_scope spec k ≡ false)
      → (k : ℕ) → low ≤ k → k < (d + 1) * combinations spec.factors → is_number_in_scope spec k ≡ false
  pass_block out before k from below = elim (low_or_high k (d * combinations spec.factors)) [
    | inl less ↦ before k from less
    | inr more ↦ ap (is_down_in_scope spec) (in_block k d (combinations spec.factors) more below) ∙ out
  ]

  pub next_is : 0 < combinations spec.factors → low / combinations spec.factors ≤ d → (d + 1) * combinations spec.factors ≤ environments spec
      → is_down_in_scope spec d ≡ true → ((k : ℕ) → low ≤ k → k < d * combinations spec.factors → is_number_in_scope spec k ≡ false)
      → IsNextInScope spec low (max low (d * combinations spec.factors))
  next_is some near inside scope before =
      let below = low_in_block low d (combinations spec.factors) some near in
      record {
        from = omega arith;
        inside = omega arith;
        scope = ap (is_down_in_scope spec) (in_block (max low (d * combinations spec.factors)) d (combinations spec.factors) (omega arith) (omega arith)) ∙ scope;
        least = λ k from less. before k from (omega arith);
      }
