-- The greatest bound that is given from a configuration is at least each bound that is given.
use Rattle.std.proofs.Common.{◌≡◌, ℕ, ◌≤◌, true, refl, arith, List, [], ◌∷◌}
use Rattle.std.specs.Prelude.{Option, Some, None, nat_lt, ◌&&◌, ◌==◌, if◌then◌else◌}
use Rattle.scram_types.specs.declared.specification.Bound.{Bound}
use Rattle.scram_types.specs.Specification.{bound_in, greater_of, greatest_bound_from, greatest_bound_in}
use Rattle.scram_types.proofs.Booleans.{and_left}
use Rattle.scram_types.proofs.Naturals.{below, not_below}
use Rattle.trace_props.proofs.Tests.{by_test}

-- The greatest bound exists and is at least `t`.
pub record IsAtLeast (greatest : Option ℕ) (t : ℕ) : Type 0 where
  pub bound : ℕ
  pub is : greatest ≡ Some bound
  pub enough : t ≤ bound

greater_old : (most frames : ℕ) → most ≤ greater_of (Some most) frames
greater_old most frames = by_test (λ n. most ≤ n) (nat_lt most frames) _ _ (λ e. let less = below most frames e in omega arith) (λ e. omega arith)

greater_new : (greatest : Option ℕ) (frames : ℕ) → frames ≤ greater_of greatest frames
greater_new None frames = omega arith
greater_new (Some most) frames = by_test (λ n. frames ≤ n) (nat_lt most frames) _ _ (λ e. omega arith) (λ e. not_below most frames e)

-- If the greatest bound so far is at least `t`, then the greatest of all bounds is at least `t`.
at_least : (most t i : ℕ) (bounds : List Bound) → t ≤ most → IsAtLeast (greatest_bound_from (Some most) bounds i) t
at_least most t i [] enough = record { bound = most; is = refl; enough = enough }
at_least most t i (bound ∷ bounds) enough =
    by_test (λ o. IsAtLeast (greatest_bound_from o bounds i) t) (bound.from.0 == i) (Some (greater_of (Some most) bound.frames)) (Some most)
    (λ e. let old = greater_old most bound.frames in at_least (greater_of (Some most) bound.frames) t i bounds (omega arith))
    (λ e. at_least most t i bounds enough)

given_from : (greatest : Option ℕ) (i j t : ℕ) (bounds : List Bound) → bound_in bounds i j ≡ Some t → IsAtLeast (greatest_bound_from greatest bounds i) t
given_from greatest i j t [] given = cc
given_from greatest i j t (bound ∷ bounds) given =
    by_test (λ o. o ≡ Some t → IsAtLeast (greatest_bound_from (if bound.from.0 == i then Some (greater_of greatest bound.frames) else greatest) bounds i) t)
    (bound.from.0 == i && bound.to.0 == j) (Some bound.frames) (bound_in bounds i j)
    (λ e is.
    let same : bound.frames ≡ t = cc in
    let new = greater_new greatest bound.frames in
    let from : (bound.from.0 == i) ≡ true = and_left (bound.from.0 == i) _ e in
    rw from (at_least (greater_of greatest bound.frames) t i bounds (omega arith)))
    (λ e is. given_from (if bound.from.0 == i then Some (greater_of greatest bound.frames) else greatest) i j t bounds is) given

pub given_most : (bounds : List Bound) (i j t : ℕ) → bound_in bounds i j ≡ Some t → IsAtLeast (greatest_bound_in bounds i) t
given_most bounds i j t given = given_from None i j t bounds given
