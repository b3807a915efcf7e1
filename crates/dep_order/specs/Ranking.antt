-- Ranks of applications, found one after another.
use Rattle.std.specs.Prelude.{◌≡◌, ℕ, ◌+◌, ◌<◌, max, Bool, List, [], ◌∷◌, length, slice_get, Option, Some, None, is_none, option_and_then}
use Rattle.scram_types.specs.declared.ids.AppId.{AppId}
use Rattle.scram_types.specs.declared.specification.AppSpec.{AppSpec}

-- The rank found for application `a`, or `None` if none is found yet.
abbrev pub rank_in : List (Option ℕ) → ℕ → Option ℕ
rank_in ranks a = option_and_then (λ (rank : Option ℕ). rank) (slice_get ranks a)

-- Whether application `a` has no rank yet.
abbrev pub is_unranked : List (Option ℕ) → ℕ → Bool
is_unranked ranks a = is_none (rank_in ranks a)

-- The maximum of `least` and one more than each rank of the needed applications, or `None` if a needed application
-- has no rank.
abbrev pub ready : ℕ → List (Option ℕ) → List AppId → Option ℕ
ready least ranks [] = Some least
ready least ranks (needed ∷ needs) = option_and_then (λ (rank : ℕ). ready (max least (rank + 1)) ranks needs) (rank_in ranks needed.0)

-- Each rank found is the rank that the needs of its application determine.
abbrev pub IsSound : List AppSpec → List (Option ℕ) → Type 0
IsSound apps ranks = (a r : ℕ) (app : AppSpec) → slice_get apps a ≡ Some app → rank_in ranks a ≡ Some r → ready 0 ranks app.needs ≡ Some r

-- All ranks are below 8.
abbrev pub AreSmall : List (Option ℕ) → Type 0
AreSmall ranks = (a r : ℕ) → rank_in ranks a ≡ Some r → r < 8

-- Application `a` has no rank yet, and its needs determine rank `r`.
pub record IsReady (apps : List AppSpec) (ranks : List (Option ℕ)) (a r : ℕ) : Type 0 where
  pub app : AppSpec
  pub there : slice_get apps a ≡ Some app
  pub unranked : slice_get ranks a ≡ Some None
  pub rank : ready 0 ranks app.needs ≡ Some r

-- No rank can be determined next: each application without a rank needs an application without a rank.
abbrev pub IsStuck : List AppSpec → List (Option ℕ) → Type 0
IsStuck apps ranks = (a : ℕ) (app : AppSpec) → slice_get apps a ≡ Some app → rank_in ranks a ≡ None → ready 0 ranks app.needs ≡ None

-- Application `a` exists and has no rank.
pub record IsWaiting (apps : List AppSpec) (ranks : List (Option ℕ)) (a : ℕ) : Type 0 where
  pub there : a < length apps
  pub unranked : rank_in ranks a ≡ None
