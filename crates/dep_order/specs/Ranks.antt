-- The needs of applications, their ranks, and cycles of needs.
use Rattle.std.specs.Prelude.{◌≡◌, ◌≢◌, ℕ, suc, ◌<◌, ◌≤◌, max, List, [], ◌∷◌, length, slice_get, slice_index, AllPairs, All, Some}
use Rattle.scram_types.specs.declared.ids.AppId.{AppId}
use Rattle.scram_types.specs.declared.specification.AppSpec.{AppSpec}
use Rattle.scram_types.specs.Specification.{Each}

-- One more than the maximum rank of the needed applications, or 0 if there are none.
abbrev pub rank_after : List ℕ → List AppId → ℕ
rank_after ranks [] = 0
rank_after ranks (needed ∷ needs) = max (suc (slice_index ranks needed.0)) (rank_after ranks needs)

-- Each application has the rank that its needs determine.
pub record IsRanking (apps : List AppSpec) (ranks : List ℕ) : Type 0 where
  pub count : length ranks ≡ length apps
  pub ranked : (a : ℕ) (app : AppSpec) → slice_get apps a ≡ Some app → slice_get ranks a ≡ Some (rank_after ranks app.needs)

-- Each application has a higher rank than each application that it needs.
abbrev pub RanksFall : List AppSpec → List ℕ → Type 0
RanksFall apps ranks = (a k : ℕ) (app : AppSpec) (needed : AppId) → slice_get apps a ≡ Some app → slice_get app.needs k ≡ Some needed
    → slice_index ranks needed.0 < slice_index ranks a

-- The needs of each application name applications that exist.
abbrev pub NeedsInRange : List AppSpec → Type 0
NeedsInRange apps = Each (λ (app : AppSpec). Each (λ (needed : AppId). needed.0 < length apps) app.needs) apps

-- Application `a` lists `b` among its needs.
pub record Needs (apps : List AppSpec) (a b : AppId) : Type 0 where
  pub app : AppSpec
  pub there : slice_get apps a.0 ≡ Some app
  pub place : ℕ
  pub named : slice_get app.needs place ≡ Some b

-- Each application of a list needs the next one, and the last one needs `end`. The empty list satisfies this.
abbrev pub NeedsInTurn : List AppSpec → List AppId → AppId → Type 0
NeedsInTurn apps [] end = Unit {0}
NeedsInTurn apps (a ∷ []) end = Needs apps a end
NeedsInTurn apps (a ∷ b ∷ rest) end = Needs apps a b × NeedsInTurn apps (b ∷ rest) end

-- A list is one round of a cycle of needs: each application needs the next, the last needs the first, no application
-- occurs twice, and the lowest-numbered application is first.
pub record IsCycle (apps : List AppSpec) (cycle : List AppId) : Type 0 where
  pub first : AppId
  pub others : List AppId
  pub is : cycle ≡ first ∷ others
  pub closed : NeedsInTurn apps cycle first
  pub differ : AllPairs (λ (a b : AppId). a.0 ≢ b.0) cycle
  pub least : All (λ (a : AppId). first.0 ≤ a.0) cycle

-- If the applications have ranks that their needs determine, the needs have no cycle.
abbrev pub RankingExcludesCycles : Type 0
RankingExcludesCycles = (apps : List AppSpec) (ranks : List ℕ) (cycle : List AppId) → IsRanking apps ranks → IsCycle apps cycle → ⊥
