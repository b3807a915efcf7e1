-- Plans: the choices in each environment, and the lengths of phases.
use Rattle.std.specs.Prelude.{◌≡◌, ℕ, suc, ◌+◌, ◌*◌, ◌<◌, ◌≤◌, ◌⊎◌, ◌≢◌, Bool, true, false, Option, Some, None, if◌then◌else◌}
use Rattle.scram_types.specs.declared.rows.Env.{Env}

pub record Plan : Type 0 where
  pub configurations : ℕ
  pub start : ℕ
  pub opening : Env
  pub settles : Bool
  pub changes : ℕ
  pub window : ℕ
  pub slowest : ℕ
  pub halting : ℕ → ℕ
  pub preparing : ℕ → ℕ
  pub initialising : ℕ → ℕ
  pub choose : ℕ → Env → ℕ
  pub is_runnable : ℕ → Env → Bool
  pub in_scope : Env → Bool
  pub differ : Env → Env → Bool
  pub bound : ℕ → ℕ → Option ℕ

-- The number of further changes that a reconfiguration may see.
abbrev pub plan_further : Plan → ℕ
plan_further plan = if plan.settles then suc plan.changes else plan.changes

-- The length of the halting phase of a configuration, or 0 if there is no configuration.
abbrev pub plan_halting : Plan → Option ℕ → ℕ
plan_halting plan None = 0
plan_halting plan (Some c) = plan.halting c

-- The smallest bound that suffices for a reconfiguration from `i` to `j`.
abbrev pub plan_least_bound : Plan → ℕ → ℕ → ℕ
plan_least_bound plan i j = 1 + plan.halting i + plan_further plan * plan.slowest + plan.preparing j + plan.initialising j

-- Configuration `j` is chosen from `i` in some environment in scope.
pub record IsPlanTarget (plan : Plan) (i j : ℕ) : Type 0 where
  pub seen : Env
  pub scope : plan.in_scope seen ≡ true
  pub chosen : plan.choose i seen ≡ j

-- The plan belongs to an accepted specification. The configuration that is chosen in an environment in scope exists,
-- can run in the environment, and is chosen again in it. The start is chosen in the opening environment. Each
-- possible reconfiguration has a sufficient bound, and the window is longer than each bound.
pub record IsAcceptedPlan (plan : Plan) : Type 0 where
  pub start_in : plan.start < plan.configurations
  pub choose_in : (c : ℕ) (v : Env) → c < plan.configurations → plan.choose c v < plan.configurations
  pub runnable : (c : ℕ) (v : Env) → c < plan.configurations → plan.in_scope v ≡ true → plan.is_runnable (plan.choose c v) v ≡ true
  pub stays : (c : ℕ) (v : Env) → c < plan.configurations → plan.in_scope v ≡ true → plan.choose (plan.choose c v) v ≡ plan.choose c v
  pub starts : plan.choose plan.start plan.opening ≡ plan.start
  pub lasts : (c : ℕ) → c < plan.configurations → 1 ≤ plan.initialising c
  pub slow : (k : ℕ) → k < plan.configurations → plan.preparing k + plan.initialising k + 1 + plan.halting k ≤ plan.slowest
  pub bounded : (i : ℕ) (v : Env) → i < plan.configurations → plan.in_scope v ≡ true → (plan.choose i v ≢ i) ⊎ (1 ≤ plan_further plan) → (t : ℕ) × (plan.bound i (plan.choose i v) ≡ Some t) × (plan_least_bound plan i (plan.choose i v) ≤ t)
  pub windowed : (i j t : ℕ) → plan.bound i j ≡ Some t → t + 1 ≤ plan.window
  pub tells : (v w : Env) → plan.differ v w ≡ false → v ≡ w
