-- Regions: cubes of environments, each with one target.
use Rattle.std.specs.Prelude.{◌≡◌, ℕ, Bool, false, not, ◌&&◌, ◌||◌, List, [], ◌∷◌, if◌then◌else◌}
use Rattle.std.specs.List.{list_any}
use Rattle.scram_types.specs.declared.ids.ConfId.{ConfId}
use Rattle.scram_types.specs.declared.rows.Env.{Env}
use Rattle.scram_types.specs.declared.specification.Choice.{Choice}
use Rattle.scram_types.specs.Specification.{Parts}
use Rattle.choice_table.specs.Choices.{choose, has_rule, rule_fits}
use Rattle.cube_cover.specs.declared.cubes.Cube.{Cube}
use Rattle.cube_cover.specs.declared.regions.Region.{Region}
use Rattle.cube_cover.specs.Cubes.{Agree, holds, is_in}

-- Whether a region holds an environment and its target passes a test.
abbrev pub is_held : (ℕ → Bool) → Env → Region → Bool
is_held passes v region = passes region.target.0 && holds region.cube v

-- Whether some region of a list holds an environment and has a target that passes a test.
unfoldable pub is_marked : List Region → (ℕ → Bool) → Env → Bool
is_marked regions passes v = list_any (is_held passes v) regions

-- Whether the first rule of a list that fits configuration `c` in an environment has a target that passes a test. The
-- value is `false` if no rule fits.
unfoldable pub is_ruled : List Choice → ConfId → (ℕ → Bool) → Env → Bool
is_ruled [] c passes v = false
is_ruled (rule ∷ rules) c passes v = if rule_fits c v rule then passes rule.to.0 else is_ruled rules c passes v

-- The regions `ruled` hold exactly the environments in scope that the cubes hold and in which some rule fits
-- configuration `c`. The target of a region is the target of the first such rule. The cubes `unruled` hold exactly
-- the environments in scope that the cubes hold and in which no rule fits `c`.
pub record AreRegions (spec : Parts) (c : ConfId) (cubes : List Cube) (ruled : List Region) (unruled : List Cube) : Type 0 where
  pub targets : (passes : ℕ → Bool) → Agree spec (is_marked ruled passes) (λ v. is_in cubes v && is_ruled spec.rules c passes v)
  pub rest : Agree spec (is_in unruled) (λ v. is_in cubes v && not (has_rule spec c v))

-- For each test of targets, the regions `after` mark (`is_marked`) the environments that the regions `before` mark.
-- If `target` passes the test, they also mark the environments that the cubes hold. They mark no other environment.
abbrev pub MarksMore : List Region → List Region → List Cube → ConfId → Type 0
MarksMore before after cubes target =
    (passes : ℕ → Bool) (v : Env) → is_marked after passes v ≡ (is_marked before passes v || (is_in cubes v && passes target.0))

-- For each test of targets, the regions `after` mark (`is_marked`) the environments in scope that the regions
-- `before` mark. If the rule's target passes the test, they also mark those that the cubes hold and in which the rule
-- fits configuration `c`. They mark no other environment in scope.
abbrev pub Rule : Parts → ConfId → Choice → List Cube → List Region → List Region → Type 0
Rule spec c rule cubes before after = (passes : ℕ → Bool) →
    Agree spec (is_marked after passes) (λ v. is_marked before passes v || (is_in cubes v && (rule_fits c v rule && passes rule.to.0)))

-- The cubes hold exactly the environments of the regions whose targets pass the test.
abbrev pub HoldsMarked : List Region → (ℕ → Bool) → List Cube → Type 0
HoldsMarked regions passes cubes = (v : Env) → is_in cubes v ≡ is_marked regions passes v

-- The second list of cubes holds the environments that the first list holds. If `wanted` is `true`, it also holds the
-- environments in `cube`.
abbrev pub HoldsMore : List Cube → List Cube → Cube → Bool → Type 0
HoldsMore before after cube wanted = (v : Env) → is_in after v ≡ (is_in before v || (wanted && holds cube v))

-- Each environment in scope is in some region, and each region that holds it has the target that is chosen from
-- configuration `i` in the environment.
abbrev pub AreAll : Parts → ConfId → List Region → Type 0
AreAll spec i regions = (passes : ℕ → Bool) → Agree spec (is_marked regions passes) (λ v. passes (choose spec i v).0)
