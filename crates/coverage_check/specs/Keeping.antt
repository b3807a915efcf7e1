-- The environments of a mission.
use Rattle.std.specs.Prelude.{◌≡◌, ℕ, ◌≤◌, true}
use Rattle.scram_types.specs.Specification.{IsSpec, Parts}
use Rattle.scram_types.specs.Scripts.{ScriptParts}
use Rattle.scram_types.specs.Lookups.{opening_env}
use Rattle.choice_table.specs.Environments.{IsEnv, in_scope}
use Rattle.fault_script.specs.Environments.{env_at}
use Rattle.coverage_check.specs.Missions.{IsMission, MissionParts}

-- The environment of frame `f` belongs to the specification and is in scope.
pub record StaysInScope (spec : Parts) (script : ScriptParts) (f : ℕ) : Type 0 where
  pub belongs : IsEnv spec (env_at spec script f)
  pub scope : in_scope spec (env_at spec script f) ≡ true

-- The environment is in scope in each frame, including the frame after the last one. The environment of frame 0 is
-- `opening_env`.
pub record KeepsScope (spec : Parts) (script : ScriptParts) : Type 0 where
  pub opens : env_at spec script 0 ≡ opening_env spec
  pub stays : (f : ℕ) → f ≤ script.frames → StaysInScope spec script f

-- The environment of every mission is in scope in every frame, including the frame after the last one.
abbrev pub MissionsKeepScope : Type 0
MissionsKeepScope = (mission : MissionParts) → IsSpec mission.spec → IsMission mission → KeepsScope mission.spec mission.script
