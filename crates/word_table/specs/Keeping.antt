-- Invariants of a mission and of its table.
use Rattle.std.specs.Prelude.{◌≡◌, ◌≤◌, ℕ, List, length, Option}
use Rattle.scram_types.specs.Eights.{eight}
use Rattle.scram_types.specs.Specification.{IsSpec}
use Rattle.atomic_table.specs.Seated.{TableId}
use Rattle.coverage_check.specs.Missions.{MissionParts}
use Rattle.fail_stop.specs.Listed.{word_index_count}
use Rattle.fault_script.specs.Fits.{Fits}
use Rattle.fault_script.specs.Times.{restart_of, words}

-- The specification of a mission satisfies `IsSpec`, and the mission's script fits the specification.
pub record IsFlown (mission : MissionParts) : Type 0 where
  pub facts : IsSpec mission.spec
  pub fits : Fits mission.spec mission.script

-- The table has a place for each word and no slots. The values of `frames`, `procs`, `width` and `restarts` are those
-- of the mission.
pub record TableKeeps (mission : MissionParts) (table : TableId) (frames procs width : ℕ) (restarts : List (Option ℕ)) : Type 0 where
  pub places : table.words ≡ word_index_count
  pub slots : table.slots ≡ 0
  pub frames_are : frames ≡ mission.script.frames
  pub procs_are : procs ≡ length mission.spec.procs
  pub procs_few : procs ≤ 8
  pub width_is : width ≡ words mission.spec
  pub width_most : width ≤ 64
  pub width_least : 8 ≤ width
  pub restarts_are : restarts ≡ eight (restart_of mission.script)
