-- The outcome of a frame for each application, given what all applications share: the phase, what they see, and the
-- processors that commit, as bits.
use Rattle.std.specs.Prelude.{◌≡◌, ℕ, ℤ, List, Option}
use Rattle.scram_types.specs.declared.ids.ProcId.{ProcId}
use Rattle.scram_types.specs.declared.orders.Act.{Act}
use Rattle.scram_types.specs.Specification.{Parts}
use Rattle.scram_types.specs.Bits.{has_bit}
use Rattle.scram_types.specs.Lookups.{kind_of_app}
use Rattle.app_model.specs.declared.seen.Seen.{Seen}
use Rattle.app_model.specs.Law.{law}
use Rattle.frame_model.specs.declared.outcomes.Setting.{Setting}
use Rattle.frame_model.specs.declared.phases.Phase.{Phase}
use Rattle.frame_model.specs.declared.systems.Sys.{Sys}
use Rattle.frame_model.specs.declared.tasks.Task.{Task}
use Rattle.frame_model.specs.States.{ShowAlike, act_after, area_at, area_on, keeper_at, keeper_on, seen_in}
use Rattle.frame_model.specs.Tasks.{task_in}

-- The act of application `a` in a phase, given the processors that commit, as bits.
abbrev pub act_made : Parts → Phase → ℕ → ℕ → Act
act_made spec phase committing a = act_after (has_bit committing) (task_in spec phase a)

-- The area of application `a` by the law of its kind, given its task and what all applications see.
abbrev pub law_made : Parts → Sys → Seen → ℕ → Task → List ℤ
law_made spec sys seen a task = law (kind_of_app spec a) task.order (seen_in seen task.mode (area_at sys.areas a))

-- The area of application `a` after a frame. With a processor, it is the area of the law if the processor commits, or
-- else the old area. Without a processor, it is zeros.
abbrev pub area_made : Parts → Sys → Phase → ℕ → Seen → ℕ → List ℤ
area_made spec sys phase committing seen a =
    area_on (has_bit committing) (law_made spec sys seen a (task_in spec phase a)) (area_at sys.areas a) (task_in spec phase a).proc

-- The processor that keeps the area of application `a` after a frame, or `None` if no processor keeps it.
abbrev pub keeper_made : Parts → Sys → Phase → ℕ → ℕ → Option ProcId
keeper_made spec sys phase committing a = keeper_on (has_bit committing) (keeper_at sys.keepers a) (task_in spec phase a).proc

-- Two settings belong to the same frame. What applications see in them differs at most in the mode and the own area.
pub record IsSharedAlike (setting other : Setting) : Type 0 where
  pub stage : other.stage ≡ setting.stage
  pub committing : other.committing ≡ setting.committing
  pub seen : ShowAlike setting.seen other.seen
