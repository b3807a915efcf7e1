-- The drafts that a processor makes from its snapshot of a frame.
use Rattle.std.specs.Prelude.{◌≡◌, ℕ, ◌<◌, ℤ, false, List, length, slice_index_or, Option, Some, None, if◌then◌else◌}
use Rattle.scram_types.specs.declared.ids.ProcId.{ProcId}
use Rattle.scram_types.specs.Eights.{eight}
use Rattle.scram_types.specs.Lookups.{kind_of_app}
use Rattle.scram_types.specs.Scripts.{ScriptParts}
use Rattle.scram_types.specs.Specification.{Parts}
use Rattle.app_model.specs.declared.seen.Seen.{Seen}
use Rattle.app_model.specs.Law.{law}
use Rattle.frame_model.specs.declared.tasks.Task.{Task}
use Rattle.frame_model.specs.Flights.{image_after, image_in, image_of, is_proc, slot_in}
use Rattle.frame_model.specs.States.{State, area_at, keeper_at, seen_by_all, seen_in, zeros}
use Rattle.frame_model.specs.Storage.{kernel_image}
use Rattle.frame_model.specs.Tasks.{off_task, task_of}
use Rattle.fail_stop.specs.declared.snapshots.Snapshot.{Snapshot}

-- The task of application `a` in a list of eight tasks.
abbrev pub task_among : List Task → ℕ → Task
task_among tasks a = slice_index_or tasks a off_task

-- The area of application `a`: its slot in its keeper's image, or zeros if the application has no keeper.
abbrev pub area_kept : List (List ℤ) → Option ProcId → ℕ → List ℤ
area_kept images None a = zeros
area_kept images (Some q) a = slot_in (image_in images q.0) a

-- The areas of all applications in a snapshot.
abbrev pub areas_shown : Snapshot → List (List ℤ)
areas_shown snap = eight (λ a. area_kept snap.images (keeper_at snap.kernel.keepers a) a)

-- The state before the frame of a snapshot, computed from the snapshot.
abbrev pub state_shown : Snapshot → State
state_shown snap = record { mode = snap.kernel.mode; arrived = false; areas = areas_shown snap; keepers = snap.kernel.keepers; world = snap.kernel.world }

-- The area of application `a` after a frame with these tasks, computed by the law of its kind.
abbrev pub area_drafted : Parts → List Task → Seen → List (List ℤ) → ℕ → List ℤ
area_drafted spec tasks seen areas a = law (kind_of_app spec a) (task_among tasks a).order (seen_in seen (task_among tasks a).mode (area_at areas a))

-- The slot of application `a` in the image that processor `p` makes: `area_drafted` if the task of `a` names `p`, or
-- the slot in the old image otherwise.
abbrev pub slot_made : Parts → List Task → Seen → List (List ℤ) → List ℤ → ℕ → ℕ → List ℤ
slot_made spec tasks seen areas image p a =
    if is_proc p (task_among tasks a).proc then area_drafted spec tasks seen areas a else slot_in image a

-- The image that processor `p` makes of a snapshot.
abbrev pub draft_made : Parts → Snapshot → ℕ → List ℤ
draft_made spec snap p = image_of (slot_made
    spec
    (eight (task_of spec snap.kernel.mode snap.kernel.frame))
    (seen_by_all spec snap.kernel.env (state_shown snap))
    (areas_shown snap)
    (image_in snap.images p)
    p)

-- The snapshot belongs to frame `f` of a script. It contains the kernel image of the frame and the images of all
-- processors as of the start of the frame.
pub record IsSnapshot (spec : Parts) (script : ScriptParts) (f : ℕ) (snap : Snapshot) : Type 0 where
  pub kernel : snap.kernel ≡ kernel_image spec script f
  pub images : (q : ℕ) → q < length spec.procs → image_in snap.images q ≡ image_after spec script q f
