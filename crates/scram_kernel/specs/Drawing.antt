-- The row of a frame, drawn from the kernel image of the frame and from the marks and images after the frame.
use Rattle.std.specs.Prelude.{ℕ, suc, ◌/◌, ◌==◌, ℤ, Bool, List, Option, Some, None, if◌then◌else◌}
use Rattle.scram_types.specs.Eights.{eight}
use Rattle.scram_types.specs.Specification.{Parts}
use Rattle.scram_types.specs.declared.rows.Row.{Row}
use Rattle.scram_types.specs.declared.ids.ProcId.{ProcId}
use Rattle.scram_types.specs.declared.orders.Act.{Act}
use Rattle.bank_words.specs.declared.images.KernelImage.{KernelImage}
use Rattle.frame_model.specs.declared.tasks.Task.{Task}
use Rattle.frame_model.specs.Flights.{image_in, slot_in}
use Rattle.frame_model.specs.States.{act_after, area_at, keeper_at, keeper_on, world_in, zeros}
use Rattle.frame_model.specs.Tasks.{task_of}
use Rattle.scram_kernel.specs.Marks.{mark_in}

-- Whether processor `p` has committed frame `f`, as its mark after the frame shows. Half of a mark is the number of
-- frames up to and including the last committed frame.
abbrev pub has_committed : List ℕ → ℕ → ℕ → Bool
has_committed marks f p = mark_in marks p / 2 == suc f

-- The area of application `a` after a frame: zeros if the application is off, the application's slot if the
-- application's processor has committed the frame, or else the old area.
abbrev pub area_from : (ℕ → Bool) → List (List ℤ) → ℕ → List ℤ → Option ProcId → List ℤ
area_from committed images a old None = zeros
area_from committed images a old (Some proc) = if committed proc.0 then slot_in (image_in images proc.0) a else old

-- The task of application `a` in the image's frame.
abbrev pub task_in_image : Parts → KernelImage → ℕ → Task
task_in_image spec image a = task_of spec image.mode image.frame a

-- The act of application `a` in the image's frame.
abbrev pub act_drawn : Parts → KernelImage → List ℕ → ℕ → Act
act_drawn spec image marks a = act_after (has_committed marks image.frame) (task_in_image spec image a)

-- The processor that keeps the area of application `a` after the image's frame, or `None` if no processor keeps it.
abbrev pub keeper_drawn : Parts → KernelImage → List ℕ → ℕ → Option ProcId
keeper_drawn spec image marks a = keeper_on (has_committed marks image.frame) (keeper_at image.keepers a) (task_in_image spec image a).proc

-- The area of application `a` after the image's frame, given the areas before that frame.
abbrev pub area_drawn : Parts → KernelImage → List ℕ → List (List ℤ) → List (List ℤ) → ℕ → List ℤ
area_drawn spec image marks images areas a = area_from (has_committed marks image.frame) images a (area_at areas a) (task_in_image spec image a).proc

-- The areas of the eight applications after the image's frame, given the areas before that frame.
abbrev pub areas_drawn : Parts → KernelImage → List ℕ → List (List ℤ) → List (List ℤ) → List (List ℤ)
areas_drawn spec image marks images areas = eight (area_drawn spec image marks images areas)

-- The list that has for each application the processor that keeps its area after the image's frame, or `None` if no
-- processor keeps it.
abbrev pub keepers_drawn : Parts → KernelImage → List ℕ → List (Option ProcId)
keepers_drawn spec image marks = eight (keeper_drawn spec image marks)

-- The row of the image's frame, given the areas before that frame.
abbrev pub row_drawn : Parts → KernelImage → List ℕ → List (List ℤ) → List (List ℤ) → Row
row_drawn spec image marks images areas = record {
  frame = image.frame;
  env = image.env;
  mode = image.mode;
  acts = eight (act_drawn spec image marks);
  areas = areas_drawn spec image marks images areas;
  world = world_in spec image.world (areas_drawn spec image marks images areas);
}
