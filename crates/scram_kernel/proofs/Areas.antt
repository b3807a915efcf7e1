-- Lemmas on the areas after a frame, which are computed one application at a time.
use Rattle.std.proofs.Common.{ℕ, List}
use Rattle.std.specs.Prelude.{ℤ, slice_index_or}
use Rattle.frame_model.specs.declared.tasks.Task.{Task}
use Rattle.frame_model.specs.States.{area_at}
use Rattle.frame_model.specs.Tasks.{off_task}
use Rattle.scram_kernel.specs.Drawing.{area_from, has_committed}

-- The area of application `a` after a frame, given the tasks of the eight applications.
abbrev pub area_by_tasks : List Task → ℕ → List ℕ → List (List ℤ) → List (List ℤ) → ℕ → List ℤ
area_by_tasks tasks frame marks images areas a = area_from (has_committed marks frame) images a (area_at areas a) (slice_index_or tasks a off_task).proc
