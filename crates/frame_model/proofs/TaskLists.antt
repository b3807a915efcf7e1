-- Reading a list of tasks at an index within the list returns the same task for any default.
use Rattle.std.proofs.Common.{◌≡◌, ◌∙◌, ◌<◌, ℕ, List, ap, length}
use Rattle.std.specs.Prelude.{None, slice_index_or}
use Rattle.std.proofs.lemmas.List.{get_or_default}
use Rattle.scram_types.specs.declared.orders.Order.TheVariants.{Run}
use Rattle.frame_model.specs.declared.tasks.Task.{Task}
use Rattle.frame_model.specs.Tasks.{off_task}

-- The task that is used for an index past the end of a list.
abbrev pub no_task : Task
no_task = record { order = Run; mode = record { 0 = 0 }; proc = None }

pub task_read : (tasks : List Task) (i a : ℕ) → i ≡ a → a < length tasks → slice_index_or tasks i no_task ≡ slice_index_or tasks a off_task
task_read tasks i a here known = ap (λ j. slice_index_or tasks j no_task) here ∙ get_or_default tasks a no_task off_task known
