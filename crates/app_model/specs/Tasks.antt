-- The task's area after a frame in which it ran.
use Rattle.std.specs.Prelude.{ℤ, pos, List, [], ◌∷◌}
use Rattle.app_model.specs.declared.seen.Seen.{Seen}
use Rattle.kind_table.specs.declared.kinds.task.TheConstants.{KIND}
use Rattle.app_model.specs.Reads.{ticks_after}

-- The task's area after a frame in which it ran. Only the status and the count of frames are used.
unfoldable pub task_ran : Seen → List ℤ
task_ran seen = pos 1 ∷ pos 0 ∷ pos 0 ∷ pos 0 ∷ pos 0 ∷ pos 0 ∷ ticks_after KIND seen ∷ pos 0 ∷ []
