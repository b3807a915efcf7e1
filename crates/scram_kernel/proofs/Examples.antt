-- Worked examples of `has_committed`, `act_after`, `area_from` and `keeper_on`. After frame 4, processor 0 has
-- committed that frame, in bank 1, and processor 1 has committed frame 2 last.
use Rattle.std.proofs.Common.{◌≡◌, ℕ, refl, true, false, List, [], ◌∷◌, ◌++◌}
use Rattle.std.specs.Prelude.{ℤ, Option, pos, Some, None}
use Rattle.scram_types.specs.Lookups.{proc_id}
use Rattle.scram_types.specs.declared.ids.ProcId.{ProcId}
use Rattle.scram_types.specs.declared.orders.Act.TheVariants as act
use Rattle.scram_types.specs.declared.orders.Order.TheVariants.{Run}
use Rattle.frame_model.specs.declared.tasks.Task.{Task}
use Rattle.frame_model.specs.States.{act_after, keeper_on, zeros}
use Rattle.scram_kernel.specs.Drawing.{area_from, has_committed}

abbrev marks : List ℕ
marks = 11 ∷ 6 ∷ []

abbrev ones : List ℤ
ones = pos 1 ∷ pos 1 ∷ pos 1 ∷ pos 1 ∷ pos 1 ∷ pos 1 ∷ pos 1 ∷ pos 1 ∷ []

abbrev twos : List ℤ
twos = pos 2 ∷ pos 2 ∷ pos 2 ∷ pos 2 ∷ pos 2 ∷ pos 2 ∷ pos 2 ∷ pos 2 ∷ []

pub committed : has_committed marks 4 0 ≡ true
committed = refl

pub not_in_the_next_frame : has_committed marks 5 0 ≡ false
not_in_the_next_frame = refl

pub not_by_an_older_mark : has_committed marks 4 1 ≡ false
not_by_an_older_mark = refl

pub no_such_processor : has_committed marks 4 8 ≡ false
no_such_processor = refl

-- A task to run in mode 2.
abbrev task_on : Option ProcId → Task
task_on proc = record { order = Run; mode = record { 0 = 2 }; proc = proc }

pub committed_has_run : act_after (has_committed marks 4) (task_on (Some (proc_id 0))) ≡ act.Ran (record { 0 = 2 }) (proc_id 0)
committed_has_run = refl

pub not_committed_is_lost : act_after (has_committed marks 4) (task_on (Some (proc_id 1))) ≡ act.Lost
not_committed_is_lost = refl

pub without_a_processor_is_off : act_after (has_committed marks 4) (task_on None) ≡ act.Off
without_a_processor_is_off = refl

-- The area before the frame is `ones`, and each slot is `twos`. The area after the frame is the slot if the
-- application's processor committed the frame, the old area if it did not, and zeros if the application is off.
pub slot_taken : area_from (has_committed marks 4) (twos ∷ twos ∷ []) 0 ones (Some (proc_id 0)) ≡ twos
slot_taken = refl

pub slot_of_its_application : area_from (has_committed marks 4) ((twos ++ ones) ∷ []) 1 zeros (Some (proc_id 0)) ≡ ones
slot_of_its_application = refl

pub area_stays : area_from (has_committed marks 4) (twos ∷ twos ∷ []) 0 ones (Some (proc_id 1)) ≡ ones
area_stays = refl

pub area_is_gone : area_from (has_committed marks 4) (twos ∷ twos ∷ []) 0 ones None ≡ zeros
area_is_gone = refl

pub keeper_stays : keeper_on (has_committed marks 4) (Some (proc_id 3)) (Some (proc_id 1)) ≡ Some (proc_id 3)
keeper_stays = refl

pub keeper_has_committed : keeper_on (has_committed marks 4) (Some (proc_id 3)) (Some (proc_id 0)) ≡ Some (proc_id 0)
keeper_has_committed = refl

pub no_keeper_of_what_is_off : keeper_on (has_committed marks 4) (Some (proc_id 3)) None ≡ None
no_keeper_of_what_is_off = refl
