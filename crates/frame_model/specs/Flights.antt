-- The one-thread trace of a script, and the images that its processors hold.
use Rattle.std.specs.Prelude.{ℕ, zero, suc, ◌+◌, ◌*◌, ◌==◌, ℤ, pos, Bool, false, List, [], ◌++◌, slice_index_or, Option, if◌then◌else◌}
use Rattle.std.specs.Option.{option_map_or}
use Rattle.scram_types.specs.Eights.{eight}
use Rattle.scram_types.specs.Searches.{listed_below}
use Rattle.scram_types.specs.declared.ids.ProcId.{ProcId}
use Rattle.scram_types.specs.declared.rows.Row.{Row}
use Rattle.scram_types.specs.declared.rows.Report.{Report}
use Rattle.scram_types.specs.declared.orders.KMode.{KMode}
use Rattle.scram_types.specs.Scripts.{ScriptParts}
use Rattle.scram_types.specs.Specification.{Parts}
use Rattle.fault_script.specs.Environments.{env_at}
use Rattle.fault_script.specs.Times.{commits}
use Rattle.frame_model.specs.declared.tasks.Task.{Task}
use Rattle.frame_model.specs.Readings.{reports}
use Rattle.frame_model.specs.States.{State, law_of, row_of, start_area_of, start_keeper_of, start_state, step, zeros, mode_decided}
use Rattle.frame_model.specs.Tasks.{task_of}

-- The state after the first `f` frames of a script.
abbrev pub state_after : Parts → ScriptParts → ℕ → State
state_after spec script zero = start_state spec
state_after spec script (suc f) = step spec f (env_at spec script f) (λ p. commits spec script p f) (state_after spec script f)

-- The mode that is decided at the start of frame `f`, which may be the frame after the last one.
abbrev pub decided : Parts → ScriptParts → ℕ → KMode
decided spec script f = mode_decided spec f (env_at spec script f) (state_after spec script f)

-- The row of frame `f`.
abbrev pub row_at : Parts → ScriptParts → ℕ → Row
row_at spec script f = row_of spec f (env_at spec script f) (λ p. commits spec script p f) (state_after spec script f)

-- The rows of all frames of a flight.
abbrev pub rows_of : Parts → ScriptParts → List Row
rows_of spec script = listed_below (row_at spec script) script.frames

-- The reconfigurations that are read off the rows of a flight.
abbrev pub reports_of : Parts → ScriptParts → List Report
reports_of spec script = reports spec (rows_of spec script)

-- The task of application `a` in frame `f`.
abbrev pub task_given : Parts → ScriptParts → ℕ → ℕ → Task
task_given spec script f a = task_of spec (decided spec script f) f a

-- Whether an optional processor is processor `p`. The value is `false` for `None`.
abbrev pub is_proc : ℕ → Option ProcId → Bool
is_proc p proc = option_map_or (λ (q : ProcId). q.0 == p) proc false

-- The slot of application `a` in the image of processor `p` before the first frame: the start area if `p` is the
-- keeper of `a` before the first frame, or else zeros.
abbrev pub start_slot : Parts → ℕ → ℕ → List ℤ
start_slot spec p a = if is_proc p (start_keeper_of spec a) then start_area_of spec a else zeros

-- The slot of application `a` that processor `p` drafts in frame `f`: the area by the law of `a` if the task of `a`
-- names `p`, or else the slot `old`.
abbrev pub slot_drafted : Parts → ScriptParts → ℕ → ℕ → ℕ → List ℤ → List ℤ
slot_drafted spec script p f a old =
    if is_proc p (task_given spec script f a).proc
    then law_of spec (env_at spec script f) (state_after spec script f) (task_given spec script f a) a
    else old

-- The slot of application `a` in the image of processor `p` after the first `f` frames. In each frame that `p`
-- commits, the slot that `p` drafts replaces the old slot.
abbrev pub slot_after : Parts → ScriptParts → ℕ → ℕ → ℕ → List ℤ
slot_after spec script p zero a = start_slot spec p a
slot_after spec script p (suc f) a =
    if commits spec script p f then slot_drafted spec script p f a (slot_after spec script p f a) else slot_after spec script p f a

-- The image that consists of the slots of the eight applications, in order.
abbrev pub image_of : (ℕ → List ℤ) → List ℤ
image_of slot = slot 0 ++ slot 1 ++ slot 2 ++ slot 3 ++ slot 4 ++ slot 5 ++ slot 6 ++ slot 7

-- The slot of application `a` in an image.
abbrev pub slot_in : List ℤ → ℕ → List ℤ
slot_in image a = eight (λ i. slice_index_or image (8 * a + i) (pos 0))

-- The image of processor `p` in a list of images, or an empty image past the last one.
abbrev pub image_in : List (List ℤ) → ℕ → List ℤ
image_in images p = slice_index_or images p []

-- The image of processor `p` after the first `f` frames.
abbrev pub image_after : Parts → ScriptParts → ℕ → ℕ → List ℤ
image_after spec script p f = image_of (slot_after spec script p f)

-- The image that processor `p` drafts in frame `f`: the drafts of all slots.
abbrev pub draft : Parts → ScriptParts → ℕ → ℕ → List ℤ
draft spec script p f = image_of (λ a. slot_drafted spec script p f a (slot_after spec script p f a))
