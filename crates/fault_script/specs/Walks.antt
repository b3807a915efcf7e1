-- Walks along the frames of a script. A walk contains the factors' values after the changes up to its frame.
use Rattle.std.specs.Prelude.{◌≡◌, ℕ, zero, suc, ◌+◌, ◌-◌, ◌<◌, ◌≤◌, ◌==◌, List, [], ◌∷◌, slice_get, slice_index, Some, if◌then◌else◌}
use Rattle.scram_types.specs.declared.scripts.Change.{Change}
use Rattle.scram_types.specs.Scripts.{ScriptParts}
use Rattle.scram_types.specs.Specification.{Parts}
use Rattle.fault_script.specs.declared.walks.Walk.{Walk}
use Rattle.fault_script.specs.declared.walks.Window.{Window}
use Rattle.fault_script.specs.Assumption.{changes_upto, is_change_frame}
use Rattle.fault_script.specs.Environments.{env_at}

-- The value of factor `x` after a change, given its value before it.
abbrev pub newest : Change → ℕ → ℕ → ℕ
newest change x value = if change.factor.0 == x then change.value else value

-- The value of factor `x` after the first `n` changes, given its value before them.
abbrev pub value_taken : List Change → ℕ → ℕ → ℕ → ℕ
value_taken [] x n value = value
value_taken (change ∷ changes) x zero value = value
value_taken (change ∷ changes) x (suc n) value = value_taken changes x n (newest change x value)

-- The values of the six factors after the first `n` changes.
abbrev pub values_taken : List Change → ℕ → List ℕ
values_taken changes n =
    value_taken changes 0 n 0 ∷ value_taken changes 1 n 0 ∷ value_taken changes 2 n 0
    ∷ value_taken changes 3 n 0 ∷ value_taken changes 4 n 0 ∷ value_taken changes 5 n 0 ∷ []

-- The values of the six factors after a change, given their values before it.
abbrev pub changed_values : Change → List ℕ → List ℕ
changed_values change values =
    newest change 0 (slice_index values 0) ∷ newest change 1 (slice_index values 1) ∷ newest change 2 (slice_index values 2)
    ∷ newest change 3 (slice_index values 3) ∷ newest change 4 (slice_index values 4) ∷ newest change 5 (slice_index values 5) ∷ []

-- The first `n` changes are in frame `f` or an earlier one.
abbrev pub HaveCome : List Change → ℕ → ℕ → Type 0
HaveCome changes f n = (k : ℕ) (change : Change) → k < n → slice_get changes k ≡ Some change → change.frame ≤ f

-- The change after the first `n`, if there is one, is in a frame after `f`.
abbrev pub IsWhole : List Change → ℕ → ℕ → Type 0
IsWhole changes f n = (change : Change) → slice_get changes n ≡ Some change → f < change.frame

-- A walk is at frame `f`. It contains the environment of that frame, and the number of changes that it has taken.
pub record IsWalk (spec : Parts) (script : ScriptParts) (f : ℕ) (walk : Walk) : Type 0 where
  pub frame : walk.frame ≡ f
  pub taken : HaveCome script.changes f walk.taken
  pub values : walk.env.factors ≡ values_taken script.changes walk.taken
  pub env : walk.env ≡ env_at spec script f

-- A window ends with frame `f`. Its walk `lead` is at `f`, and its walk `trail` is at the frame before the window, or
-- at frame 0. `changes` is the number of change frames after the frame of `trail` and up to `f`. `changed` is `true`
-- if `f` is a change frame.
pub record IsWindow (spec : Parts) (script : ScriptParts) (f : ℕ) (window : Window) : Type 0 where
  pub lead : IsWalk spec script f window.lead
  pub trail : IsWalk spec script (f - spec.window) window.trail
  pub changed : window.changed ≡ is_change_frame spec script f
  pub changes : window.changes + changes_upto spec script (f - spec.window) ≡ changes_upto spec script f
