-- The failure assumption: the number of processors that may be down, and how often the environment may change.
use Rattle.std.specs.Prelude.{◌≡◌, ℕ, zero, suc, ◌+◌, ◌-◌, ◌≤◌, Bool, false, not, ◌&&◌, ◌==◌, nat_lt, length, Option, Some, None, if◌then◌else◌}
use Rattle.std.specs.Str.{bytes_eq}
use Rattle.scram_types.specs.declared.rows.Env.{Env}
use Rattle.scram_types.specs.Bits.{count_below}
use Rattle.scram_types.specs.Searches.{first_below}
use Rattle.scram_types.specs.Scripts.{ScriptParts}
use Rattle.scram_types.specs.Specification.{Parts}
use Rattle.fault_script.specs.declared.assumption.Outside.{Outside}
use Rattle.fault_script.specs.declared.assumption.OutsideKind.TheVariants as kind
use Rattle.fault_script.specs.Times.{is_up}
use Rattle.fault_script.specs.Environments.{env_at}

-- The number of the first `n` processors that are down in frame `f`.
abbrev pub down_below : ScriptParts → ℕ → ℕ → ℕ
down_below script f n = count_below (λ p. not (is_up script p f)) n

-- Whether more processors are down in frame `f` than the failure assumption allows.
abbrev pub has_too_many_down : Parts → ScriptParts → ℕ → Bool
has_too_many_down spec script f = nat_lt spec.halts (down_below script f (length spec.procs))

-- Whether two environments are equal.
abbrev pub is_same_env : Env → Env → Bool
is_same_env v w = v.up == w.up && bytes_eq v.factors w.factors

-- Whether the environment of frame `f` differs from that of the preceding frame. The value is `false` for frame 0.
abbrev pub is_change_frame : Parts → ScriptParts → ℕ → Bool
is_change_frame spec script zero = false
is_change_frame spec script (suc f) = not (is_same_env (env_at spec script f) (env_at spec script (suc f)))

-- The number of change frames up to frame `f`, inclusive.
abbrev pub changes_upto : Parts → ScriptParts → ℕ → ℕ
changes_upto spec script zero = 0
changes_upto spec script (suc f) = changes_upto spec script f + (if is_change_frame spec script (suc f) then 1 else 0)

-- The number of change frames in the window that ends with frame `f`. The window may begin before the first frame.
abbrev pub changes_in_window : Parts → ScriptParts → ℕ → ℕ
changes_in_window spec script f = changes_upto spec script f - changes_upto spec script (f - spec.window)

-- Whether frame `f` is a change frame and the window that ends with `f` has too many change frames.
abbrev pub is_change_too_many : Parts → ScriptParts → ℕ → Bool
is_change_too_many spec script f = is_change_frame spec script f && nat_lt (spec.changes + 1) (changes_in_window spec script f)

-- Whether too many processors are down in the frame after `f`. The value is `false` if `f` is the script's number of
-- frames. A processor that halts in frame `f` is down in the next frame.
abbrev pub brings_too_many_down : Parts → ScriptParts → ℕ → Bool
brings_too_many_down spec script f = not (f == script.frames) && has_too_many_down spec script (f + 1)

-- The way in which frame `f` leaves the assumption, or `None` if the frame does not leave it. The way is `Halts` if
-- the frame leaves the assumption in both ways.
abbrev pub outside_at : Parts → ScriptParts → ℕ → Option Outside
outside_at spec script f =
    if brings_too_many_down spec script f then Some (record { frame = f; kind = kind.Halts })
    else (if is_change_too_many spec script f then Some (record { frame = f; kind = kind.Changes }) else None)

-- The first frame from 0 to the number of frames, inclusive, that leaves the assumption, and the way in which it
-- leaves it. The value is `None` if there is no such frame.
abbrev pub first_outside : Parts → ScriptParts → Option Outside
first_outside spec script = first_below (outside_at spec script) (suc script.frames)

-- A script keeps to the failure assumption. In each frame at most the assumed number of processors are down, and each
-- window has at most one change frame more than the assumed number of changes. A window may begin before the first
-- frame and end after the last one.
pub record IsWithin (spec : Parts) (script : ScriptParts) : Type 0 where
  pub scope : (f : ℕ) → f ≤ script.frames → down_below script f (length spec.procs) ≤ spec.halts
  pub few : (f : ℕ) → f ≤ script.frames → changes_upto spec script f ≤ changes_upto spec script (f - spec.window) + spec.changes + 1

-- No frame of the script leaves the assumption if and only if the script keeps to it.
pub record LeavesNowhere (spec : Parts) (script : ScriptParts) : Type 0 where
  pub within : first_outside spec script ≡ None → IsWithin spec script
  pub nowhere : IsWithin spec script → first_outside spec script ≡ None

-- A script keeps to the failure assumption if and only if no frame of it leaves the assumption.
abbrev pub WithinWhereNowhereOutside : Type 0
WithinWhereNowhereOutside = (spec : Parts) (script : ScriptParts) → LeavesNowhere spec script
