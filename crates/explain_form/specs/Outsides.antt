-- The reasons why a script violates the failure assumption.
use Rattle.std.specs.Prelude.{ℕ, suc, ◌+◌, Bool, ◌&&◌, nat_lt, List, [], ◌++◌, codes, decimal, if◌then◌else◌}
use Rattle.scram_types.specs.Scripts.{ScriptParts}
use Rattle.scram_types.specs.Specification.{Parts}
use Rattle.fault_script.specs.declared.assumption.Outside.{Outside}
use Rattle.fault_script.specs.declared.assumption.OutsideKind.{OutsideKind}
use Rattle.fault_script.specs.declared.assumption.OutsideKind.TheVariants.{Changes, Halts}
use Rattle.fault_script.specs.Assumption.{is_change_frame}
use Rattle.fault_script.specs.Environments.{env_at}
use Rattle.form_base.specs.Lines.{added, names_down}
use Rattle.form_base.specs.Texts.{texts_below}

-- Whether frame `f` is at or after the start of the window that ends with frame `last`.
abbrev pub is_in_window : Parts → ℕ → ℕ → Bool
is_in_window spec last f = nat_lt last (f + spec.window)

-- Whether the environment changes in frame `f` and `f` is at or after the start of the window that ends with frame
-- `last`.
abbrev pub is_change_told : Parts → ScriptParts → ℕ → ℕ → Bool
is_change_told spec script last f = is_in_window spec last f && is_change_frame spec script f

-- The number of a frame, preceded by a space.
abbrev pub frame_text : ℕ → List ℕ
frame_text f = codes " " ++ decimal f

-- The number of frame `f`, preceded by a space, if `f` is a change frame at or after the start of the window that
-- ends with frame `last`, and the empty text otherwise.
abbrev pub change_frame_text : Parts → ScriptParts → ℕ → ℕ → List ℕ
change_frame_text spec script last f = if is_change_told spec script last f then frame_text f else []

-- The end of the line of change frames, with the maximum number of change frames that the assumption allows in a
-- window, and the window's length.
abbrev pub assumed_line : Parts → List ℕ
assumed_line spec = codes " change, at most " ++ decimal (spec.changes + 1) ++ codes " in " ++ decimal spec.window ++ codes " frames\n"

-- The start of the line of change frames, with the change frames of the window that ends with frame `last`.
unfoldable pub change_frames_text : Parts → ScriptParts → ℕ → List ℕ
change_frames_text spec script last = codes "  frames" ++ texts_below (change_frame_text spec script last) (suc last)

-- The line of the change frames of the window that ends with frame `last`. It ends with the maximum number of change
-- frames that the assumption allows in a window, and the window's length.
abbrev pub too_many_changes_text : Parts → ScriptParts → ℕ → List ℕ
too_many_changes_text spec script last = change_frames_text spec script last ++ assumed_line spec

-- The line of the processors that are down in frame `f`. It ends with the maximum number of such processors that the
-- assumption allows.
abbrev pub down_line : Parts → ScriptParts → ℕ → List ℕ
down_line spec script f =
    codes "  down " ++ added (names_down spec.procs (env_at spec script f).up) ++ codes ", at most " ++ decimal spec.halts ++ codes "\n"

-- The line with the reason why a script violates the failure assumption in frame `f`. For halts, the line has the
-- processors that are down in the next frame. For changes, the line has the change frames of the window that ends
-- with `f`.
abbrev pub outside_text_by : Parts → ScriptParts → ℕ → OutsideKind → List ℕ
outside_text_by spec script f Halts = down_line spec script (f + 1)
outside_text_by spec script f Changes = too_many_changes_text spec script f

-- The line with the reason why a script violates the failure assumption. It is printed after the line of the refusal.
abbrev pub outside_text : Parts → ScriptParts → Outside → List ℕ
outside_text spec script outside = outside_text_by spec script outside.frame outside.kind
