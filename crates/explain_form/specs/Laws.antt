-- The law of the lines about the failure assumption.
use Rattle.std.specs.Prelude.{◌≡◌, ℕ, suc}
use Rattle.scram_types.specs.Bits.{count_below}
use Rattle.scram_types.specs.Scripts.{ScriptParts}
use Rattle.scram_types.specs.Specification.{Parts}
use Rattle.fault_script.specs.Assumption.{changes_in_window}
use Rattle.explain_form.specs.Outsides.{is_change_told}

-- For the window that ends with frame `last`, the number of frames in the line of change frames is the number of
-- changes that the failure assumption counts.
abbrev pub WindowsAreExact : Type 0
WindowsAreExact = (spec : Parts) (script : ScriptParts) (last : ℕ)
    → count_below (is_change_told spec script last) (suc last) ≡ changes_in_window spec script last
