-- The text of the remaining names of a list, joined by pluses, given whether some names have been written before
-- them.
use Rattle.std.specs.Prelude.{ℕ, Bool, List, if◌then◌else◌}
use Rattle.form_base.specs.Lines.{added, further_added}

abbrev pub rest_of : Bool → List (List ℕ) → List ℕ
rest_of shown names = if shown then further_added names else added names
