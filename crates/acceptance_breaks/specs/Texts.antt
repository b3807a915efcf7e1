-- The text of the places at which acceptance fails.
use Rattle.std.specs.Prelude.{ℕ, ◌-◌, List, [], ◌∷◌, ◌++◌, length, take, nat_lt, codes, decimal, if◌then◌else◌}
use Rattle.scram_types.specs.Specification.{Parts}
use Rattle.condition_breaks.specs.declared.breaks.Break.{Break}
use Rattle.acceptance_breaks.specs.declared.texts.TheConstants.{MAX_BREAK_LINES}
use Rattle.condition_breaks.specs.Breaks.{breaks}
use Rattle.acceptance_breaks.specs.Lines.{break_line}

-- The lines for a list of places at which a condition does not hold, in order.
abbrev pub lines_text : Parts → List Break → List ℕ
lines_text spec [] = []
lines_text spec (found ∷ rest) = break_line spec found ++ lines_text spec rest

-- The line with the number of places that have no line of their own, given the number of all places, or the empty
-- text if each place has a line.
abbrev pub more_text : ℕ → List ℕ
more_text count = if nat_lt MAX_BREAK_LINES count then codes "  and " ++ decimal (count - MAX_BREAK_LINES) ++ codes " more\n" else []

-- The lines for the first `MAX_BREAK_LINES` places, followed by a line with the number of the other places if there
-- are any.
abbrev pub shown_breaks_text : Parts → List Break → List ℕ
shown_breaks_text spec found = lines_text spec (take MAX_BREAK_LINES found) ++ more_text (length found)

-- The text for the places at which the condition with the number `condition` does not hold. The text is empty if the
-- condition holds or the number is not 1 to 13.
abbrev pub breaks_text : Parts → ℕ → List ℕ
breaks_text spec condition = shown_breaks_text spec (breaks spec condition)
