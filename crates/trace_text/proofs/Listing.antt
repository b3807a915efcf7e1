-- The names that are still to be written, joined by commas. If a name has been written already, each of these names
-- is preceded by a comma.
use Rattle.std.specs.Prelude.{ℕ, Bool, List, if◌then◌else◌}
use Rattle.trace_text.specs.Names.{joined, further_joined}

abbrev pub rest_of : Bool → List (List ℕ) → List ℕ
rest_of shown names = if shown then further_joined names else joined names
