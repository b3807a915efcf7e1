-- The lines that answer a question about a specification.
use Rattle.std.specs.Prelude.{ℕ, List, ◌++◌, length, codes, decimal}
use Rattle.scram_types.specs.Lookups.{conf_name}
use Rattle.scram_types.specs.Specification.{Parts, bound_in}
use Rattle.scram_types.specs.declared.ids.ConfId.{ConfId}
use Rattle.choice_table.specs.Numbering.{states}
use Rattle.coverage_check.specs.Timing.{least}
use Rattle.trace_text.specs.Text.{bound_text}

-- The line of an accepted specification. It has the number of configurations of the specification, the number of
-- environments in scope, and the number of given bounds.
abbrev pub accepted_line : Parts → List ℕ
accepted_line spec =
    codes "accepted: configurations " ++ decimal (length spec.confs) ++ codes " states " ++ decimal (states spec)
    ++ codes " bounds " ++ decimal (length spec.bounds) ++ codes "\n"

-- The line of the bound from `from` to `to`. It has the smallest bound that suffices, in frames, and the given bound,
-- or `-` if no bound is given.
abbrev pub bound_line : Parts → ConfId → ConfId → List ℕ
bound_line spec from to =
    codes "bound " ++ conf_name spec from.0 ++ codes " " ++ conf_name spec to.0 ++ codes " least " ++ decimal (least spec from to)
    ++ codes " given " ++ bound_text (bound_in spec.bounds from.0 to.0) ++ codes "\n"
