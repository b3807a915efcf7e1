-- The lines of idle parts.
use Rattle.std.specs.Prelude.{ℕ, List, ◌++◌, codes}
use Rattle.scram_types.specs.Lookups.{conf_name}
use Rattle.scram_types.specs.Specification.{Parts}
use Rattle.scram_types.specs.declared.specification.Bound.{Bound}
use Rattle.idle_parts.specs.declared.lines.PartKind.{PartKind}
use Rattle.idle_parts.specs.declared.lines.PartKind.TheVariants.{Rule, Conf, Factor, Bound as BoundKind, Mode, App, Proc, Demand}

-- The word for a kind of part.
abbrev pub part_word : PartKind → List ℕ
part_word Rule = codes "rule"
part_word Conf = codes "configuration"
part_word Factor = codes "factor"
part_word BoundKind = codes "bound"
part_word Mode = codes "mode"
part_word App = codes "application"
part_word Proc = codes "processor"
part_word Demand = codes "demand"

-- The line of an idle part, given its kind and its name or number.
abbrev pub idle_line : PartKind → List ℕ → List ℕ
idle_line kind name = codes "  idle " ++ part_word kind ++ codes " " ++ name ++ codes "\n"

-- The names of the two configurations of a bound, with a space between them.
abbrev pub pair_text : Parts → Bound → List ℕ
pair_text spec bound = conf_name spec bound.from.0 ++ codes " " ++ conf_name spec bound.to.0
