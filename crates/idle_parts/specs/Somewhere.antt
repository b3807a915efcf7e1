-- Tests that pass in some environment in scope.
use Rattle.std.specs.Prelude.{Bool}
use Rattle.scram_types.specs.declared.rows.Env.{Env}
use Rattle.scram_types.specs.Searches.{any_below}
use Rattle.scram_types.specs.Specification.{Parts}
use Rattle.choice_table.specs.Numbering.{environments}
use Rattle.cube_cover.specs.Sizes.{passes_at}

-- Whether a test passes in some environment in scope.
abbrev pub passes_somewhere : Parts → (Env → Bool) → Bool
passes_somewhere spec test = any_below (passes_at spec test) (environments spec)
