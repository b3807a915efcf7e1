-- The areas that applications begin with.
use Rattle.std.specs.Prelude.{ℕ, ℤ, List}
use Rattle.scram_types.specs.Eights.{eight}
use Rattle.kind_table.specs.Kinds.{kind_variable}

-- The value with which word `i` of an area of kind `kind` begins.
abbrev pub start_at : ℕ → ℕ → ℤ
start_at kind i = (kind_variable kind i).start

-- The area that an application of kind `kind` begins with. Its status is 4, as after an init phase.
abbrev pub start_of : ℕ → List ℤ
start_of kind = eight (start_at kind)
