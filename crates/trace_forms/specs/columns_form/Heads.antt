-- The names of columns.
use Rattle.std.specs.Prelude.{ℕ, List, [], ◌∷◌, ◌++◌, codes}
use Rattle.std.specs.Option.{option_map_or}
use Rattle.scram_types.specs.Specification.{Parts}
use Rattle.scram_types.specs.declared.specification.AppSpec.{AppSpec}
use Rattle.scram_types.specs.declared.specification.Factor.{Factor}
use Rattle.scram_types.specs.declared.specification.Proc.{Proc}
use Rattle.kind_table.specs.Names.{name_in, variable_names}
use Rattle.form_base.specs.Texts.{texts_below}

-- The names of the columns of the factors.
abbrev pub factor_heads : List Factor → List ℕ
factor_heads [] = []
factor_heads (factor ∷ factors) = codes ",env." ++ factor.name ++ factor_heads factors

-- The names of the columns of the processors.
abbrev pub proc_heads : List Proc → List ℕ
proc_heads [] = []
proc_heads (proc ∷ procs) = codes ",up." ++ proc.name ++ proc_heads procs

-- The names of the columns that belong to no application: frame, mode, environment and world.
abbrev pub row_head : Parts → List ℕ
row_head spec =
    codes "frame,moving,from,halting,to,since" ++ factor_heads spec.factors ++ proc_heads spec.procs ++ codes ",altitude,climb,heading,bank"

-- The name of the column for word `i` in an application's area, or the empty text if the application's kind does not
-- use the word.
abbrev pub word_head : AppSpec → ℕ → List ℕ
word_head app i = option_map_or (λ (variable : List ℕ). codes "," ++ app.name ++ codes "." ++ variable) (name_in (variable_names app.kind.0) i) []

-- The names of the columns of an application.
abbrev pub app_head : AppSpec → List ℕ
app_head app =
    codes "," ++ app.name ++ codes ".act," ++ app.name ++ codes ".mode," ++ app.name ++ codes ".proc" ++ texts_below (word_head app) 8
