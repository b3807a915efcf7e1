-- The fields of the line of a row.
use Rattle.std.specs.Prelude.{ℕ, ℤ, pos, ◌+◌, ◌==◌, ◌%◌, ◌/◌, List, [], ◌∷◌, ◌++◌, slice_index, slice_index_or, Option, Some, None, codes, decimal, if◌then◌else◌}
use Rattle.std.specs.Fmt.{signed_decimal}
use Rattle.std.specs.Option.{option_map_or}
use Rattle.scram_types.specs.Lookups.{conf_name, proc_name, value_name}
use Rattle.scram_types.specs.Specification.{Parts}
use Rattle.scram_types.specs.declared.rows.Row.{Row}
use Rattle.scram_types.specs.declared.rows.World.{World}
use Rattle.scram_types.specs.declared.ids.ConfId.{ConfId}
use Rattle.scram_types.specs.declared.ids.ProcId.{ProcId}
use Rattle.scram_types.specs.declared.orders.Act.{Act}
use Rattle.scram_types.specs.declared.orders.KMode.{KMode}
use Rattle.scram_types.specs.declared.orders.KMode.TheVariants.{Stable, Moving}
use Rattle.scram_types.specs.declared.specification.AppSpec.{AppSpec}
use Rattle.scram_types.specs.declared.specification.Factor.{Factor}
use Rattle.scram_types.specs.declared.specification.Proc.{Proc}
use Rattle.kind_table.specs.Names.{mode_text, name_in, variable_names}
use Rattle.flight_facts.specs.Acts.{act_of, act_word, mode_of_act, proc_of_act, word_text}
use Rattle.form_base.specs.Texts.{texts_below}

-- The name of a configuration, or the empty text if there is none.
abbrev pub conf_field : Parts → Option ConfId → List ℕ
conf_field spec None = []
conf_field spec (Some c) = conf_name spec c.0

-- The fields of a mode: whether the mode is moving, the source, the halting configuration, the target and `since`.
-- The configuration of a stable mode is in the field of the source, and the fields after it are empty.
abbrev pub mode_fields : Parts → KMode → List ℕ
mode_fields spec (Stable c) = codes ",0," ++ conf_name spec c.0 ++ codes ",,,"
mode_fields spec (Moving from halting to since) =
    codes ",1," ++ conf_name spec from.0 ++ codes "," ++ conf_field spec halting ++ codes "," ++ conf_name spec to.0 ++ codes "," ++ decimal since

-- A field for each factor, with the name of the factor's value. `i` is the number of the first factor.
abbrev pub value_fields : List Factor → ℕ → List ℕ → List ℕ
value_fields [] i values = []
value_fields (factor ∷ factors) i values = codes "," ++ value_name factor (slice_index values i) ++ value_fields factors (i + 1) values

-- A field for each processor, which is 1 if the processor is up and 0 otherwise. The lowest bit of `up` belongs to
-- the first processor.
abbrev pub up_fields : List Proc → ℕ → List ℕ
up_fields [] up = []
up_fields (proc ∷ procs) up = (if up % 2 == 1 then codes ",1" else codes ",0") ++ up_fields procs (up / 2)

-- The fields of the world: altitude, climb, heading and bank.
abbrev pub world_fields : World → List ℕ
world_fields world =
    codes "," ++ signed_decimal world.alt ++ codes "," ++ signed_decimal world.climb ++ codes "," ++ signed_decimal world.heading
    ++ codes "," ++ signed_decimal world.bank

-- The fields of a row that belong to no application: frame, mode, environment and world.
abbrev pub row_fields : Parts → Row → List ℕ
row_fields spec row =
    decimal row.frame ++ mode_fields spec row.mode ++ value_fields spec.factors 0 row.env.factors ++ up_fields spec.procs row.env.up ++ world_fields row.world

-- The name of a processor, or the empty text if there is none.
abbrev pub proc_field : Parts → Option ProcId → List ℕ
proc_field spec None = []
proc_field spec (Some p) = proc_name spec p.0

-- The fields of an act: its word, its mode and its processor. The field of the mode is empty if the application did
-- not run, and the field of the processor is empty if the act names none.
abbrev pub act_fields : Parts → ℕ → Act → List ℕ
act_fields spec kind act =
    codes "," ++ word_text (act_word act) ++ codes "," ++ mode_text kind (mode_of_act act) ++ codes "," ++ proc_field spec (proc_of_act act)

-- The field of word `i` of an application's area, or the empty text if the kind does not use the word.
abbrev pub word_field : ℕ → List ℤ → ℕ → List ℕ
word_field kind area i = option_map_or (λ (variable : List ℕ). codes "," ++ signed_decimal (slice_index_or area i (pos 0))) (name_in (variable_names kind) i) []

-- The fields of application `a` in a row: the fields of its act, and the words of its area that the application's
-- kind uses.
abbrev pub app_fields : Parts → Row → ℕ → AppSpec → List ℕ
app_fields spec row a app =
    act_fields spec app.kind.0 (act_of row a) ++ texts_below (word_field app.kind.0 (slice_index_or row.areas a [])) 8
