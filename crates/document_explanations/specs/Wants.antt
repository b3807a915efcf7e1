-- The texts that describe expected values.
use Rattle.std.specs.Prelude.{ℕ, ◌+◌, List, [], ◌∷◌, ◌++◌, Option, Some, None, codes, decimal, map}
use Rattle.std.specs.Fmt.{signed_decimal}
use Rattle.std.specs.Option.{option_map_or}
use Rattle.scram_types.specs.Specification.{Parts}
use Rattle.scram_types.specs.declared.specification.Factor.{Factor}
use Rattle.scram_types.specs.declared.specification.Proc.{Proc}
use Rattle.kind_table.specs.Kinds.{Kind, Variable, kinds}
use Rattle.fault_script.specs.Times.{words}
use Rattle.fault_script.specs.Versions.{halts_limit}
use Rattle.fault_script.specs.declared.version.Version.TheVariants.{First, Second}
use Rattle.document_explanations.specs.Objects.{Member, known_members}
use Rattle.document_explanations.specs.declared.wanted_values.Length.{Length}
use Rattle.document_explanations.specs.declared.wanted_values.Length.TheVariants as extent
use Rattle.document_explanations.specs.declared.wanted_values.Number.{Number}
use Rattle.document_explanations.specs.declared.wanted_values.Number.TheVariants as number
use Rattle.document_explanations.specs.declared.wanted_values.Text.{Text}
use Rattle.document_explanations.specs.declared.wanted_values.Text.TheVariants as text
use Rattle.document_explanations.specs.declared.wanted_values.Versions.{Versions}
use Rattle.document_explanations.specs.declared.wanted_values.Versions.TheVariants as versions
use Rattle.document_explanations.specs.declared.wanted_values.Wanted.{Wanted}
use Rattle.document_explanations.specs.declared.wanted_values.Wanted.TheVariants as wanted
use Rattle.spec_reading.specs.Names.{name_of_proc}

-- The texts, each preceded by a comma and a space.
abbrev pub further_listed : List (List ℕ) → List ℕ
further_listed [] = []
further_listed (text ∷ texts) = codes ", " ++ text ++ further_listed texts

-- The texts, separated by a comma and a space.
abbrev pub listed : List (List ℕ) → List ℕ
listed [] = []
listed (text ∷ texts) = text ++ further_listed texts

-- The text that states which versions have a member, preceded by a space, or the empty text if all versions have it.
abbrev pub versions_text : Versions → List ℕ
versions_text versions.All = []
versions_text versions.SecondOn = codes " where scram is 2 or 3"
versions_text versions.Third = codes " where scram is 3"
versions_text versions.Second = codes " where scram is 2"

-- The name of a member, followed by the text that states which versions have it.
abbrev pub member_wanted : Member → List ℕ
member_wanted member = member.name ++ versions_text member.versions

-- A name preceded by a space, or the empty text if there is no name.
abbrev pub name_spaced : Option (List ℕ) → List ℕ
name_spaced None = []
name_spaced (Some name) = codes " " ++ name

-- The names in a list of optional names, each preceded by a space.
abbrev pub spaced : List (Option (List ℕ)) → List ℕ
spaced [] = []
spaced (name ∷ names) = name_spaced name ++ spaced names

-- The names of these variables, each preceded by a space. A variable without a name is left out.
abbrev pub variables_spaced : List Variable → List ℕ
variables_spaced variables = spaced (map (λ (variable : Variable). variable.name) variables)

-- The name of a kind.
abbrev pub kind_words : Kind → List ℕ
kind_words kind = kind.name

-- The name of a kind and a colon, followed by the names of its modes, each preceded by a space.
abbrev pub kind_and_modes : Kind → List ℕ
kind_and_modes kind = kind.name ++ codes ":" ++ spaced kind.modes

-- The name of a kind and a colon, followed by the names of the variables that it uses, each preceded by a space.
abbrev pub variables_text : Kind → List ℕ
variables_text kind = kind.name ++ codes ":" ++ variables_spaced kind.variables

-- The names, each preceded by a space.
abbrev pub names_spaced : List (List ℕ) → List ℕ
names_spaced [] = []
names_spaced (name ∷ names) = codes " " ++ name ++ names_spaced names

-- The name of a factor and a colon, followed by the names of its values, each preceded by a space.
abbrev pub factor_and_values : Factor → List ℕ
factor_and_values factor = factor.name ++ codes ":" ++ names_spaced factor.values

-- The names of the factors, each followed by the names of its values, or `-` if there are no factors.
abbrev pub factors_and_values : List Factor → List ℕ
factors_and_values [] = codes "-"
factors_and_values (factor ∷ factors) = listed (map factor_and_values (factor ∷ factors))

-- The factors of the specification that a script is for, or the empty list if there is no specification.
abbrev pub script_factors : Option Parts → List Factor
script_factors spec = option_map_or (λ (spec : Parts). spec.factors) spec []

-- The processors of the specification that a script is for, or the empty list if there is no specification.
abbrev pub script_procs : Option Parts → List Proc
script_procs spec = option_map_or (λ (spec : Parts). spec.procs) spec []

-- The number of the step that follows the mark in a frame, or 0 if there is no specification.
abbrev pub step_after_mark : Option Parts → ℕ
step_after_mark spec = option_map_or (λ (spec : Parts). words spec + 1) spec 0

-- The text that describes the expected number of elements of a list.
abbrev pub length_wanted : Length → List ℕ
length_wanted (extent.Within least most) = decimal least ++ codes " to " ++ decimal most ++ codes " elements"
length_wanted extent.Halts =
    codes "0 to " ++ decimal (halts_limit First) ++ codes " elements, 0 to " ++ decimal (halts_limit Second) ++ codes " where scram is 2"

-- The text that describes an expected number. `spec` is the specification that a script is for, or `None` if there is
-- none.
abbrev pub number_text : Option Parts → Number → List ℕ
number_text spec number.SpecificationVersion = codes "1, 2 or 3"
number_text spec number.ScriptVersion = codes "1 or 2"
number_text spec (number.Whole least greatest) = decimal least ++ codes " to " ++ decimal greatest
number_text spec (number.Signed least greatest) = signed_decimal least ++ codes " to " ++ signed_decimal greatest
number_text spec (number.Frame least) = decimal least ++ codes " to frames - 1"
number_text spec number.Step = codes "0 to " ++ decimal (step_after_mark spec)

-- The text that describes an expected text. `spec` is the specification that a script is for, or `None` if there is
-- none.
abbrev pub text_text : Option Parts → Text → List ℕ
text_text spec text.Name = codes "a name, 1 to 16 of a-z 0-9 _, a letter first"
text_text spec text.Processor = codes "the name of a processor"
text_text spec text.Application = codes "the name of an application"
text_text spec text.Configuration = codes "the name of a configuration"
text_text spec text.ConfigurationOrAny = codes "the name of a configuration, or *"
text_text spec text.Factor = codes "the name of a factor"
text_text spec text.Value = codes "the name of one of its values"
text_text spec text.Kind = listed (map kind_words kinds)
text_text spec text.Mode = listed (map kind_and_modes kinds)
text_text spec text.Variable = listed (map variables_text kinds)
text_text spec text.Policy = codes "retarget or settle"
text_text spec text.ScriptFactor = factors_and_values (script_factors spec)
text_text spec text.ScriptProcessor = listed (map name_of_proc (script_procs spec))

-- The text that describes an expected value. `spec` is the specification that a script is for, or `None` if there is
-- none.
abbrev pub wanted_text : Option Parts → Wanted → List ℕ
wanted_text spec (wanted.Object object) = listed (map member_wanted (known_members object))
wanted_text spec (wanted.List length element) = length_wanted length
wanted_text spec (wanted.Number number) = number_text spec number
wanted_text spec (wanted.Text text) = text_text spec text
