-- The reading of rules of the choice table.
use Rattle.std.specs.Prelude.{ℕ, ◌==◌, Bool, List, codes, Option, Some, None, slice_get, Result, Ok, if◌then◌else◌}
use Rattle.std.specs.List.{list_any}
use Rattle.std.specs.Str.{bytes_eq}
use Rattle.serde_json.specs.Data.{Data}
use Rattle.scram_types.specs.declared.ids.ConfId.{ConfId}
use Rattle.scram_types.specs.declared.specification.Proc.{Proc}
use Rattle.scram_types.specs.declared.specification.Conf.{Conf}
use Rattle.scram_types.specs.declared.specification.Factor.{Factor}
use Rattle.scram_types.specs.declared.specification.Want.{Want}
use Rattle.scram_types.specs.declared.specification.Choice.{Choice}
use Rattle.scram_doc.specs.declared.fault.DocFault.{DocFault}
use Rattle.scram_doc.specs.Chain.{chain, ok_map}
use Rattle.scram_doc.specs.Faults.{broken, or_broken}
use Rattle.scram_doc.specs.Paths.{member_path}
use Rattle.scram_doc.specs.Members.{exactly_four_at, exactly_two_at}
use Rattle.scram_doc.specs.Values.{text_at}
use Rattle.spec_reading.specs.declared.rule.TheConstants.{UNKNOWN_CONFIGURATION, UNKNOWN_FACTOR_OR_VALUE, TWICE_IN_LIST}
use Rattle.scram_doc.specs.Lists.{elements_at}
use Rattle.scram_types.specs.Lookups.{number_named}
use Rattle.spec_reading.specs.Names.{read_named, name_of_conf, name_of_factor}
use Rattle.spec_reading.specs.Numbering.{itself}
use Rattle.spec_reading.specs.Sets.{read_procs_set}

-- The configuration that a value names, or the first document rule that the value breaks.
abbrev pub read_conf_id : List Conf → List ℕ → Data → Result ConfId DocFault
read_conf_id confs at d = ok_map (λ (c : ℕ). record { 0 = c }) (read_named name_of_conf confs UNKNOWN_CONFIGURATION at d)

-- The configuration that a text names, `None` if the text is `*`, or the document rule that the text breaks.
abbrev pub source_named : List Conf → List ℕ → List ℕ → Result (Option ConfId) DocFault
source_named confs at text =
    if bytes_eq text (codes "*") then Ok None
    else ok_map (λ (c : ℕ). Some (record { 0 = c })) (or_broken UNKNOWN_CONFIGURATION at (number_named name_of_conf confs text))

-- The configuration that a value names, `None` if the value is `*`, or the first document rule that the value breaks.
abbrev pub read_source : List Conf → List ℕ → Data → Result (Option ConfId) DocFault
read_source confs at d = chain (text_at at d) (λ (text : List ℕ). source_named confs at text)

-- Whether one of the required values is a value of factor `f`.
abbrev pub wants_factor : List Want → ℕ → Bool
wants_factor wants f = list_any (λ (want : Want). want.factor.0 == f) wants

-- The number of the factor that a value names, or the first document rule that the value breaks. The required values
-- `done` must have no value of that factor.
abbrev pub read_new_factor : List Factor → List Want → List ℕ → Data → Result ℕ DocFault
read_new_factor factors done at d =
    chain (read_named name_of_factor factors UNKNOWN_FACTOR_OR_VALUE at d) (λ (f : ℕ).
    if wants_factor done f then broken TWICE_IN_LIST at else Ok f)

-- The index of the value that a text of the document names among the values of a factor, or the first document rule
-- that the text breaks. If the factor is `None`, it has no value of any name.
abbrev pub read_value_of : Option Factor → List ℕ → Data → Result ℕ DocFault
read_value_of None at d = broken UNKNOWN_FACTOR_OR_VALUE at
read_value_of (Some factor) at d = read_named itself factor.values UNKNOWN_FACTOR_OR_VALUE at d

-- The required value that a value encodes, given the factors and the required values `done` before it, or the first
-- document rule that the value breaks. No value in `done` may be a value of the same factor.
abbrev pub read_want : List Factor → List ℕ → List Want → Data → Result Want DocFault
read_want factors at done d =
    chain (exactly_two_at (codes "factor") (codes "value") at d) (λ (m : Data × Data).
    chain (read_new_factor factors done (member_path at (codes "factor")) m.0) (λ (f : ℕ).
    chain (read_value_of (slice_get factors f) (member_path at (codes "value")) m.1) (λ (value : ℕ).
    Ok (record { factor = record { 0 = f }; value = value }))))

-- The rule of the choice table that a value encodes, given the processors, configurations and factors that it may
-- name, or the first document rule that the value breaks.
abbrev pub read_choice : List Proc → List Conf → List Factor → List ℕ → List Choice → Data → Result Choice DocFault
read_choice procs confs factors at done d =
    chain (exactly_four_at (codes "from") (codes "when") (codes "up") (codes "to") at d) (λ (m : Data × Data × Data × Data).
    chain (read_source confs (member_path at (codes "from")) m.0) (λ (from : Option ConfId).
    chain (elements_at (read_want factors) 0 6 (member_path at (codes "when")) m.1) (λ (wants : List Want).
    chain (read_procs_set procs 0 (member_path at (codes "up")) m.2) (λ (up : ℕ).
    chain (read_conf_id confs (member_path at (codes "to")) m.3) (λ (to : ConfId).
    Ok (record { from = from; wants = wants; up = up; to = to }))))))

-- The 0 to 64 rules of the choice table that a value encodes, or the first document rule that the value breaks.
abbrev pub read_choices : List Proc → List Conf → List Factor → List ℕ → Data → Result (List Choice) DocFault
read_choices procs confs factors at d = elements_at (read_choice procs confs factors) 0 64 at d
