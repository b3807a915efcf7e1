-- How environment factors are read.
use Rattle.std.specs.Prelude.{ℕ, List, codes, Result, Ok}
use Rattle.serde_json.specs.Data.{Data}
use Rattle.scram_types.specs.declared.specification.Factor.{Factor}
use Rattle.scram_doc.specs.declared.fault.DocFault.{DocFault}
use Rattle.scram_doc.specs.Chain.{chain}
use Rattle.scram_doc.specs.Paths.{member_path}
use Rattle.scram_doc.specs.Members.{exactly_two_at}
use Rattle.scram_doc.specs.Lists.{elements_at}
use Rattle.spec_reading.specs.Numbering.{itself}
use Rattle.spec_reading.specs.Names.{read_new_name, name_of_factor}

-- The name of a factor's value that the text at path `at` encodes, or the first broken rule. No name of `done` may
-- equal it.
abbrev pub read_value_name : List ℕ → List (List ℕ) → Data → Result (List ℕ) DocFault
read_value_name at done d = read_new_name itself done at d

-- The factor that the value at path `at` encodes, or the first broken rule. No factor of `done` may have its name.
-- The factor has 2 to 4 values.
abbrev pub read_factor : List ℕ → List Factor → Data → Result Factor DocFault
read_factor at done d =
    chain (exactly_two_at (codes "name") (codes "values") at d) (λ (m : Data × Data).
    chain (read_new_name name_of_factor done (member_path at (codes "name")) m.0) (λ (name : List ℕ).
    chain (elements_at read_value_name 2 4 (member_path at (codes "values")) m.1) (λ (values : List (List ℕ)).
    Ok (record { name = name; values = values }))))

-- The 0 to 6 factors of a document, or the first broken rule.
abbrev pub read_factors : List ℕ → Data → Result (List Factor) DocFault
read_factors at d = elements_at read_factor 0 6 at d
