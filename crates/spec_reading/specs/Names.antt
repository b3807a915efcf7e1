-- Names, and the items that they name.
use Rattle.std.specs.Prelude.{ℕ, List, is_some, Result, Ok, if◌then◌else◌}
use Rattle.serde_json.specs.Data.{Data}
use Rattle.scram_types.specs.declared.specification.Proc.{Proc}
use Rattle.scram_types.specs.declared.specification.AppSpec.{AppSpec}
use Rattle.scram_types.specs.declared.specification.Conf.{Conf}
use Rattle.scram_types.specs.declared.specification.Factor.{Factor}
use Rattle.scram_types.specs.declared.demands.Demand.{Demand}
use Rattle.scram_types.specs.Lookups.{number_named}
use Rattle.scram_types.specs.Names.{name_of}
use Rattle.scram_doc.specs.declared.fault.DocFault.{DocFault}
use Rattle.scram_doc.specs.Chain.{chain}
use Rattle.scram_doc.specs.Faults.{broken, or_broken}
use Rattle.scram_doc.specs.Values.{text_at}
use Rattle.spec_reading.specs.declared.rule.TheConstants.{NO_NAME, NAME_TWICE}

-- The name of a processor.
abbrev pub name_of_proc : Proc → List ℕ
name_of_proc proc = proc.name

-- The name of an application.
abbrev pub name_of_app : AppSpec → List ℕ
name_of_app app = app.name

-- The name of a configuration.
abbrev pub name_of_conf : Conf → List ℕ
name_of_conf conf = conf.name

-- The name of an environment factor.
abbrev pub name_of_factor : Factor → List ℕ
name_of_factor factor = factor.name

-- The name of a demand.
abbrev pub name_of_demand : Demand → List ℕ
name_of_demand demand = demand.name

-- The name that the text at a path encodes, or the first broken rule.
abbrev pub read_name : List ℕ → Data → Result (List ℕ) DocFault
read_name at d = chain (text_at at d) (λ (text : List ℕ). or_broken NO_NAME at (name_of text))

-- The name that the text at a path encodes, or the first broken rule. No item of the list may have this name.
abbrev pub read_new_name : {A : Type 0} → (A → List ℕ) → List A → List ℕ → Data → Result (List ℕ) DocFault
read_new_name name xs at d =
    chain (read_name at d) (λ (new : List ℕ). if is_some (number_named name xs new) then broken NAME_TWICE at else Ok new)

-- The index of the list's item that the text at a path names, or the first broken rule. `rule` is broken if no item
-- has this name.
abbrev pub read_named : {A : Type 0} → (A → List ℕ) → List A → ℕ → List ℕ → Data → Result ℕ DocFault
read_named name xs rule at d = chain (text_at at d) (λ (text : List ℕ). or_broken rule at (number_named name xs text))
