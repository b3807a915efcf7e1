-- The reading of sets of numbers from lists of names. No name occurs twice in a list.
use Rattle.std.specs.Prelude.{ℕ, ◌^◌, bit_or, ◌||◌, List, Result, Ok, if◌then◌else◌}
use Rattle.serde_json.specs.Data.{Data, Items}
use Rattle.scram_types.specs.declared.specification.AppSpec.{AppSpec}
use Rattle.scram_types.specs.declared.specification.Conf.{Conf}
use Rattle.scram_types.specs.declared.specification.Proc.{Proc}
use Rattle.scram_types.specs.Bits.{has_bit}
use Rattle.scram_doc.specs.declared.fault.DocFault.{DocFault}
use Rattle.scram_doc.specs.Chain.{chain}
use Rattle.scram_doc.specs.Faults.{broken}
use Rattle.scram_doc.specs.Lists.{folded_from}
use Rattle.scram_doc.specs.Values.{list_at}
use Rattle.spec_reading.specs.declared.rule.TheConstants.{TWICE_IN_LIST, UNKNOWN_APPLICATION, UNKNOWN_CONFIGURATION, UNKNOWN_PROCESSOR}
use Rattle.spec_reading.specs.Names.{name_of_app, name_of_conf, name_of_proc, read_named}

-- The set `set` with the number of the item that a text names, or the first document rule that the text breaks. The
-- number must be neither in `set` nor in `barred`. A name of no item breaks the rule `unknown`.
abbrev pub read_into : {A : Type 0} → (A → List ℕ) → List A → ℕ → ℕ → List ℕ → ℕ → Data → Result ℕ DocFault
read_into name xs unknown barred at set d =
    chain (read_named name xs unknown at d) (λ (n : ℕ).
    if has_bit set n || has_bit barred n then broken TWICE_IN_LIST at else Ok (bit_or set (2 ^ n)))

-- The set of the items that a list names, or the first document rule that the list breaks. The list has at most
-- `most` names.
abbrev pub read_set : {A : Type 0} → (A → List ℕ) → List A → ℕ → ℕ → ℕ → List ℕ → Data → Result ℕ DocFault
read_set name xs unknown barred most at d = chain (list_at 0 most at d) (λ (ds : Items). folded_from (read_into name xs unknown barred) at 0 0 ds)

-- The set of the 0 to 8 processors that a list names, or the first document rule that the list breaks. None of the
-- processors may be in `barred`.
abbrev pub read_procs_set : List Proc → ℕ → List ℕ → Data → Result ℕ DocFault
read_procs_set procs barred at d = read_set name_of_proc procs UNKNOWN_PROCESSOR barred 8 at d

-- The set of the 0 to 8 applications that a list names, or the first document rule that the list breaks. None of the
-- applications may be in `barred`.
abbrev pub read_apps_set : List AppSpec → ℕ → List ℕ → Data → Result ℕ DocFault
read_apps_set apps barred at d = read_set name_of_app apps UNKNOWN_APPLICATION barred 8 at d

-- The set of the 0 to 12 configurations that a list names, or the first document rule that the list breaks.
abbrev pub read_confs_set : List Conf → List ℕ → Data → Result ℕ DocFault
read_confs_set confs at d = read_set name_of_conf confs UNKNOWN_CONFIGURATION 0 12 at d
