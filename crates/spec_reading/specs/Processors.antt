-- How processors are read.
use Rattle.std.specs.Prelude.{ℕ, List, codes, Result, Ok}
use Rattle.serde_json.specs.Data.{Data}
use Rattle.scram_types.specs.declared.specification.Proc.{Proc}
use Rattle.scram_doc.specs.declared.fault.DocFault.{DocFault}
use Rattle.scram_doc.specs.Chain.{chain}
use Rattle.scram_doc.specs.Paths.{member_path}
use Rattle.scram_doc.specs.Members.{exactly_two_at}
use Rattle.scram_doc.specs.Values.{whole_at}
use Rattle.scram_doc.specs.Lists.{elements_at}
use Rattle.spec_reading.specs.Names.{read_new_name, name_of_proc}

-- The processor that the value at a path encodes, or the first broken rule. No processor of `done` may have its name.
abbrev pub read_proc : List ℕ → List Proc → Data → Result Proc DocFault
read_proc at done d =
    chain (exactly_two_at (codes "name") (codes "capacity") at d) (λ (m : Data × Data).
    chain (read_new_name name_of_proc done (member_path at (codes "name")) m.0) (λ (name : List ℕ).
    chain (whole_at 0 1000001 (member_path at (codes "capacity")) m.1) (λ (capacity : ℕ).
    Ok (record { name = name; capacity = capacity }))))

-- The 1 to 8 processors of a document, or the first broken rule.
abbrev pub read_procs : List ℕ → Data → Result (List Proc) DocFault
read_procs at d = elements_at read_proc 1 8 at d
