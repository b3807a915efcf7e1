-- The members of a document.
use Rattle.std.specs.Prelude.{ℕ, List, [], Result}
use Rattle.serde_json.specs.Data.{Data}
use Rattle.scram_doc.specs.declared.fault.DocFault.{DocFault}
use Rattle.scram_doc.specs.Chain.{chain}
use Rattle.scram_doc.specs.Paths.{member_path}
use Rattle.scram_doc.specs.Members.{required_at}

-- The value that `read` returns for a member of a document, or the first broken rule.
abbrev pub member_in : {A : Type 0} → List ℕ → (List ℕ → Data → Result A DocFault) → Data → Result A DocFault
member_in name read d = chain (required_at name [] d) (λ (value : Data). read (member_path [] name) value)
