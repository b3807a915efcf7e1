-- A member that is present is read from the value that was found for it.
use Rattle.std.proofs.Common.{◌≡◌, ℕ, List, []}
use Rattle.std.specs.Prelude.{Result, Ok}
use Rattle.serde_json.specs.Data.{Data}
use Rattle.scram_doc.specs.declared.fault.DocFault.{DocFault}
use Rattle.scram_doc.specs.declared.fault.DocError.{DocError}
use Rattle.scram_doc.specs.Faults.{Answers}
use Rattle.scram_doc.specs.Paths.{member_path}
use Rattle.scram_doc.specs.Members.{required_at}
use Rattle.spec_reading.specs.Members.{member_in}

pub read_member : {A B : Type 0} (name : List ℕ) (read : List ℕ → Data → Result A DocFault) (f : B → A) (d v : Data) (answer : Result B DocError)
    → required_at name [] d ≡ Ok v → Answers (read (member_path [] name) v) f answer → Answers (member_in name read d) f answer
read_member name read f d v answer there reads = rw (there) reads
