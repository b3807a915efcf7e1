-- How a mode of a kind of application is read.
use Rattle.std.specs.Prelude.{ℕ, List, Result}
use Rattle.serde_json.specs.Data.{Data}
use Rattle.kind_table.specs.Names.{mode_names, number_in}
use Rattle.scram_doc.specs.declared.fault.DocFault.{DocFault}
use Rattle.scram_doc.specs.Chain.{chain}
use Rattle.scram_doc.specs.Faults.{or_broken}
use Rattle.scram_doc.specs.Values.{text_at}
use Rattle.spec_reading.specs.declared.rule.TheConstants.{UNKNOWN_MODE}

-- The mode of a kind that the text at a path names, or the first broken rule.
abbrev pub read_kind_mode : ℕ → List ℕ → Data → Result ℕ DocFault
read_kind_mode kind at d = chain (text_at at d) (λ (text : List ℕ). or_broken UNKNOWN_MODE at (number_in (mode_names kind) text))
