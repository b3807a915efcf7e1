-- A specification and a script that are read and written.
use Rattle.std.specs.Prelude.{◌≡◌, ◌++◌, ℕ, List, [], Ok}
use Rattle.scram_types.specs.Scripts.{ScriptParts}
use Rattle.scram_types.specs.Specification.{Parts}
use Rattle.scram_io.specs.Outside.{SinkState, taken}
use Rattle.spec_reading.specs.Documents.{spec_of}
use Rattle.fault_script.specs.Reading.{script_of}
use Rattle.mission_gen.specs.Specifications.{mission_text}

-- The bytes encode this specification and this script.
pub record IsRead (spec_bytes script_bytes : List ℕ) (spec : Parts) (script : ScriptParts) : Type 0 where
  pub spec_reads : spec_of spec_bytes ≡ Ok spec
  pub script_reads : script_of spec script_bytes ≡ Ok script

-- The canonical texts of the specification and the script were sent, after all bytes that the sink had taken before.
-- No bytes are held back.
pub record AreSent (spec : Parts) (script : ScriptParts) (old new : SinkState) : Type 0 where
  pub sent : new.sent ≡ taken old ++ mission_text spec script
  pub held : new.held ≡ []

-- The bytes encode a specification and a script, and the canonical texts of both were sent.
pub record IsPrinted (spec_bytes script_bytes : List ℕ) (old new : SinkState) : Type 0 where
  pub spec : Parts
  pub script : ScriptParts
  pub reads : IsRead spec_bytes script_bytes spec script
  pub sends : AreSent spec script old new
