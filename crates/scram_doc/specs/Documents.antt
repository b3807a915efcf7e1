-- The JSON value that bytes encode.
use Rattle.std.specs.Prelude.{ℕ, List, [], Option, None, Result, if◌then◌else◌}
use Rattle.std.specs.Str.{is_utf8}
use Rattle.serde_json.specs.Data.{Data}
use Rattle.serde_json.specs.Read.{read}
use Rattle.scram_doc.specs.declared.fault.DocFault.{DocFault}
use Rattle.scram_doc.specs.declared.rule.TheConstants.{NO_JSON_TEXT}
use Rattle.scram_doc.specs.Faults.{or_broken}

-- The value of a JSON text that nests at most 127 levels deep. It is `None` if the bytes are not UTF-8 or not such a
-- text.
abbrev pub document : List ℕ → Option Data
document bytes = if is_utf8 bytes then read bytes else None

-- The JSON value that the bytes encode. Rule 1 is broken at the root if they are not a JSON text.
abbrev pub parsed : List ℕ → Result Data DocFault
parsed bytes = or_broken NO_JSON_TEXT [] (document bytes)
