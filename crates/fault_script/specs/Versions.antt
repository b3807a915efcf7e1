-- The two versions of the script document.
use Rattle.std.specs.Prelude.{ℕ, ◌==◌, codes, Option, Some, None, option_and_then, if◌then◌else◌}
use Rattle.serde_json.specs.Data.{Data}
use Rattle.serde_json.specs.Find.{as_number, as_u64, get}
use Rattle.fault_script.specs.declared.version.Version.{Version}
use Rattle.fault_script.specs.declared.version.Version.TheVariants.{First, Second}

-- The version that the number in the member `scram` selects: the second for 2, else the first.
abbrev pub version_from : Option ℕ → Version
version_from (Some n) = if n == 2 then Second else First
version_from None = First

-- The version of a document: the second if its member `scram` is the number 2, else the first.
abbrev pub version_of : Data → Version
version_of d = version_from (option_and_then as_u64 (option_and_then as_number (get (codes "scram") d)))

-- The number of members of a document of this version.
abbrev pub member_count : Version → ℕ
member_count First = 4
member_count Second = 5

-- The maximum number of halts in a document of this version.
abbrev pub halts_limit : Version → ℕ
halts_limit First = 8
halts_limit Second = 16
