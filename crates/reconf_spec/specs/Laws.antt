-- The law that names are spelled by the same rule in documents and in specifications.
use Rattle.std.specs.Prelude.{◌≡◌, ℕ, List}
use Rattle.scram_doc.specs.Names.{spelled_name}
use Rattle.scram_types.specs.Names.{name_of}

-- A text spells a name in a document if and only if it spells the same name in a specification.
abbrev pub NamesAreOne : Type 0
NamesAreOne = (text : List ℕ) → spelled_name text ≡ name_of text
