-- Laws on the tables of members, and on the length of a text that is shown.
use Rattle.std.specs.Prelude.{◌≡◌, ◌≤◌, ℕ, List, [], ◌∷◌, ◌++◌, codes, length, map, if◌then◌else◌}
use Rattle.std.specs.Fmt.{char_count}
use Rattle.std.specs.List.{filter}
use Rattle.serde_json.specs.Data.{Data}
use Rattle.spec_reading.specs.Versions.{first_members, has_demands, has_policy, members_count}
use Rattle.fault_script.specs.Versions.{member_count, version_of}
use Rattle.document_explanations.specs.Found.{cut, is_version_of}
use Rattle.document_explanations.specs.Objects.{Member, known_members}
use Rattle.document_explanations.specs.declared.objects.ObjectKind.{ObjectKind}
use Rattle.document_explanations.specs.declared.objects.ObjectKind.TheVariants as object

-- The names of the members that the table of an object has for the version of a document.
abbrev pub names_of : Data → ObjectKind → List (List ℕ)
names_of d object = map (λ (m : Member). m.name) (filter (λ (m : Member). is_version_of d m.versions) (known_members object))

-- The table of a specification has the members that the reader of specifications expects for the version of a
-- document, in order. For a specification and for a script, the table's number of members is the number that the
-- reader expects.
pub record TablesAreRead : Type 0 where
  pub specification : (d : Data) → names_of d object.Specification
      ≡ first_members ++ (if has_policy d then codes "policy" ∷ [] else []) ++ (if has_demands d then codes "demands" ∷ [] else [])
  pub specification_count : (d : Data) → length (names_of d object.Specification) ≡ members_count d
  pub script_count : (d : Data) → length (names_of d object.Script) ≡ member_count (version_of d)

-- `cut` shortens each text to at most 62 characters, including the two dots at the end of a shortened text.
abbrev pub FoundIsShort : Type 0
FoundIsShort = (text : List ℕ) → char_count (cut text) ≤ 62
