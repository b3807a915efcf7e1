-- The parts of a document that are shown if the document breaks a rule.
use Rattle.std.specs.Prelude.{ℕ, ◌==◌, Bool, true, false, List, [], ◌∷◌, ◌++◌, Option, Some, None, codes, decimal, map, nat_lt, if◌then◌else◌}
use Rattle.std.specs.Fmt.{char_count, take_chars}
use Rattle.std.specs.Option.{option_map_or}
use Rattle.json.specs.Print.{quoted}
use Rattle.serde_json.specs.Data.{Data, Items, Members, member, no_members}
use Rattle.serde_json.specs.Events.{items_len}
use Rattle.serde_json.specs.Find.{as_array, as_object}
use Rattle.scram_doc.specs.declared.rule.TheConstants.{FURTHER_MEMBER, WRONG_LENGTH}
use Rattle.spec_reading.specs.Versions.{has_demands, has_policy, has_version}
use Rattle.document_explanations.specs.Objects.{Member, member_named, known_members}
use Rattle.document_explanations.specs.Paths.{value_at, wanted_at}
use Rattle.document_explanations.specs.Values.{value_text}
use Rattle.document_explanations.specs.Wants.{listed}
use Rattle.document_explanations.specs.declared.objects.ObjectKind.{ObjectKind}
use Rattle.document_explanations.specs.declared.wanted_values.Versions.{Versions}
use Rattle.document_explanations.specs.declared.wanted_values.Versions.TheVariants as versions
use Rattle.document_explanations.specs.declared.wanted_values.Wanted.{Wanted}
use Rattle.document_explanations.specs.declared.wanted_values.Wanted.TheVariants as wanted
use Rattle.document_explanations.specs.declared.rules.DocumentKind.{DocumentKind}

-- Whether the version of a document is one of `versions`.
abbrev pub is_version_of : Data → Versions → Bool
is_version_of d versions.All = true
is_version_of d versions.SecondOn = has_policy d
is_version_of d versions.Third = has_demands d
is_version_of d versions.Second = has_version 2 d

-- Whether the table of `object` has a member with this name for the version of document `d`.
abbrev pub is_known : Data → ObjectKind → List ℕ → Bool
is_known d object name = option_map_or (λ (m : Member). is_version_of d m.versions) (member_named (known_members object) name) false

-- The names of those members that the table of `object` does not have for the version of document `d`, in byte order.
abbrev pub further_names : Data → ObjectKind → Members → List (List ℕ)
further_names d object no_members = []
further_names d object (member name value members) =
    if is_known d object name then further_names d object members else name ∷ further_names d object members

-- The names of those members that the table of `object` does not have for the version of document `d`, as JSON texts
-- separated by a comma and a space.
abbrev pub further_text : Data → ObjectKind → Members → List ℕ
further_text d object members = listed (map quoted (further_names d object members))

-- The names of the members of `value` that the table of the expected object does not have for the version of document
-- `d`, or the empty text if no object is expected or `value` is not an object.
abbrev pub further_members : Data → Option Wanted → Data → List ℕ
further_members d None value = []
further_members d (Some (wanted.Object object)) value = option_map_or (further_text d object) (as_object value) []
further_members d (Some (wanted.List length element)) value = []
further_members d (Some (wanted.Number number)) value = []
further_members d (Some (wanted.Text text)) value = []

-- The number of elements of a list, followed by `elements`, or the empty text if the value is not a list.
abbrev pub elements_text : Data → List ℕ
elements_text value = option_map_or (λ (items : Items). decimal (items_len items) ++ codes " elements") (as_array value) []

-- The text that is shown for `value`, which was found at a path of document `d` where `rule` is broken. It has the
-- names of the members that are not known if `rule` is `FURTHER_MEMBER`, and the number of elements if `rule` is
-- `WRONG_LENGTH`. For any other rule, it is the JSON text of the value.
abbrev pub found_in : DocumentKind → ℕ → List ℕ → Data → Data → List ℕ
found_in kind rule path d value =
    if rule == FURTHER_MEMBER then further_members d (wanted_at kind rule path) value
    else (if rule == WRONG_LENGTH then elements_text value else value_text value)

-- The text that is shown for the value at a path where a rule is broken, or the empty text if the document has no
-- such path.
abbrev pub found_text_at : DocumentKind → ℕ → List ℕ → Data → List ℕ
found_text_at kind rule path d = option_map_or (found_in kind rule path d) (value_at path d) []

-- The text itself if it has at most 60 characters, and otherwise its first 60 characters and two dots.
abbrev pub cut : List ℕ → List ℕ
cut text = if nat_lt 60 (char_count text) then take_chars 60 text ++ codes ".." else text
