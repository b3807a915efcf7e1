-- The expected value at a path of a document, and the value that was found there. The levels of a path are names of
-- members and indexes of elements.
use Rattle.std.specs.Prelude.{ℕ, ◌==◌, List, [], ◌∷◌, Option, Some, None, option_and_then, option_map, if◌then◌else◌}
use Rattle.std.specs.Option.{option_or}
use Rattle.serde_json.specs.Data.{Data}
use Rattle.serde_json.specs.Find.{at, get}
use Rattle.scram_doc.specs.declared.rule.TheConstants.{MISSING_MEMBER}
use Rattle.trace_text.specs.Pieces.{pieces_of}
use Rattle.trace_text.specs.Spelling.{spelled_number}
use Rattle.document_explanations.specs.Objects.{Member, member_named, known_members}
use Rattle.document_explanations.specs.Rules.{root_of}
use Rattle.document_explanations.specs.declared.wanted_values.Element.{Element}
use Rattle.document_explanations.specs.declared.wanted_values.Element.TheVariants as element
use Rattle.document_explanations.specs.declared.wanted_values.Wanted.{Wanted}
use Rattle.document_explanations.specs.declared.wanted_values.Wanted.TheVariants as wanted
use Rattle.document_explanations.specs.declared.paths.TheConstants.{INDEX_END}
use Rattle.document_explanations.specs.declared.rules.DocumentKind.{DocumentKind}

-- A path without its first dot, which is byte 46, or the empty text if the path does not begin with a dot.
abbrev pub after_dot : List ℕ → List ℕ
after_dot [] = []
after_dot (b ∷ path) = if b == 46 then path else []

-- The levels in a text, which are separated by dots. An empty text has no levels.
abbrev pub levels_in : List ℕ → List (List ℕ)
levels_in [] = []
levels_in (b ∷ text) = pieces_of 46 (b ∷ text)

-- The levels of a path. The path of the whole document has no levels.
abbrev pub levels_of : List ℕ → List (List ℕ)
levels_of path = levels_in (after_dot path)

-- The expected value of an element of a list.
abbrev pub wanted_element : Element → Wanted
wanted_element (element.Object object) = wanted.Object object
wanted_element (element.Text text) = wanted.Text text

-- The expected value one level below an expected value, or `None` if there is no such level. All elements of a list
-- have the same expected value.
abbrev pub wanted_below : Wanted → List ℕ → Option Wanted
wanted_below (wanted.Object object) level = option_map (λ (member : Member). member.wanted) (member_named (known_members object) level)
wanted_below (wanted.List length element) level = Some (wanted_element element)
wanted_below (wanted.Number number) level = None
wanted_below (wanted.Text text) level = None

-- The expected value that is reached from the expected value `w` along the levels, or `None` if no expected value is
-- reached.
abbrev pub wanted_along : List (List ℕ) → Wanted → Option Wanted
wanted_along [] w = Some w
wanted_along (level ∷ levels) w = option_and_then (wanted_along levels) (wanted_below w level)

-- The levels without the last one.
abbrev pub all_but_last : List (List ℕ) → List (List ℕ)
all_but_last [] = []
all_but_last (level ∷ []) = []
all_but_last (level ∷ next ∷ levels) = level ∷ all_but_last (next ∷ levels)

-- The levels of the value whose expected value is shown. If a member is missing, they are the levels of its object,
-- and otherwise the levels of the path.
abbrev pub wanted_levels : ℕ → List ℕ → List (List ℕ)
wanted_levels rule path = if rule == MISSING_MEMBER then all_but_last (levels_of path) else levels_of path

-- The expected value at a path where a rule of a document is broken, or `None` if this kind of document has no such
-- path. If a member is missing, it is the expected value of the member's object.
abbrev pub wanted_at : DocumentKind → ℕ → List ℕ → Option Wanted
wanted_at kind rule path = wanted_along (wanted_levels rule path) (wanted.Object (root_of kind))

-- The member of `d` whose name is `level`, or else the element of `d` whose index is `level`, or `None` if there is
-- neither.
abbrev pub child : List ℕ → Data → Option Data
child level d = option_or (get level d) (option_and_then (λ (i : ℕ). at i d) (spelled_number INDEX_END level))

-- The value that is reached from the value `d` along the levels, or `None` if there is none.
abbrev pub value_along : List (List ℕ) → Data → Option Data
value_along [] d = Some d
value_along (level ∷ levels) d = option_and_then (value_along levels) (child level d)

-- The value at a path of a document, or `None` if there is none.
abbrev pub value_at : List ℕ → Data → Option Data
value_at path d = value_along (levels_of path) d
