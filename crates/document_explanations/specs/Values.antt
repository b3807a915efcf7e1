-- The texts that explanations show for JSON values.
use Rattle.std.specs.Prelude.{ℕ, List, codes, if◌then◌else◌}
use Rattle.serde_json.specs.Data.{Data, Items, Members, Num, array, boolean, item, member, no_items, no_members, null, number, object, string}
use Rattle.serde_json.specs.Find.{is_float}
use Rattle.serde_json.specs.Written.{compact_text}

-- The number `n` as a value, or the text `a float` in its place if `n` is read as a float.
abbrev pub unless_float : Num → Data
unless_float n = if is_float n then string (codes "a float") else number n

-- A value in which each number that is read as a float is replaced by the text `a float`.
abbrev mutual
  pub without_floats : Data → Data
  without_floats null = null
  without_floats (boolean b) = boolean b
  without_floats (number n) = unless_float n
  without_floats (string s) = string s
  without_floats (array ds) = array (items_without_floats ds)
  without_floats (object ms) = object (members_without_floats ms)

  pub items_without_floats : Items → Items
  items_without_floats no_items = no_items
  items_without_floats (item d ds) = item (without_floats d) (items_without_floats ds)

  pub members_without_floats : Members → Members
  members_without_floats no_members = no_members
  members_without_floats (member k d ms) = member k (without_floats d) (members_without_floats ms)

-- The JSON text of a value, written without spaces. Each number that is read as a float is replaced by the text `a
-- float`.
abbrev pub value_text : Data → List ℕ
value_text d = compact_text (without_floats d)
