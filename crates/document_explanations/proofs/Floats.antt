-- Lemmas that a value has no float after its floats are replaced by texts.
use Rattle.std.proofs.Common.{◌≡◌, false, refl}
use Rattle.serde_json.specs.Data.{Data, Items, Members, Num, array, boolean, float, item, member, negative, no_items, no_members, null, number, object, string, unsigned}
use Rattle.serde_json.specs.Written.{has_float, items_have_float, members_have_float}
use Rattle.document_explanations.specs.Values.{items_without_floats, members_without_floats, unless_float, without_floats}

no_float : (n : Num) → has_float (unless_float n) ≡ false
no_float (unsigned n) = refl
no_float (negative z) = refl
no_float (float x) = refl

-- The value that `without_floats` returns has no float.
mutual
  pub has_no_float : (d : Data) → has_float (without_floats d) ≡ false
  has_no_float null = refl
  has_no_float (boolean b) = refl
  has_no_float (number n) = no_float n
  has_no_float (string s) = refl
  has_no_float (array ds) = items_have_no_float ds
  has_no_float (object ms) = members_have_no_float ms

  items_have_no_float : (ds : Items) → items_have_float (items_without_floats ds) ≡ false
  items_have_no_float no_items = refl
  items_have_no_float (item d ds) = rw (has_no_float d) (items_have_no_float ds)

  members_have_no_float : (ms : Members) → members_have_float (members_without_floats ms) ≡ false
  members_have_no_float no_members = refl
  members_have_no_float (member k d ms) = rw (has_no_float d) (members_have_no_float ms)
