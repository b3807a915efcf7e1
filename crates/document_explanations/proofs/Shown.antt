-- Lemmas that a value whose items or members are copied without floats is the value without floats.
use Rattle.std.proofs.Common.{◌≡◌, ℕ, List, [], ◌∷◌, map, Ordering, Less, Equal, Greater, nat_cmp, refl, sym, ap, ◌∙◌}
use Rattle.std.specs.Cmp.Lexicographic.{slice_cmp}
use Rattle.std.specs.Ordering.{match_ordering}
use Rattle.serde_json.specs.Data.{Data, Members, item, member, no_members, put}
use Rattle.serde_json.specs.View.{items_of, items_view, view}
use Rattle.serde_json.specs.declared.value.Value.{Value}
use Rattle.document_explanations.specs.Values.{items_without_floats, members_without_floats, without_floats}

items_each : (vs : List Value) → items_of (map (λ (v : Value). without_floats (view v)) vs) ≡ items_without_floats (items_view vs)
items_each [] = refl
items_each (v ∷ vs) = ap (item (without_floats (view v))) (items_each vs)

-- If each of `copies` is the value at the same index of `vs` without floats, the list of the copies is the list `vs`
-- without floats.
pub items_shown : (copies vs : List Value) → map view copies ≡ map (λ (v : Value). without_floats (view v)) vs
    → items_view copies ≡ items_without_floats (items_view vs)
items_shown copies vs same = ap items_of same ∙ items_each vs

match_shown : (o : Ordering) (a b c : Members) → members_without_floats (match_ordering o a b c) ≡ match_ordering o (members_without_floats a) (members_without_floats b) (members_without_floats c)
match_shown Less a b c = refl
match_shown Equal a b c = refl
match_shown Greater a b c = refl

-- Adding a member without floats to members without floats has the same result as adding the member and then
-- replacing all floats.
pub put_shown : (k : List ℕ) (d : Data) (ms : Members) → put k (without_floats d) (members_without_floats ms) ≡ members_without_floats (put k d ms)
put_shown k d no_members = refl
put_shown k d (member l e ms) = rw (put_shown k d ms) (sym (match_shown (slice_cmp nat_cmp k l) (member k d (member l e ms)) (member l d ms) (member l e (put k d ms))))
