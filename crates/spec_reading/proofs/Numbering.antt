-- The index of a name in a list of names is the index that a search through the named items finds.
use Rattle.std.proofs.Common.{◌≡◌, ℕ, ◌+◌, Bool, true, false, cond, List, [], ◌∷◌, ◌++◌, map, refl, ap, sym, ◌∙◌}
use Rattle.std.specs.Prelude.{Option, Some, None}
use Rattle.std.specs.List.{list_any, position_from}
use Rattle.std.specs.Str.{bytes_eq}
use Rattle.std.proofs.lemmas.List.{map-append}
use Rattle.std.proofs.lemmas.Iterator.Adapters.{position_from-zero}
use Rattle.indexmap.specs.IndexSet.{insert_key}
use Rattle.spec_reading.specs.Numbering.{itself, index_named}

named_from : {A : Type 0} (name : A → List ℕ) (text : List ℕ) (number : ℕ) (xs : List A)
    → position_from (λ (n : List ℕ). bytes_eq text (itself n)) number (map name xs) ≡ position_from (λ (x : A). bytes_eq text (name x)) number xs
named_from name text number [] = refl
named_from name text number (x ∷ xs) = rw (named_from name text (number + 1) xs) refl

-- A search for a name among the names of items finds the same index as a search among the items.
pub place_of_names : {A : Type 0} (name : A → List ℕ) (xs : List A) (text : List ℕ) → index_named itself (map name xs) text ≡ index_named name xs text
place_of_names {A} name xs text =
    position_from-zero (λ (n : List ℕ). bytes_eq text (itself n)) (map name xs) ∙ named_from name text 0 xs
    ∙ sym (position_from-zero (λ (x : A). bytes_eq text (name x)) xs)

absent_by : (b : Bool) (number : ℕ) (rest : Option ℕ) → cond b (Some number) rest ≡ None → b ≡ false
absent_by true number rest e = absurd cc
absent_by false number rest e = refl

rest_by : (b : Bool) (number : ℕ) (rest : Option ℕ) → cond b (Some number) rest ≡ None → rest ≡ None
rest_by true number rest e = absurd cc
rest_by false number rest e = e

absent : {A : Type 0} (test : A → Bool) (number : ℕ) (xs : List A) → position_from test number xs ≡ None → list_any test xs ≡ false
absent test number [] none = refl
absent test number (x ∷ xs) none =
    rw (absent_by (test x) number (position_from test (number + 1) xs) none)
    (absent test (number + 1) xs (rest_by (test x) number (position_from test (number + 1) xs) none))

same_any : {A : Type 0} (test other : A → Bool) → ((y : A) → test y ≡ other y) → (xs : List A) → list_any test xs ≡ list_any other xs
same_any test other same [] = refl
same_any test other same (x ∷ xs) = rw (same x, same_any test other same xs) refl

-- If no item of the list has the name of `x`, inserting `x` as a key appends the name of `x` to the list of names.
pub added : {A : Type 0} (name : A → List ℕ) (eq : A → A → Bool) (xs : List A) (x : A) (text : List ℕ)
    → ((y : A) → eq x y ≡ bytes_eq (name x) (name y)) → name x ≡ text → index_named itself (map name xs) text ≡ None
    → map name (insert_key eq xs x) ≡ map name xs ++ text ∷ []
added {A} name eq xs x text same named none =
    let by_name : (y : A) → eq x y ≡ bytes_eq text (name y) = λ y. same y ∙ ap (λ t. bytes_eq t (name y)) named in
    let nowhere : position_from (λ (y : A). bytes_eq text (name y)) 0 xs ≡ None =
    sym (position_from-zero (λ (y : A). bytes_eq text (name y)) xs) ∙ sym (place_of_names name xs text) ∙ none in
    let new : list_any (eq x) xs ≡ false = same_any (eq x) (λ (y : A). bytes_eq text (name y)) by_name xs ∙ absent (λ (y : A). bytes_eq text (name y)) 0 xs nowhere in
    rw (new) (map-append name xs (x ∷ []) ∙ ap (λ t. map name xs ++ t ∷ []) named)
