-- Lemmas on tests of some or of all elements of a mapped list.
use Rattle.std.proofs.Common.{◌≡◌, Bool, List, [], ◌∷◌, map, refl}
use Rattle.std.specs.List.{list_all, list_any}

pub all_mapped : {A : Type 0} (test other : A → Bool) (f : A → A) → ((x : A) → other (f x) ≡ test x) → (xs : List A) → list_all other (map f xs) ≡ list_all test xs
all_mapped test other f same [] = refl
all_mapped test other f same (x ∷ xs) = rw (same x, all_mapped test other f same xs) refl

pub any_mapped : {A : Type 0} (test other : A → Bool) (f : A → A) → ((x : A) → other (f x) ≡ test x) → (xs : List A) → list_any other (map f xs) ≡ list_any test xs
any_mapped test other f same [] = refl
any_mapped test other f same (x ∷ xs) = rw (same x, any_mapped test other f same xs) refl
