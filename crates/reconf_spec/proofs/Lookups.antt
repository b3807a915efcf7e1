-- Lemmas on lookups by name in a list whose names differ: item `n` is found by its name, and its name is not found
-- among the items before it.
use Rattle.std.proofs.Common.{◌≡◌, ◌+◌, ◌<◌, ℕ, zero, suc, Bool, true, false, List, [], ◌∷◌, ◌++◌, length, take, arith, refl, sym, ap, subst}
use Rattle.std.specs.Prelude.{Some, None, slice_get}
use Rattle.std.specs.Bool.{Decides}
use Rattle.std.specs.Str.{bytes_eq}
use Rattle.std.proofs.lemmas.Slice.Eq.{bytes_eq-Decides}
use Rattle.scram_types.proofs.FoundByName.{found_named}
use Rattle.scram_types.proofs.Items.{next_part, some_item}
use Rattle.scram_types.proofs.Options.{same_some}
use Rattle.scram_types.specs.Specification.{NamesDiffer}
use Rattle.scram_types.specs.Lookups.{number_from}
use Rattle.scram_doc.specs.Lists.{AllAfter}
use Rattle.reconf_spec.specs.Texts.{name_of_item}

pub number_back : {A : Type 0} (name : A → List ℕ) (xs : List A) (n : ℕ) → NamesDiffer name xs → n < length xs → number_from name 0 xs (name_of_item name xs n) ≡ Some n
number_back name xs n differ below = some_item xs n below (λ x there.
    let is : number_from name 0 xs (name x) ≡ Some (0 + n) = found_named name 0 n xs x differ there in
    let number : 0 + n ≡ n = omega arith in
    rw (there, is, number) refl)

not_so : (test : Bool) (P : Type 0) → Decides test P → (P → ⊥) → test ≡ false
not_so true P decides apart = absurd (apart (decides.0 refl))
not_so false P decides apart = refl

-- If the names of a list differ, no element before `x` has the name of `x`.
none_before : {A : Type 0} (name : A → List ℕ) (k : ℕ) (xs : List A) (x : A) (after : List A) → NamesDiffer name (xs ++ x ∷ after) → number_from name k xs (name x) ≡ None
none_before name k [] x after differ = refl
none_before name k (y ∷ ys) x after differ =
    let apart = not_so (bytes_eq (name y) (name x)) (name y ≡ name x) (bytes_eq-Decides (name y) (name x))
    (λ same. let first : 0 ≡ suc (length ys) = differ 0 (suc (length ys)) y x refl (next_part ys after x) same in omega (arith, first)) in
    rw (apart) (none_before name (suc k) ys x after
    (λ a b p q there other same. let next : suc a ≡ suc b = differ (suc a) (suc b) p q there other same in omega (arith, next)))

cut : {A : Type 0} (xs : List A) (i : ℕ) (x : A) (P : Type 0) → slice_get xs i ≡ Some x → ((after : List A) → take i xs ++ x ∷ after ≡ xs → P) → P
cut [] i x P e then = absurd (let none : None ≡ Some x = e in cc)
cut (y ∷ ys) zero x P e then = then ys (ap (λ z. z ∷ ys) (sym (same_some y x e)))
cut (y ∷ ys) (suc i) x P e then = cut ys i x P e (λ after is. then after (ap (λ zs. y ∷ zs) is))

-- If the names of a list differ, each name is new as it is read.
pub all_new : {A : Type 0} (name : A → List ℕ) (xs : List A) → NamesDiffer name xs → AllAfter (λ (done : List A) (x : A). number_from name 0 done (name x) ≡ None) xs
all_new {A} name xs differ i x e = cut xs i x _ e (λ after is.
    none_before name 0 (take i xs) x after (subst (NamesDiffer name) (sym is) differ))
