-- The index of a name in a list and the search through the list find the same item.
use Rattle.std.proofs.Common.{◌≡◌, ◌+◌, ℕ, suc, List, [], ◌∷◌, arith, refl, ◌∙◌}
use Rattle.std.specs.List.{position_from}
use Rattle.std.specs.Str.{bytes_eq}
use Rattle.std.proofs.lemmas.Cmp.{nat_list_eq_equiv}
use Rattle.std.proofs.lemmas.Iterator.Adapters.{position_from-zero}
use Rattle.spec_reading.specs.Numbering.{index_named}
use Rattle.scram_types.specs.Lookups.{number_from, number_named}

same_bytes : (xs ys : List ℕ) → bytes_eq xs ys ≡ bytes_eq ys xs
same_bytes xs ys = nat_list_eq_equiv.symm xs ys

first_place : {A : Type 0} (name : A → List ℕ) (text : List ℕ) (number : ℕ) (xs : List A)
    → position_from (λ (x : A). bytes_eq text (name x)) number xs ≡ number_from name number xs text
first_place name text number [] = refl
first_place name text number (x ∷ xs) =
    let next : number + 1 ≡ suc number = omega arith in
    rw (same_bytes text (name x), next, first_place name text (suc number) xs) refl

pub place_found : {A : Type 0} (name : A → List ℕ) (xs : List A) (text : List ℕ) → index_named name xs text ≡ number_named name xs text
place_found {A} name xs text = position_from-zero (λ (x : A). bytes_eq text (name x)) xs ∙ first_place name text 0 xs
