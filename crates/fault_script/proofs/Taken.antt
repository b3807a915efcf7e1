-- Facts that follow if a step of reading returns a value.
use Rattle.std.proofs.Common.{◌≡◌, ◌≤◌, ◌<◌, ◌+◌, ℕ, zero, suc, Bool, true, false, ◌&&◌, List, [], ◌∷◌, length, arith, refl, ap, sym, ◌∙◌, nat_lt, inl, inr}
use Rattle.std.specs.Prelude.{Option, Some, None, Result, Ok, Err, nat_le, option_and_then, bytes_eq, cond, slice_get, ⊤}
use Rattle.std.proofs.lemmas.Bool.{and_parts, or_cases, or_parts}
use Rattle.std.specs.List.{list_any}
use Rattle.std.proofs.lemmas.Bool.Decides.{nat_tests}
use Rattle.std.proofs.lemmas.Option.{option_and_then_some, cond_some, same_Some}
use Rattle.serde_json.specs.Data.{Data, Items}
use Rattle.serde_json.specs.Events.{items_len}
use Rattle.serde_json.specs.Find.{as_u64, as_number}
use Rattle.scram_doc.specs.declared.fault.DocFault.{DocFault}
use Rattle.scram_doc.specs.Chain.{chain}
use Rattle.scram_doc.specs.Faults.{broken, or_broken}
use Rattle.scram_doc.specs.Values.{items_within, list_at, whole_at, whole_below}
use Rattle.scram_types.specs.Lookups.{number_from}
use Rattle.fault_script.specs.Reading.{check}

pub chain_ok : {A B E P : Type 0} (x : Result A E) (f : A → Result B E) (b : B) → chain x f ≡ Ok b → ((a : A) → x ≡ Ok a → f a ≡ Ok b → P) → P
chain_ok (Ok a) f b e then = then a refl e
chain_ok (Err e) f b none then = absurd cc

pub or_broken_ok : {A : Type 0} (rule : ℕ) (at : List ℕ) (o : Option A) (a : A) → or_broken rule at o ≡ Ok a → o ≡ Some a
or_broken_ok rule at (Some x) a e = cc
or_broken_ok rule at None a e = absurd cc

pub kept_ok : (test : Bool) (rule : ℕ) (at : List ℕ) (u : ⊤) → check test rule at ≡ Ok u → test ≡ true
kept_ok true rule at u e = refl
kept_ok false rule at u e = absurd cc

pub record IsWithin (least end n : ℕ) : Type 0 where
  pub low : least ≤ n
  pub high : n < end

below : (least end m n : ℕ) → whole_below least end m ≡ Some n → IsWithin least end n
below least end m n e =
    let both = cond_some (nat_le least m && nat_lt m end) m n e in
    let parts = and_parts (nat_le least m) (nat_lt m end) both.0 in
    let same = both.1 in
    record { low = grind (arith, nat_tests, parts.0, same); high = grind (arith, nat_tests, parts.1, same) }

pub whole_at_ok : (least end : ℕ) (at : List ℕ) (d : Data) (n : ℕ) → whole_at least end at d ≡ Ok n → IsWithin least end n
whole_at_ok least end at d n e =
    option_and_then_some (whole_below least end) (option_and_then as_u64 (as_number d)) n (or_broken_ok _ at _ n e) (λ m _ there. below least end m n there)

taken : {A : Type 0} (test : Bool) (rule : ℕ) (at : List ℕ) (a b : A) → cond test (Ok a) (broken rule at) ≡ Ok b → (test ≡ true) × (a ≡ b)
taken true rule at a b e = (refl, cc)
taken false rule at a b e = absurd cc

items_ok : (least most : ℕ) (at : List ℕ) (ds es : Items) → items_within least most at ds ≡ Ok es → items_len es ≤ most
items_ok least most at ds es e =
    let both = taken (nat_le least (items_len ds) && nat_le (items_len ds) most) _ at ds es e in
    let few = and_parts (nat_le least (items_len ds)) (nat_le (items_len ds) most) both.0 in
    let same = ap items_len both.1 in
    grind (arith, nat_tests, few.1, same)

pub list_at_ok : (least most : ℕ) (at : List ℕ) (d : Data) (ds : Items) → list_at least most at d ≡ Ok ds → items_len ds ≤ most
list_at_ok least most at d ds e = chain_ok _ _ ds e (λ es _ there. items_ok least most at es ds there)

later : (test : Bool) (i k n : ℕ) (rest : Option ℕ) → (rest ≡ Some k → k < suc i + n) → cond test (Some i) rest ≡ Some k → k < i + suc n
later true i k n rest more e = let same = same_Some i k e in omega (arith, same)
later false i k n rest more e = let less = more e in omega (arith, less)

pub number_from_within : {A : Type 0} (name : A → List ℕ) (text : List ℕ) (i k : ℕ) (xs : List A) → number_from name i xs text ≡ Some k → k < i + length xs
number_from_within name text i k [] e = absurd cc
number_from_within name text i k (x ∷ xs) e =
    later (bytes_eq (name x) text) i k (length xs) (number_from name (suc i) xs text) (λ rest. number_from_within name text (suc i) k xs rest) e

pub if_ok : {A : Type 0} (test : Bool) (x : Result A DocFault) (rule : ℕ) (at : List ℕ) (a : A) → cond test x (broken rule at) ≡ Ok a → x ≡ Ok a
if_ok true x rule at a e = e
if_ok false x rule at a e = absurd cc

-- If no item of a list passes a test, the item at each index fails it.
pub none_passes : {A : Type 0} (p : A → Bool) (xs : List A) (i : ℕ) (y : A) → list_any p xs ≡ false → slice_get xs i ≡ Some y → p y ≡ false
none_passes p [] i y none e = absurd cc
none_passes p (x ∷ xs) zero y none e = let parts = or_parts (p x) (list_any p xs) none in ap p (sym (same_Some x y e)) ∙ parts.0
none_passes p (x ∷ xs) (suc i) y none e = let parts = or_parts (p x) (list_any p xs) none in none_passes p xs i y parts.1 e

-- If some item of a list passes a test, there is an index of such an item.
pub some_passes : {A P : Type 0} (p : A → Bool) (xs : List A) → list_any p xs ≡ true → ((i : ℕ) (y : A) → slice_get xs i ≡ Some y → p y ≡ true → P) → P
some_passes p [] some then = absurd cc
some_passes p (x ∷ xs) some then =
    elim (or_cases (p x) (list_any p xs) some) [ inl here ↦ then 0 x refl here | inr there ↦ some_passes p xs there (λ i y e yes. then (suc i) y e yes) ]
