-- Numbers and lists of values are read back as written.
use Rattle.std.proofs.Common.{◌≡◌, ◌≤◌, ◌<◌, ℕ, suc, List, [], ◌∷◌, ◌++◌, length, map, arith, refl, ap, ◌∙◌, sym, subst, append_assoc, append-nil}
use Rattle.std.specs.Prelude.{Result, Ok, Some, slice_get}
use Rattle.std.proofs.Math.Seq.{take-append_seam}
use Rattle.std.proofs.lemmas.Bool.{le-leb, lt-ltb}
use Rattle.std.proofs.lemmas.List.{map-append}
use Rattle.serde_json.specs.Data.{Data, Items}
use Rattle.serde_json.specs.Events.{items_len}
use Rattle.serde_json.specs.View.{items_of}
use Rattle.scram_doc.specs.declared.fault.DocFault.{DocFault}
use Rattle.scram_doc.specs.Canonical.{list_data}
use Rattle.scram_doc.specs.Chain.{chain}
use Rattle.scram_doc.specs.Lists.{AllAfter, elements_at, elements_from}
use Rattle.scram_doc.specs.Paths.{item_path}
use Rattle.scram_doc.specs.Values.{items_within, whole_below}

-- If the first step of a chain succeeds with the value `a`, the chain has the result of `rest` at `a`.
pub chained : {A B E : Type 0} (r : Result A E) (rest : A → Result B E) (a : A) (b : Result B E) → r ≡ Ok a → rest a ≡ b → chain r rest ≡ b
chained r rest a b e f = rw (e) f

pub whole_back : (least end n : ℕ) → least ≤ n → n < end → whole_below least end n ≡ Some n
whole_back least end n low high = rw (le-leb least n low, lt-ltb n end high) refl

seam : {A : Type 0} (xs : List A) (x : A) (ys : List A) → slice_get (xs ++ x ∷ ys) (length xs) ≡ Some x
seam [] x ys = refl
seam (y ∷ xs) x ys = seam xs x ys

-- If each element of the list `before ++ x ∷ after` satisfies a fact with the elements before it, `x` satisfies the
-- fact with the elements `before`.
pub fact_after : {A : Type 0} (Fact : List A → A → Type 0) (before : List A) (x : A) (after : List A) → AllAfter Fact (before ++ x ∷ after) → Fact before x
fact_after {A} Fact before x after all =
    subst (λ (ys : List A). Fact ys x) (take-append_seam before (x ∷ after)) (all (length before) x (seam before x after))

-- If each written element `x` is read as `give x`, the written list is read as the list of these values.
pub elements_given : {A B : Type 0} (Fact : List B → B → Type 0) (read : List ℕ → List A → Data → Result A DocFault) (f : B → Data) (give : B → A)
    → ((at : List ℕ) (done : List B) (x : B) → Fact done x → read at (map give done) (f x) ≡ Ok (give x))
    → (at : List ℕ) (i : ℕ) (before xs whole : List B) → before ++ xs ≡ whole → AllAfter Fact whole
    → elements_from read at i (map give before) (items_of (map f xs)) ≡ Ok (map give whole)
elements_given {A} {B} Fact read f give back at i before [] whole e all = ap (λ (ys : List B). Ok (map give ys)) (sym (append-nil before) ∙ e)
elements_given {A} {B} Fact read f give back at i before (x ∷ xs) whole e all =
    rw (back (item_path at i) before x (fact_after Fact before x xs (subst (AllAfter Fact) (sym e) all)), ← map-append give before (x ∷ []))
    (elements_given Fact read f give back at (suc i) (before ++ x ∷ []) xs whole (append_assoc before (x ∷ []) xs ∙ e) all)

items_count : {A : Type 0} → (f : A → Data) → (xs : List A) → items_len (items_of (map f xs)) ≡ length xs
items_count f [] = refl
items_count f (x ∷ xs) = ap suc (items_count f xs)

pub within_back : (least most : ℕ) (at : List ℕ) (ds : Items) → least ≤ items_len ds → items_len ds ≤ most → items_within least most at ds ≡ Ok ds
within_back least most at ds enough few = rw (le-leb least (items_len ds) enough, le-leb (items_len ds) most few) refl

pub items_back : {A : Type 0} → (f : A → Data) → (least most : ℕ) → (at : List ℕ) → (xs : List A) → least ≤ length xs → length xs ≤ most
    → items_within least most at (items_of (map f xs)) ≡ Ok (items_of (map f xs))
items_back f least most at xs enough few =
    let count = items_count f xs in
    within_back least most at (items_of (map f xs)) (omega (arith, count, enough)) (omega (arith, count, few))

-- If each element is read back as written, the whole list is read back as written.
module _ {A : Type 0} (Fact : List A → A → Type 0) (read : List ℕ → List A → Data → Result A DocFault) (f : A → Data)
    (back : (at : List ℕ) (done : List A) (x : A) → Fact done x → read at done (f x) ≡ Ok x) where
  elements_back : (at : List ℕ) (i : ℕ) (before xs whole : List A) → before ++ xs ≡ whole → AllAfter Fact whole
      → elements_from read at i before (items_of (map f xs)) ≡ Ok whole
  elements_back at i before [] whole e all = ap (λ (ys : List A). Ok ys) (sym (append-nil before) ∙ e)
  elements_back at i before (x ∷ xs) whole e all =
      rw (back (item_path at i) before x (fact_after Fact before x xs (subst (AllAfter Fact) (sym e) all)))
      (elements_back at (suc i) (before ++ x ∷ []) xs whole (append_assoc before (x ∷ []) xs ∙ e) all)

  pub list_back : (least most : ℕ) (at : List ℕ) (xs : List A) → least ≤ length xs → length xs ≤ most → AllAfter Fact xs
      → elements_at read least most at (list_data f xs) ≡ Ok xs
  list_back least most at xs enough few all =
      chained (items_within least most at (items_of (map f xs))) (λ (ds : Items). elements_from read at 0 [] ds) (items_of (map f xs)) (Ok xs)
      (items_back f least most at xs enough few) (elements_back at 0 [] xs xs refl all)
