-- Lists that are read element by element. An element may depend on the elements before it.
use Rattle.std.specs.Prelude.{◌≡◌, ℕ, suc, List, [], ◌∷◌, ◌++◌, take, slice_get, Some, Result, Ok}
use Rattle.serde_json.specs.Data.{Data, Items, no_items, item}
use Rattle.scram_doc.specs.declared.fault.DocFault.{DocFault}
use Rattle.scram_doc.specs.Chain.{chain}
use Rattle.scram_doc.specs.Paths.{item_path}
use Rattle.scram_doc.specs.Values.{list_at}

-- The elements `done`, followed by the elements that `read` returns for the values of the list, or the first fault.
-- The first value of the list has index `i`.
abbrev pub elements_from : {A : Type 0} → (List ℕ → List A → Data → Result A DocFault) → List ℕ → ℕ → List A → Items → Result (List A) DocFault
elements_from read at i done no_items = Ok done
elements_from {A} read at i done (item d ds) =
    chain (read (item_path at i) done d) (λ (x : A). elements_from read at (suc i) (done ++ x ∷ []) ds)

-- The elements that `read` returns for the values of the list at path `at`, or the first fault. Rule 5 is broken at
-- the path if the value is not a list, and rule 6 if the list does not have `least` to `most` elements.
abbrev pub elements_at : {A : Type 0} → (List ℕ → List A → Data → Result A DocFault) → ℕ → ℕ → List ℕ → Data → Result (List A) DocFault
elements_at read least most at d = chain (list_at least most at d) (λ (ds : Items). elements_from read at 0 [] ds)

-- The state after the steps of all elements, or the first fault. The first element has index `i`, and `made` is the
-- state before it. `step` returns the next state, given an element's path, the state before and the element.
abbrev pub folded_from : {S : Type 0} → (List ℕ → S → Data → Result S DocFault) → List ℕ → ℕ → S → Items → Result S DocFault
folded_from step at i made no_items = Ok made
folded_from {S} step at i made (item d ds) =
    chain (step (item_path at i) made d) (λ (next : S). folded_from step at (suc i) next ds)

-- Each element satisfies `Fact` together with the elements before it.
abbrev pub AllAfter : {A : Type 0} → (List A → A → Type 0) → List A → Type 0
AllAfter {A} Fact xs = (i : ℕ) (x : A) → slice_get xs i ≡ Some x → Fact (take i xs) x
