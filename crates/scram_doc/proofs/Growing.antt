-- Lemmas on lists that grow as their elements are read.
use Rattle.std.proofs.Common.{◌≡◌, ◌<◌, ◌+◌, ℕ, zero, suc, List, [], ◌∷◌, ◌++◌, length, drop, get_or, arith, refl, sym, subst, ◌∙◌}
use Rattle.std.specs.Prelude.{Some, None, Result, Ok, Err}
use Rattle.std.specs.Result.{IsErrAnd}
use Rattle.std.proofs.lemmas.List.{at_drop_more}
use Rattle.serde_json.specs.Data.{Data}
use Rattle.serde_json.specs.View.{view, items_view}
use Rattle.serde_json.specs.declared.value.Value.{Value}
use Rattle.scram_doc.specs.declared.fault.DocError.{DocError}
use Rattle.scram_doc.specs.declared.fault.DocError.TheVariants.{Fault, NoMemory}
use Rattle.scram_doc.specs.declared.fault.DocFault.{DocFault}
use Rattle.scram_doc.specs.Faults.{Answers}
use Rattle.scram_doc.specs.Paths.{item_path}
use Rattle.scram_doc.specs.Lists.{elements_from, folded_from}
use Rattle.scram_doc.specs.Lists.{AllAfter}

same : {A : Type 0} (x y : A) → Some x ≡ Some y → x ≡ y
same x y e = cc

-- If each element of a list satisfies `Fact` with the elements before it, and `x` satisfies `Fact` with the whole
-- list, then each element of the list extended by `x` satisfies `Fact` with the elements before it.
pub after_push : {A : Type 0} → (Fact : List A → A → Type 0) → (xs : List A) → (x : A) → AllAfter Fact xs → Fact xs x → AllAfter Fact (xs ++ x ∷ [])
after_push Fact [] x all new zero y e = subst (λ (z : _). Fact [] z) (same x y e) new
after_push Fact [] x all new (suc i) y e = absurd (let none : None ≡ Some y = e in cc)
after_push Fact (a ∷ rest) x all new zero y e = all zero y e
after_push {A} Fact (a ∷ rest) x all new (suc i) y e =
    after_push (λ (ys : List A) (z : A). Fact (a ∷ ys) z) rest x (λ j z f. all (suc j) z f) new i y e

-- If `whole` is the result of reading from index `i` on, and the value at `i` is read as `x`, then `whole` is also
-- the result of reading from index `i + 1` on with `x` appended to `done`.
pub element_read : {A : Type 0} → (read : List ℕ → List A → Data → Result A DocFault) → (at : List ℕ) (i : ℕ) (done : List A) (vs : List Value) (v : Value) (x : A) (whole : Result (List A) DocFault)
    → i < length vs → v ≡ get_or vs i v → read (item_path at i) done (view v) ≡ Ok x
    → elements_from read at i done (items_view (drop i vs)) ≡ whole
    → elements_from read at (i + 1) (done ++ x ∷ []) (items_view (drop (i + 1) vs)) ≡ whole
element_read read at i done vs v x whole below is value so_far =
    let more : suc i ≡ i + 1 = omega arith in
    sym (at_drop_more (λ (ws : List Value). elements_from read at i done (items_view ws)) vs i v below ∙ rw (← is, value, more) refl) ∙ so_far

-- If `whole` is the result of reading from index `i` on, and the value at `i` is refused with an error, then an answer
-- with the same error answers `whole`.
pub element_refused : {A C : Type 0} → (read : List ℕ → List A → Data → Result A DocFault) → (at : List ℕ) (i : ℕ) (done : List A) (vs : List Value) (v : Value) (items : C → List A)
    → (path : List ℕ) (before : List A) (error : DocError) (answer : Result C DocError) (whole : Result (List A) DocFault)
    → i < length vs → v ≡ get_or vs i v → path ≡ item_path at i → before ≡ done → Answers (read path before (view v)) (λ (x : A). x) (Err error)
    → IsErrAnd answer (λ (e : DocError). e ≡ error)
    → elements_from read at i done (items_view (drop i vs)) ≡ whole → Answers whole items answer
element_refused read at i done vs v items path before error (Ok x) whole below is here same refused kept so_far = absurd kept
element_refused read at i done vs v items path before (Fault fault) (Err e) whole below is here same refused kept so_far =
    let at_place : read (item_path at i) done (view v) ≡ Err fault = rw (← here, ← same) refused in
    rw (kept) (sym so_far ∙ at_drop_more (λ (ws : List Value). elements_from read at i done (items_view ws)) vs i v below ∙ rw (← is, at_place) refl)
element_refused read at i done vs v items path before NoMemory (Err e) whole below is here same refused kept so_far = rw (kept) tt

-- If `whole` is the result of the steps from index `i` on, and the step at `i` leads to state `next`, then `whole` is
-- also the result of the steps from index `i + 1` on in state `next`.
pub step_made : {S : Type 0} → (step : List ℕ → S → Data → Result S DocFault) → (at : List ℕ) (i : ℕ) (made : S) (vs : List Value) (v : Value) (next : S) (whole : Result S DocFault)
    → i < length vs → v ≡ get_or vs i v → step (item_path at i) made (view v) ≡ Ok next
    → folded_from step at i made (items_view (drop i vs)) ≡ whole
    → folded_from step at (i + 1) next (items_view (drop (i + 1) vs)) ≡ whole
step_made step at i made vs v next whole below is value so_far =
    let more : suc i ≡ i + 1 = omega arith in
    sym (at_drop_more (λ (ws : List Value). folded_from step at i made (items_view ws)) vs i v below ∙ rw (← is, value, more) refl) ∙ so_far
