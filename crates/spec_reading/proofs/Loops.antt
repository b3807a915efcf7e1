-- Lemmas on the end of a loop of steps that may fail, and on a step of the loop that fails.
use Rattle.std.proofs.Common.{◌≡◌, ◌<◌, ◌≤◌, ◌∙◌, ℕ, List, drop, get_or, length, refl, sym}
use Rattle.std.specs.Prelude.{Result, Ok, Err}
use Rattle.std.specs.Result.{IsErrAnd}
use Rattle.std.proofs.lemmas.List.{at_drop_all, at_drop_more}
use Rattle.serde_json.specs.Data.{Data}
use Rattle.serde_json.specs.View.{view, items_view}
use Rattle.serde_json.specs.declared.value.Value.{Value}
use Rattle.scram_doc.specs.declared.fault.DocFault.{DocFault}
use Rattle.scram_doc.specs.Lists.{folded_from}
use Rattle.scram_doc.specs.Paths.{item_path}

-- If `whole` is the result of the steps from index `i` on, and there is no value at `i`, then `whole` is the state
-- before these steps.
pub steps_done : {S : Type 0} (step : List ℕ → S → Data → Result S DocFault) (at : List ℕ) (i : ℕ) (made : S) (vs : List Value)
    → (whole : Result S DocFault) → length vs ≤ i → folded_from step at i made (items_view (drop i vs)) ≡ whole → Ok made ≡ whole
steps_done step at i made vs whole past so_far =
    sym (at_drop_all (λ (ws : List Value). folded_from step at i made (items_view ws)) vs i past) ∙ so_far

-- If `whole` is the result of the steps from index `i` on, and the step at `i` fails, then an answer with the same
-- fault is `whole`.
pub step_failed : {S : Type 0} (step : List ℕ → S → Data → Result S DocFault) (at : List ℕ) (i : ℕ) (made : S) (vs : List Value) (v : Value)
    → (fault : DocFault) (answer whole : Result S DocFault) → i < length vs → v ≡ get_or vs i v → Err fault ≡ step (item_path at i) made (view v)
    → IsErrAnd answer (λ (e : DocFault). e ≡ fault) → folded_from step at i made (items_view (drop i vs)) ≡ whole → answer ≡ whole
step_failed step at i made vs v fault (Ok next) whole below is fails kept so_far = absurd kept
step_failed step at i made vs v fault (Err e) whole below is fails kept so_far =
    let failed = at_drop_more (λ (ws : List Value). folded_from step at i made (items_view ws)) vs i v below ∙ rw (← is, ← fails) refl in
    rw (kept) (sym failed ∙ so_far)
