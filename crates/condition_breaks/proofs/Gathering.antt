-- A lemma on lists that are concatenated number by number.
use Rattle.std.proofs.Common.{ℕ, suc, ◌+◌, ◌≡◌, ◌∙◌, List, ◌++◌, ap, append_assoc, arith}
use Rattle.condition_breaks.specs.Lists.{gathered_below}

-- The lists of the numbers below `i`, followed by the list of `i`, are the lists of the numbers below `i + 1`.
pub gathered_next : {A : Type 0} (items : ℕ → List A) (i : ℕ) (front before after piece : List A)
    → before ≡ front ++ gathered_below items i → after ≡ before ++ piece → piece ≡ items i → after ≡ front ++ gathered_below items (i + 1)
gathered_next items i front before after piece first second is =
    let next : i + 1 ≡ suc i = omega arith in
    rw next (second ∙ ap (λ xs. xs ++ piece) first ∙ append_assoc front (gathered_below items i) piece ∙ ap (λ xs. front ++ (gathered_below items i ++ xs)) is)
