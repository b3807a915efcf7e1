-- A lemma on the choice between a refusal with an explanation and an out-of-memory refusal.
use Rattle.std.proofs.Common.{◌⊎◌, inl, inr}

-- If `A` implies `B`, and `A` or `M` holds, then `B` or `M` holds.
pub either : {A B M : Type 0} → (A → B) → A ⊎ M → B ⊎ M
either seen (inl is) = inl (seen is)
either seen (inr none) = inr none
