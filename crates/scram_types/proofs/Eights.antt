-- Lemmas on lists of eight elements.
use Rattle.std.proofs.Common.{◌≡◌, ℕ, zero, suc, ◌<◌, refl, arith}
use Rattle.std.specs.Prelude.{slice_index_or}
use Rattle.scram_types.specs.Eights.{eight}

pub eight_same : {A : Type 0} (f g : ℕ → A) → ((a : ℕ) → a < 8 → f a ≡ g a) → eight f ≡ eight g
eight_same f g same =
    rw (same 0 (omega arith), same 1 (omega arith), same 2 (omega arith), same 3 (omega arith), same 4 (omega arith), same 5 (omega arith), same 6 (omega arith), same 7 (omega arith)) refl

pub eight_at : {A : Type 0} (value : ℕ → A) (a : ℕ) (d : A) → a < 8 → slice_index_or (eight value) a d ≡ value a
eight_at value zero d low = refl
eight_at value (suc zero) d low = refl
eight_at value (suc (suc zero)) d low = refl
eight_at value (suc (suc (suc zero))) d low = refl
eight_at value (suc (suc (suc (suc zero)))) d low = refl
eight_at value (suc (suc (suc (suc (suc zero))))) d low = refl
eight_at value (suc (suc (suc (suc (suc (suc zero)))))) d low = refl
eight_at value (suc (suc (suc (suc (suc (suc (suc zero))))))) d low = refl
eight_at value (suc (suc (suc (suc (suc (suc (suc (suc a)))))))) d low = absurd (omega arith)
