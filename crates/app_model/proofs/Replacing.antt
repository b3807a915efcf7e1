-- If one element of a list is replaced, the other elements do not change.
use Rattle.std.proofs.Common.{◌≡◌, ◌∙◌, refl, ap, ℕ, zero, suc, List, [], ◌∷◌, slice_set}
use Rattle.std.specs.Prelude.{slice_get}
use Rattle.app_model.specs.Racks.{OthersStay}

other_stays : {A : Type 0} (xs : List A) (at i : ℕ) (x : A) → (i ≡ at → ⊥) → slice_get (slice_set xs at x) i ≡ slice_get xs i
other_stays [] at i x apart = refl
other_stays (y ∷ ys) zero zero x apart = absurd (apart refl)
other_stays (y ∷ ys) zero (suc i) x apart = refl
other_stays (y ∷ ys) (suc at) zero x apart = refl
other_stays (y ∷ ys) (suc at) (suc i) x apart = other_stays ys at i x (λ same. apart (ap suc same))

pub others_stay : {A : Type 0} (xs : List A) (at place : ℕ) (x : A) → at ≡ place → OthersStay xs (slice_set xs at x) place
others_stay xs at place x same i apart = other_stays xs at i x (λ e. apart (e ∙ same))
