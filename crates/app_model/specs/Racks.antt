-- The condition on racks, given the functions that read a box's kind and a rack's boxes.
use Rattle.std.specs.Prelude.{◌≡◌, ℕ, List, [], ◌∷◌, length, map, All, slice_get}

-- The list has five boxes, and the box at index `k` is of kind `k`.
abbrev pub RackFits : {B : Type 0} → (B → ℕ) → List B → Type 0
RackFits kind boxes = map kind boxes ≡ 0 ∷ 1 ∷ 2 ∷ 3 ∷ 4 ∷ []

-- Each rack has five boxes, one for each of the kinds 0 to 4, in the order of kinds.
abbrev pub AllRacksFit : {B R : Type 0} → (B → ℕ) → (R → List B) → List R → Type 0
AllRacksFit kind boxes racks = All (λ r. RackFits kind (boxes r)) racks

-- There are eight racks, one for each processor, and each rack has the boxes of kinds 0 to 4, in the order of kinds.
abbrev pub RacksFit : {B R : Type 0} → (B → ℕ) → (R → List B) → List R → Type 0
RacksFit kind boxes racks = (length racks ≡ 8) × AllRacksFit kind boxes racks

-- Every element of the list except the element at index `place` is unchanged.
abbrev pub OthersStay : {A : Type 0} → List A → List A → ℕ → Type 0
OthersStay old new place = (i : ℕ) → (i ≡ place → ⊥) → slice_get new i ≡ slice_get old i
