-- Worked missions, computed and compared with the results of another program.
use Rattle.std.proofs.Common.{◌≡◌, refl, ℕ, List, [], ◌∷◌, length}
use Rattle.std.specs.Prelude.{replicate}
use Rattle.scram_types.specs.declared.scripts.Change.{Change}
use Rattle.mission_gen.specs.Blocks.{random}
use Rattle.mission_gen.specs.Changes.{changes_by, frames_of, last_block, generated_halt}
use Rattle.mission_gen.specs.Turns.{turns_to}

abbrev change : ℕ → ℕ → ℕ → Change
change frame factor value = record { frame = frame; factor = record { 0 = factor }; value = value }

-- The changes in the blocks 1 to `k` of mission `n`.
abbrev first_changes : ℕ → ℕ → List Change
first_changes n k = changes_by (replicate 6 0) (turns_to n k)

randoms_0 : random 0 1 ∷ random 0 2 ∷ random 0 3 ∷ random 0 4 ∷ random 0 5 ∷ [] ≡ 12345 ∷ 1406932606 ∷ 654583775 ∷ 1449466924 ∷ 229283573 ∷ []
randoms_0 = refl

-- The changes in the blocks 1 to 6 of mission 0. Block 5 has no change.
changes_0 : first_changes 0 6
    ≡ change 60 0 1 ∷ change 126 0 0 ∷ change 187 0 1 ∷ change 187 3 1 ∷ change 244 1 1 ∷ change 364 1 0 ∷ change 364 4 1 ∷ change 366 0 0 ∷ []
changes_0 = refl

halt_0 : generated_halt 0 ≡ record { proc = record { 0 = 0 }; frame = 306; step = 25 }
halt_0 = refl

changes_1 : first_changes 1 3
    ≡ change 66 0 1 ∷ change 74 1 1 ∷ change 120 0 0 ∷ change 124 1 0 ∷ change 184 1 1 ∷ change 184 3 1 ∷ []
changes_1 = refl

halt_999999 : generated_halt 999999 ≡ record { proc = record { 0 = 1 }; frame = 307; step = 22 }
halt_999999 = refl

-- The shortest script has 16 blocks, and the longest has 316.
shortest : frames_of 0 ∷ last_block (frames_of 0) ∷ frames_of 18 ∷ last_block (frames_of 18) ∷ [] ≡ 1000 ∷ 16 ∷ 19000 ∷ 316 ∷ []
shortest = refl

how_many : length (first_changes 0 16) ∷ length (first_changes 344128 16) ∷ [] ≡ 27 ∷ 25 ∷ []
how_many = refl
