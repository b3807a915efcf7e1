-- A lemma on the length of an index in a path.
use Rattle.std.proofs.Common.{ℕ, ◌<◌, ◌≤◌, ◌+◌, List, ◌∷◌, length, arith, length-append}
use Rattle.std.specs.Prelude.{decimal}
use Rattle.std.proofs.lemmas.Fmt.{length-decimal-le}
use Rattle.scram_doc.specs.Paths.{item_path}

-- An index below 100,000 has at most five digits.
pub length-decimal_index : (index : ℕ) → index < 100000 → length (decimal index) ≤ 5
length-decimal_index index below = length-decimal-le 5 index (omega arith) (omega (arith, below)) (omega (arith, below))

pub length-item_path : (at : List ℕ) (index : ℕ) → index < 100000 → length (item_path at index) ≤ length at + 6
length-item_path at index below = let digits = length-decimal_index index below in rw (length-append at (46 ∷ decimal index)) (omega (arith, digits))
