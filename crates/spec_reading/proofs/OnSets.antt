-- Lemmas on the set of the applications that must be on.
use Rattle.std.proofs.Common.{◌≡◌, ◌∙◌, ◌<◌, ◌^◌, ℕ, true, sym, List}
use mathlib.Core.Logic.{inl, inr}
use Rattle.std.specs.Prelude.{Option, None, is_some}
use Rattle.scram_types.specs.declared.ids.Mode.{Mode}
use Rattle.scram_types.specs.Bits.{has_bit}
use Rattle.scram_types.proofs.BitSets.{has_bits, no_bit_past}
use Rattle.scram_types.proofs.Booleans.{true_false}
use Rattle.scram_types.proofs.Naturals.{low_or_high}
use Rattle.scram_types.proofs.Options.{none_if_not_some}
use Rattle.spec_reading.specs.Configurations.{given}
use Rattle.spec_reading.specs.Demands.{on_set}
use Rattle.spec_reading.specs.TableFacts.{IsApart}

-- If no application of `off` is in `on_set on`, the list `on` has no modes for any application of `off`.
pub off_apart : (on : List (Option (List Mode))) (off : ℕ) → off < 2 ^ 8 → IsApart off (on_set on) → (a : ℕ) → has_bit off a ≡ true → given on a ≡ None
off_apart on off few apart a is = elim (low_or_high a 8) [
  | inl low ↦ none_if_not_some (given on a) (sym (has_bits (λ b. is_some (given on b)) 8 a low) ∙ apart a is)
  | inr high ↦ true_false (has_bit off a) is (no_bit_past off 8 a few high)
]
