-- The input of each frame.
use Rattle.std.specs.Prelude.{ℕ, length}
use Rattle.scram_types.specs.Bits.{bits_below}
use Rattle.scram_types.specs.Scripts.{ScriptParts}
use Rattle.scram_types.specs.Specification.{Parts}
use Rattle.fault_script.specs.declared.inputs.Input.{Input}
use Rattle.fault_script.specs.Times.{factors_at, halts_after_mark, halts_before_mark, restarts_in}

-- The input of frame `f`: the values of the factors, and three sets of processors, as bits. The sets are the
-- processors that halt in the frame before their mark, those that halt in the frame after their mark, and those that
-- restart in the frame.
abbrev pub input_at : Parts → ScriptParts → ℕ → Input
input_at spec script f = record {
  factors = factors_at script f;
  early = bits_below (λ p. halts_before_mark spec script p f) (length spec.procs);
  late = bits_below (λ p. halts_after_mark spec script p f) (length spec.procs);
  back = bits_below (λ p. restarts_in script p f) (length spec.procs);
}
