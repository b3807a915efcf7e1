use Rattle.std.proofs.Common.{◌≡◌}
use Rattle.scram_types.specs.Bits.{bits_below}
use Rattle.fault_script.specs.Times.{factors_at, halts_after_mark, halts_before_mark, restarts_in}
use Rattle.fault_script.proofs.inputs.input_at.Given as goal

abbrev pub invariant-loop-p : goal.invariant-loop-p
invariant-loop-p l = record {
  factors : l.input.factors ≡ factors_at l.script l.frame;
  early : l.input.early ≡ bits_below (λ p. halts_before_mark l.spec l.script p l.frame) l.p;
  late : l.input.late ≡ bits_below (λ p. halts_after_mark l.spec l.script p l.frame) l.p;
  back : l.input.back ≡ bits_below (λ p. restarts_in l.script p l.frame) l.p;
}
