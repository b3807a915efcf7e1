use Rattle.std.proofs.Common.{ℕ, ap, length, ◌∙◌}
use Rattle.scram_types.specs.Bits.{has_bit}
use Rattle.scram_types.proofs.BitSets.{has_bits}
use Rattle.coverage_check.specs.Timing.{is_bound_asked}
use Rattle.coverage_check.proofs.timing.is_asked.Goals as goal

pub returns : goal.returns
returns c =
    c.is_in.ensures ∙ ap (λ (set : ℕ). has_bit set c.args.to.0) c.requires.set
    ∙ has_bits (is_bound_asked c.args.spec.now c.args.from) (length c.args.spec.now.confs) c.args.to.0 c.requires.to
