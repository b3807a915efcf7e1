use Rattle.std.proofs.Common.{◌∙◌, rules, sym}
use Rattle.scram_types.proofs.BitSets.{no_high_bit}
use Rattle.scram_types.proofs.Naturals.{not_below_test}
use Rattle.scram_types.proofs.bits.has_bit.Goals as goal

pub returns-else-p-lt8 : goal.returns-else-p-lt8
returns-else-p-lt8 c = not_below_test c.args.p 8 c.if-p-lt8.false ∙ sym (no_high_bit c.args.set c.args.p (search rules) c.if-p-lt8.false)
