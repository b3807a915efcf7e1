use Rattle.std.proofs.Common.{◌∙◌, rules, sym}
use Rattle.scram_types.proofs.BitSets.{no_bit_past}
use Rattle.scram_types.proofs.Naturals.{not_below_test}
use Rattle.scram_types.proofs.bits.is_in.Goals as goal

pub returns-else-n-lt16 : goal.returns-else-n-lt16
returns-else-n-lt16 c = not_below_test c.args.n 16 c.if-n-lt16.false ∙ sym (no_bit_past c.args.set 16 c.args.n (search rules) c.if-n-lt16.false)
