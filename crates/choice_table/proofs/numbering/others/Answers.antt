use Rattle.choice_table.proofs.Bits.{others_by_mask}
use Rattle.choice_table.proofs.numbering.others.Goals as goal

pub returns-clause-value : goal.returns-clause-value
returns-clause-value c = rw (c.from.ensures) (others_by_mask c.args.set c.args.count c.requires)
