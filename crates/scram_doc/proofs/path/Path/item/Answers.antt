use Rattle.std.proofs.Common.{arith}
use Rattle.scram_doc.proofs.Indexes.{length-decimal_index, length-item_path}
use Rattle.scram_doc.proofs.path.Path.item.Goals as goal

pub member-requires : goal.member-requires
member-requires c = let digits = length-decimal_index c.args.index c.requires.index in rw (c.format.ensures.text) (omega (arith, digits, c.requires.room))

pub returns-clause-short : goal.returns-clause-short
returns-clause-short c = rw (c.member.ensures.path, c.format.ensures.text) (length-item_path c.args.self.now c.args.index c.requires.index)
