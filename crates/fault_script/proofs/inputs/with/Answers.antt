use Rattle.scram_types.proofs.BitSets.{bit_more}
use Rattle.fault_script.proofs.inputs.with.Goals as goal

pub returns-then-is_in : goal.returns-then-is_in
returns-then-is_in c = rw (c.if-is_in.true) (bit_more c.args.set c.args.p c.requires.p c.requires.set)
