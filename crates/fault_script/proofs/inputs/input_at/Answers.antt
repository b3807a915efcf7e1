use Rattle.scram_types.proofs.BitSets.{bits_lt}
use Rattle.fault_script.specs.Times.{halts_after_mark, halts_before_mark, restarts_in}
use Rattle.fault_script.proofs.inputs.input_at.Goals as goal

pub with-requires-clause-set : goal.with-requires-clause-set
with-requires-clause-set c = rw (c.loop-p.invariant.early) (bits_lt (λ p. halts_before_mark c.args.spec.now c.args.script.now p c.args.frame) c.loop-p.p)

pub with-requires-in-loop-p-clause-set : goal.with-requires-in-loop-p-clause-set
with-requires-in-loop-p-clause-set c = rw (c.loop-p.invariant.late) (bits_lt (λ p. halts_after_mark c.args.spec.now c.args.script.now p c.args.frame) c.loop-p.p)

pub with-requires-in-loop-p-2-clause-set : goal.with-requires-in-loop-p-2-clause-set
with-requires-in-loop-p-2-clause-set c = rw (c.loop-p.invariant.back) (bits_lt (λ p. restarts_in c.args.script.now p c.args.frame) c.loop-p.p)
