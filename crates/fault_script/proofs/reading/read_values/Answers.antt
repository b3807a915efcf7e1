use Rattle.fault_script.proofs.reading.read_values.Goals as goal

pub invariant_of-result : goal.invariant_of-result
invariant_of-result c = c.in_ok-frames.ensures.most

pub check_halts-requires-clause-few : goal.check_halts-requires-clause-few
check_halts-requires-clause-few c = rw (c.items-3.ensures) c.in_ok-halts.ensures.few
