use Rattle.std.proofs.Common.{rules}
use Rattle.fault_family.proofs.within.counts_with.Goals as goal

pub count_with-past-requires-clause-count : goal.count_with-past-requires-clause-count
count_with-past-requires-clause-count c = search rules
