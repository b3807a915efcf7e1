use Rattle.std.proofs.Common.{rules}
use Rattle.spec_forms.proofs.bound_pairs.put_bound.Goals as goal

pub is_asked-requires-clause-set : goal.is_asked-requires-clause-set
is_asked-requires-clause-set c = search rules
