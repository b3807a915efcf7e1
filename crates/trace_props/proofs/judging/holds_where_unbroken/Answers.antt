use Rattle.trace_props.proofs.Judged.{holds_where_unbroken}
use Rattle.trace_props.proofs.judging.holds_where_unbroken.Goals as goal

pub returns : goal.returns
returns c = holds_where_unbroken
