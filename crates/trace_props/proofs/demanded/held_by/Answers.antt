use Rattle.std.proofs.Common.{rules}
use Rattle.trace_props.proofs.demanded.held_by.Goals as goal

pub returns-then-is_another_env : goal.returns-then-is_another_env
returns-then-is_another_env c = search rules
