use Rattle.std.proofs.Common.{rules}
use Rattle.kind_table.proofs.table.find_kind.Goals as goal

pub returns-in-3-clause-kind : goal.returns-in-3-clause-kind
returns-in-3-clause-kind c = search rules

pub returns-in-0-clause-kind : goal.returns-in-0-clause-kind
returns-in-0-clause-kind c = search rules
