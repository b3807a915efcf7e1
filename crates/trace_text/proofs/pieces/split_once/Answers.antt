use Rattle.std.proofs.Common.{sym}
use Rattle.trace_text.proofs.Splitting.{first_piece, no_separator}
use Rattle.trace_text.proofs.pieces.split_once.Goals as goal

pub returns-in-Some-clause-pieces : goal.returns-in-Some-clause-pieces
returns-in-Some-clause-pieces c =
    rw (c.before-in-Some.ensures, c.behind.ensures.value) (first_piece c.args.separator c.in-Some.at c.args.bytes.now (sym c.in-Some.ensures))

pub returns-in-None-clause-pieces : goal.returns-in-None-clause-pieces
returns-in-None-clause-pieces c = no_separator c.args.separator c.args.bytes.now (sym c.in-None.ensures)
