use Rattle.std.proofs.Common.{sym}
use Rattle.trace_text.proofs.Splitting.{two_slashes}
use Rattle.trace_text.proofs.pieces.slash_sides.Goals as goal

pub returns-in-Some : goal.returns-in-Some
returns-in-Some c = sym (two_slashes c.args.word.now c.in_ok-left.left.now c.in_ok-left.right.now c.in-Some.field-0.0.now c.in-Some.field-0.1.now c.in_ok-left.ensures.pieces c.in-Some.ensures.pieces)
