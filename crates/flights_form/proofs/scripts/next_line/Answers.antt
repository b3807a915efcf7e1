use Rattle.flights_form.proofs.Cuts.{line_then}
use Rattle.flights_form.proofs.scripts.next_line.Goals as goal

pub returns-in-Some-clause-lines : goal.returns-in-Some-clause-lines
returns-in-Some-clause-lines c = line_then c.args.bytes.now c.in-Some.parts.0.now c.in-Some.parts.1.now c.in-Some.ensures.pieces
