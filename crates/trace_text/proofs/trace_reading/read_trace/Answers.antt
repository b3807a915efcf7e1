use Rattle.trace_text.proofs.TraceOnly.{answered_again, answered_text}
use Rattle.trace_text.proofs.trace_reading.read_trace.Goals as goal

pub returns-clause-text : goal.returns-clause-text
returns-clause-text c = answered_text c.args.spec.now c.args.bytes.now c.read_lines.result c.lists_are_short.ensures.factors c.lists_are_short.ensures.apps c.read_lines.ensures

pub returns-clause-again : goal.returns-clause-again
returns-clause-again c = answered_again c.args.spec.now c.args.bytes.now c.read_lines.result c.lists_are_short.ensures.factors c.lists_are_short.ensures.apps c.read_lines.ensures
