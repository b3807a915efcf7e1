use Rattle.std.proofs.Common.{rules, map}
use Rattle.std.proofs.lemmas.List.{length-map}
use Rattle.trace_text.proofs.Splitting.{split_whole}
use Rattle.trace_text.proofs.words.split_words.Goals as goal

pub returns : goal.returns
returns c = split_whole (map (λ w. w.now) c.loop-left.words.items) c.loop-left.left c.args.line.now (search rules) c.loop-left.invariant.split c.loop-left.invariant.filled (rw length-map c.loop-left.invariant.few)
