use Rattle.std.proofs.Common.{rules}
use Rattle.word_deck.proofs.kernels.KernelCrew.turn.Goals as goal

pub end_frame-image-requires-clause-noted : goal.end_frame-image-requires-clause-noted
end_frame-image-requires-clause-noted c = search rules

pub invariant_of-self-then-frame-frames : goal.invariant_of-self-then-frame-frames
invariant_of-self-then-frame-frames c = search rules

pub publish_frame-requires-clause-steps : goal.publish_frame-requires-clause-steps
publish_frame-requires-clause-steps c = search rules
