use Rattle.std.proofs.Common.{◌+◌, ap, refl}
use Rattle.std.specs.Prelude.{slice_index_or}
use Rattle.word_table.specs.Tables.{mission_in, kernel_frame}
use Rattle.word_deck.proofs.Noting.{word_said}
use Rattle.word_deck.proofs.kernels.publish_frame.Goals as goal

pub publish-requires-clause-word : goal.publish-requires-clause-word
publish-requires-clause-word c =
    word_said (mission_in c.args.words.now).spec (mission_in c.args.words.now).script (kernel_frame c.args.kseat.now + 1) (kernel_frame c.loop-i.kseat + 1) c.loop-i.i c.kernel_encode-said.result c.args.image.now
    (slice_index_or c.kernel_encode-said.result c.loop-i.i 0) c.kernel_encode-said.ensures.words c.requires.image (ap (λ n. n + 1) c.loop-i.invariant.frame) refl
