use Rattle.std.proofs.Common.{◌∙◌, ap, sym}
use Rattle.bank_words.specs.Images.{kernel_decode}
use Rattle.event_core.proofs.Snapshots.{words_are}
use Rattle.event_core.proofs.reads.kernel_read.Goals as goal

pub returns : goal.returns
returns c =
    c.kernel_decode.ensures
    ∙ ap kernel_decode (c.kernel_words.ensures ∙ words_are c.args.stored.now c.args.image.now c.requires.held ∙ sym c.kernel_encode-said.ensures.words)
    ∙ c.kernel_encode-said.ensures.back
