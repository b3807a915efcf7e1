use Rattle.kernel_pair.specs.Openings.{IsProcessorOpened}
use Rattle.kernel_pair.specs.States.{blank_processor}
use Rattle.fail_stop.proofs.Decoding.{each_of_eight}
use Rattle.kernel_pair.proofs.openings.processors_opened.Goals as goal

pub returns : goal.returns
returns c =
    each_of_eight blank_processor (λ p x. IsProcessorOpened c.args.words.now p x) _ _ _ _ _ _ _ _
    c.processor_opened.ensures c.processor_opened-2.ensures c.processor_opened-3.ensures c.processor_opened-4.ensures
    c.processor_opened-5.ensures c.processor_opened-6.ensures c.processor_opened-7.ensures c.processor_opened-8.ensures
