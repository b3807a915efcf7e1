use Rattle.std.proofs.Common.{◌≡◌, pos, [], slice_index_or}
use Rattle.bank_words.specs.Marks.{pick}
use Rattle.kernel_pair.specs.States.{blank_processor, word_decoded}
use Rattle.fail_stop.proofs.Decoding.{each_of_eight}
use Rattle.kernel_pair.proofs.sights.images_picked.Goals as goal

pub returns-clause-words : goal.returns-clause-words
returns-clause-words c = λ p low i small.
    each_of_eight [] (λ p image. slice_index_or image i (pos 0) ≡ word_decoded c.args.spec.now (slice_index_or (slice_index_or c.args.procs.now p blank_processor).banks (pick (slice_index_or c.args.procs.now p blank_processor).mark c.args.frame) []) i) _ _ _ _ _ _ _ _
    (c.image_picked.ensures.words i small) (c.image_picked-2.ensures.words i small) (c.image_picked-3.ensures.words i small) (c.image_picked-4.ensures.words i small)
    (c.image_picked-5.ensures.words i small) (c.image_picked-6.ensures.words i small) (c.image_picked-7.ensures.words i small) (c.image_picked-8.ensures.words i small) p low
