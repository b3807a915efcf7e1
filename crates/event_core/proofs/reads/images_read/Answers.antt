use Rattle.std.proofs.Common.{◌≡◌, [], pos, slice_index_or}
use Rattle.event_core.specs.Reads.{word_read}
use Rattle.fail_stop.proofs.Decoding.{each_of_eight}
use Rattle.event_core.proofs.reads.images_read.Goals as goal

pub returns-clause-words : goal.returns-clause-words
returns-clause-words c = λ p low i small.
    each_of_eight [] (λ p image. slice_index_or image i (pos 0) ≡ word_read c.args.spec.now c.args.stored.now c.args.frame p i) _ _ _ _ _ _ _ _
    (c.image_read.ensures.words i small) (c.image_read-2.ensures.words i small) (c.image_read-3.ensures.words i small) (c.image_read-4.ensures.words i small)
    (c.image_read-5.ensures.words i small) (c.image_read-6.ensures.words i small) (c.image_read-7.ensures.words i small) (c.image_read-8.ensures.words i small) p low
