use Rattle.std.proofs.Common.{◌≡◌, pos, [], slice_index_or}
use Rattle.kernel_pair.specs.States.{word_decoded}
use Rattle.fail_stop.proofs.Decoding.{each_of_eight}
use Rattle.kernel_pair.proofs.sights.images_decoded.Goals as goal

pub returns-clause-words : goal.returns-clause-words
returns-clause-words c = λ p low i small.
    each_of_eight [] (λ p image. slice_index_or image i (pos 0) ≡ word_decoded c.args.spec.now (slice_index_or c.args.images.now p []) i) _ _ _ _ _ _ _ _
    (c.image_decoded.ensures.words i small) (c.image_decoded-2.ensures.words i small) (c.image_decoded-3.ensures.words i small) (c.image_decoded-4.ensures.words i small)
    (c.image_decoded-5.ensures.words i small) (c.image_decoded-6.ensures.words i small) (c.image_decoded-7.ensures.words i small) (c.image_decoded-8.ensures.words i small) p low
