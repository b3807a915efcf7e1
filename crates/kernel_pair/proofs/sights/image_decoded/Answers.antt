use Rattle.std.proofs.Common.{refl}
use Rattle.std.specs.Prelude.{slice_index_or}
use Rattle.bank_words.specs.Numbers.{decode}
use Rattle.fail_stop.proofs.Decoding.{none_read}
use Rattle.kernel_pair.proofs.sights.image_decoded.Goals as goal

pub loop-i-init : goal.loop-i-init
loop-i-init c = record {
  words = λ i low. none_read (λ i. decode (slice_index_or c.args.words.now i 0)) i;
  long = refl;
}
