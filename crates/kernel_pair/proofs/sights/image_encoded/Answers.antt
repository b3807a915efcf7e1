use Rattle.std.proofs.Common.{rules, pos}
use Rattle.std.specs.Prelude.{slice_index_or}
use Rattle.bank_words.specs.Numbers.{encode}
use Rattle.kernel_pair.proofs.Encoding.{word_more, words_at}
use Rattle.kernel_pair.proofs.sights.image_encoded.Goals as goal

pub loop-i-preserved : goal.loop-i-preserved
loop-i-preserved c = record {
  words = word_more c.loop-i.words c.loop-i.i (λ j. encode (slice_index_or c.args.image.now j (pos 0))) _ (search rules) (search rules) c.loop-i.invariant.words;
  long = search rules;
}

pub returns : goal.returns
returns c = words_at _ c.args.image.now c.loop-i.invariant.long (search rules) (λ j low. c.loop-i.invariant.words j (search rules))
