use Rattle.std.proofs.Common.{rules, ◌+◌, refl}
use Rattle.std.specs.Prelude.{slice_index_or}
use Rattle.kernel_pair.proofs.Encoding.{word_more}
use Rattle.kernel_pair.proofs.openings.bank_opened.Goals as goal

pub loop-i-preserved : goal.loop-i-preserved
loop-i-preserved c = record {
  words = word_more c.loop-i.bank c.loop-i.i (λ j. slice_index_or c.args.words.now (c.bank_index-at.result + j) 0) _ (search rules) refl c.loop-i.invariant.words;
  long = search rules;
}
