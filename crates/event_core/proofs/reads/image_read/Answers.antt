use Rattle.std.proofs.Common.{rules, refl}
use Rattle.bank_words.specs.Numbers.{decode}
use Rattle.fail_stop.specs.Events.{BankWord}
use Rattle.fail_stop.specs.Listed.{stored_in}
use Rattle.event_core.specs.Reads.{bank_taken}
use Rattle.fail_stop.proofs.Decoding.{none_read, word_set}
use Rattle.event_core.proofs.reads.image_read.Goals as goal

pub loop-i-init : goal.loop-i-init
loop-i-init c = record {
  words = λ i low. none_read (λ i. decode (stored_in c.args.stored.now (BankWord c.args.p (bank_taken c.args.stored.now c.args.frame c.args.p) i))) i;
  long = refl;
}

pub loop-i-preserved : goal.loop-i-preserved
loop-i-preserved c = record {
  words = word_set c.loop-i.image c.loop-i.i (λ i. decode (stored_in c.args.stored.now (BankWord c.args.p (bank_taken c.args.stored.now c.args.frame c.args.p) i))) _
      c.loop-i.invariant.long (search rules) (search rules) c.loop-i.invariant.words;
  long = search rules;
}
