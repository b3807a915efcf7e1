use Rattle.std.proofs.Common.{◌≡◌, ◌∙◌, ◌%◌, pos, refl, sym, subst, rules, arith, []}
use Rattle.std.specs.Prelude.{replicate}
use mathlib.Core.Option.{some}
use lib.ListN.{get_elem?}
use Rattle.std.proofs.lemmas.List.{get_or-replicate, length-set}
use Rattle.std.specs.Mem.Slots.{slots_items}
use Rattle.fail_stop.specs.Events.{BankWord, MarkWord}
use Rattle.fail_stop.specs.Listed.{index_of}
use Rattle.word_table.specs.Closing.{IsStoredImage}
use Rattle.word_table.proofs.Closings.{index_is, unused_stay_zero, one_last}
use Rattle.word_table.proofs.closing.last_words.Goals as goal

pub loop-p-init : goal.loop-p-init
loop-p-init c = record {
  marks = refl;
  images = refl;
  last = λ q low. absurd (omega (arith, low));
  past = λ q least most. (get_or-replicate 8 q 0 0 most, get_or-replicate 8 q (replicate 64 (pos 0)) [] most);
}

pub loop-p-preserved : goal.loop-p-preserved
loop-p-preserved c =
    let at = c.loop-p in
    let mark = c.word-mark.result in
    let own : c.mark_index.result ≡ index_of (MarkWord at.p) = search rules in
    let place : c.bank_index.result ≡ index_of (BankWord at.p (mark % 2) 0) = search rules in
    record {
      marks = length-set at.marks at.p mark ∙ at.invariant.marks;
      images = length-set at.images at.p c.stored_image.result ∙ at.invariant.images;
      last =
          one_last (slots_items c.args.closed.now.words) c.args.width at.p at.marks at.images mark c.stored_image.result at.invariant.marks at.invariant.images (omega (arith, c.loop-p-test.true, c.requires.procs)) at.invariant.last
          record {
            mark_is = sym (index_is (slots_items c.args.closed.now.words) (index_of (MarkWord at.p)) mark (subst (λ k. get_elem? (slots_items c.args.closed.now.words) k ≡ some mark) own c.word-mark.ensures));
            image_is = subst (λ k. IsStoredImage (slots_items c.args.closed.now.words) c.args.width k c.stored_image.result) place c.stored_image.ensures;
          };
      past = unused_stay_zero at.p at.marks at.images mark c.stored_image.result at.invariant.past;
    }
