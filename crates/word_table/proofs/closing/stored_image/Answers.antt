use Rattle.std.proofs.Common.{◌≡◌, ◌+◌, sym, subst, rules, arith, to_z, of_z}
use Rattle.std.specs.Prelude.{slice_set}
use Rattle.std.specs.Int.{w64}
use Rattle.std.specs.Mem.Slots.{slots_items}
use Rattle.bank_words.specs.Numbers.{decode}
use Rattle.word_table.specs.Closing.{IsStoredImage}
use Rattle.word_table.proofs.Closings.{none_stored, one_stored}
use Rattle.word_table.proofs.closing.stored_image.Goals as goal

pub loop-i-init : goal.loop-i-init
loop-i-init c = none_stored (slots_items c.args.closed.now.words) c.args.at

pub loop-i-preserved : goal.loop-i-preserved
loop-i-preserved c =
    let value : to_z w64 (of_z w64 c.decode.result) ≡ decode c.word.result = search rules in
    subst (λ x. IsStoredImage (slots_items c.args.closed.now.words) (c.loop-i.i + 1) c.args.at (slice_set c.loop-i.image c.loop-i.i x)) (sym value)
    (one_stored (slots_items c.args.closed.now.words) c.loop-i.i c.args.at c.loop-i.image c.word.result c.loop-i.invariant (omega (arith, c.loop-i-test.true, c.requires.width)) c.word.ensures)
