use Rattle.std.specs.Mem.Slots.{slots_items}
use Rattle.word_table.specs.Closing.{IsStoredImage}
use Rattle.word_table.proofs.closing.stored_image.Given as goal

abbrev pub invariant-loop-i : goal.invariant-loop-i
invariant-loop-i l = IsStoredImage (slots_items l.closed.words) l.i l.at l.image
