use Rattle.std.proofs.Common.{◌≡◌, ◌<◌, ◌≤◌, ℕ, [], length}
use Rattle.std.specs.Prelude.{slice_index, slice_index_or}
use Rattle.std.specs.Mem.Slots.{slots_items}
use Rattle.word_table.specs.Closing.{AreLast, AreZero}
use Rattle.word_table.proofs.closing.last_words.Given as goal

abbrev pub invariant-loop-p : goal.invariant-loop-p
invariant-loop-p l = record {
  marks : length l.marks ≡ 8;
  images : length l.images ≡ 8;
  last : (q : ℕ) → q < l.p → AreLast (slots_items l.closed.words) l.width q (slice_index l.marks q) (slice_index_or l.images q []);
  past : (q : ℕ) → l.p ≤ q → q < 8 → AreZero (slice_index l.marks q) (slice_index_or l.images q []);
}
