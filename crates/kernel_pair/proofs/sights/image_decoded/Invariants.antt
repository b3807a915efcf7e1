use Rattle.std.proofs.Common.{◌≡◌, ℕ, ◌<◌, pos, length}
use Rattle.std.specs.Prelude.{nat_lt, slice_index_or, if◌then◌else◌}
use Rattle.bank_words.specs.Numbers.{decode}
use Rattle.kernel_pair.proofs.sights.image_decoded.Given as goal

abbrev pub invariant-loop-i : goal.invariant-loop-i
invariant-loop-i l = record {
  words : (i : ℕ) → i < 64 → slice_index_or l.image i (pos 0) ≡ (if nat_lt i l.i then decode (slice_index_or l.words i 0) else pos 0);
  long : length l.image ≡ 64;
}
