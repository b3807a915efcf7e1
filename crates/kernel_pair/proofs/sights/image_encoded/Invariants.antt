use Rattle.std.proofs.Common.{◌≡◌, ◌<◌, ℕ, pos, length}
use Rattle.std.specs.Prelude.{slice_index_or}
use Rattle.bank_words.specs.Numbers.{encode}
use Rattle.kernel_pair.proofs.sights.image_encoded.Given as goal

abbrev pub invariant-loop-i : goal.invariant-loop-i
invariant-loop-i l = record {
  words : (j : ℕ) → j < l.i → slice_index_or l.words j 0 ≡ encode (slice_index_or l.image j (pos 0));
  long : length l.words ≡ 64;
}
