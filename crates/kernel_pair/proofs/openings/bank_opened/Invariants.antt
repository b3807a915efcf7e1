use Rattle.std.proofs.Common.{◌≡◌, ◌+◌, ◌<◌, ℕ, length}
use Rattle.std.specs.Prelude.{slice_index_or}
use Rattle.kernel_pair.proofs.openings.bank_opened.Given as goal

abbrev pub invariant-loop-i : goal.invariant-loop-i
invariant-loop-i l = record {
  words : (j : ℕ) → j < l.i → slice_index_or l.bank j 0 ≡ slice_index_or l.words (l.at + j) 0;
  long : length l.bank ≡ 64;
}
