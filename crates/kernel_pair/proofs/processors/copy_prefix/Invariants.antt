use Rattle.std.proofs.Common.{◌≡◌, ℕ}
use Rattle.std.specs.Prelude.{if◌then◌else◌, nat_lt, slice_index_or}
use Rattle.kernel_pair.proofs.processors.copy_prefix.Given as goal

abbrev pub invariant-loop-i : goal.invariant-loop-i
invariant-loop-i l = (j : ℕ) → slice_index_or l.bank j 0 ≡ (if nat_lt j l.i then slice_index_or l.draft j 0 else slice_index_or l.initial.bank j 0)
