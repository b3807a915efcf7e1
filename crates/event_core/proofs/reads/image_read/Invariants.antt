use Rattle.std.proofs.Common.{◌≡◌, ℕ, ◌<◌, pos, length}
use Rattle.std.specs.Prelude.{nat_lt, slice_index_or, if◌then◌else◌}
use Rattle.bank_words.specs.Numbers.{decode}
use Rattle.fail_stop.specs.Events.{BankWord}
use Rattle.fail_stop.specs.Listed.{stored_in}
use Rattle.event_core.specs.Reads.{bank_taken}
use Rattle.event_core.proofs.reads.image_read.Given as goal

abbrev pub invariant-loop-i : goal.invariant-loop-i
invariant-loop-i l = record {
  words : (i : ℕ) → i < 64 → slice_index_or l.image i (pos 0) ≡ (if nat_lt i l.i then decode (stored_in l.stored (BankWord l.p (bank_taken l.stored l.frame l.p) i)) else pos 0);
  long : length l.image ≡ 64;
}
