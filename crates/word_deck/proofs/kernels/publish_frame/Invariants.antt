use Rattle.std.proofs.Common.{◌≡◌, ◌+◌}
use Rattle.word_table.specs.Tables.{IsKernelSeatOf, kernel_frame, kernel_steps, kernel_tries}
use Rattle.word_deck.proofs.kernels.publish_frame.Given as goal

abbrev pub invariant-loop-i : goal.invariant-loop-i
invariant-loop-i l = record {
  seated : IsKernelSeatOf l.words l.kseat;
  frame : kernel_frame l.kseat ≡ kernel_frame l.fn.kseat;
  steps : kernel_steps l.kseat ≡ l.procs + l.i;
  tries : kernel_tries l.kseat ≡ kernel_tries l.fn.kseat;
}
