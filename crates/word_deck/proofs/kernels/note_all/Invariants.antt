use Rattle.std.proofs.Common.{◌≡◌, ◌≤◌}
use Rattle.word_table.specs.Tables.{IsKernelSeatOf, mission_in, kernel_frame, kernel_steps, kernel_tries}
use Rattle.word_deck.specs.Kernels.{AreNoted}
use Rattle.word_deck.proofs.kernels.note_all.Given as goal

abbrev pub invariant-loop-p : goal.invariant-loop-p
invariant-loop-p l = record {
  seated : IsKernelSeatOf l.words l.kseat;
  frame : kernel_frame l.kseat ≡ kernel_frame l.fn.kseat;
  steps : kernel_steps l.kseat ≡ l.p;
  more : kernel_steps l.fn.kseat ≤ l.p;
  tries : l.p ≡ kernel_steps l.fn.kseat → kernel_tries l.kseat ≡ kernel_tries l.fn.kseat;
  are_noted : AreNoted (mission_in l.words) (kernel_frame l.fn.kseat) l.p l.noted;
}
