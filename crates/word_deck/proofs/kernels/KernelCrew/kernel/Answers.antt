use Rattle.word_deck.proofs.Noting.{kernel_opens}
use Rattle.word_deck.proofs.kernels.KernelCrew.kernel.Goals as goal

pub invariant_of-result : goal.invariant_of-result
invariant_of-result c = record {
  keeps = kernel_opens c.args.mission.now c.args.kseat c.args.kernel _ c.holds.ensures.spec.procs_count.enough c.requires.frame c.requires.steps c.requires.new;
}
