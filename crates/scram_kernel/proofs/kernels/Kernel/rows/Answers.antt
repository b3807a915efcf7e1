use Rattle.std.proofs.Common.{◌∙◌}
use Rattle.scram_kernel.proofs.Fronts.{are_first}
use Rattle.scram_kernel.proofs.kernels.Kernel.rows.Goals as goal

pub returns-clause-first : goal.returns-clause-first
returns-clause-first c = c.deref.ensures.value ∙ are_first c.self.invariant c.args.self.now c.self.view_is
