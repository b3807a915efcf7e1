use Rattle.std.proofs.Common.{◌↔◌, subst}
use Rattle.std.specs.Prelude.{IsTrue}
use Rattle.kernel_pair.specs.Machines.{IsPairNextIn, PairParts}
use Rattle.kernel_pair.proofs.machines.PairMachine.is_next.Goals as goal

pub returns : goal.returns
returns c = subst (λ (v : PairParts). IsTrue c.is_next.result ↔ IsPairNextIn v c.args.event) c.self.view_is c.is_next.ensures
