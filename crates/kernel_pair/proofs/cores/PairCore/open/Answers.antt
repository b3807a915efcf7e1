use Rattle.std.proofs.Common.{rules, ◌∙◌, ap}
use Rattle.bank_words.specs.Images.{kernel_encode}
use Rattle.frame_model.specs.Storage.{kernel_image}
use Rattle.scram_kernel.specs.Kernels.{KernelParts}
use Rattle.kernel_pair.specs.Machines.{pair_flight}
use Rattle.kernel_pair.proofs.Landing.{core_opens}
use Rattle.kernel_pair.proofs.cores.PairCore.open.Goals as goal

pub invariant_of-result : goal.invariant_of-result
invariant_of-result g c =
    let k = c.in_ok-machine.machine in
    core_opens k c.holds.ensures.facts c.in_ok-machine.ensures.opening c.in_ok-first.first c.in_ok-second.second c.in_ok-flyers.flyers.items c.in_ok-machine.ensures.places
    (search rules) (search rules) (c.in_ok-flyers.ensures.flyers (pair_flight k))

pub open-requires-clause-first : goal.open-requires-clause-first
open-requires-clause-first g c =
    c.kernel_encode.ensures.words ∙ ap kernel_encode (c.image.ensures ∙ ap (λ (k : KernelParts). kernel_image k.spec k.script k.past) c.in_ok-first.ensures)
