use Rattle.std.proofs.Common.{◌∙◌, ◌<◌, ℕ, List, ap, sym, subst, slice_index_or}
use Rattle.bank_words.specs.declared.images.KernelImage.{KernelImage}
use Rattle.bank_words.specs.Images.{kernel_encode}
use Rattle.kernel_pair.specs.Cores.{IsKernelOf}
use Rattle.kernel_pair.specs.Machines.{PairParts, pair_flight, pair_in}
use Rattle.kernel_pair.specs.Pairs.{IsPairNext}
use Rattle.kernel_pair.specs.declared.events.PairEvent.TheVariants.{Store}
use Rattle.kernel_pair.proofs.Allowed.{store_small}
use Rattle.kernel_pair.proofs.CoreSteps.{image_stored, quiet_keeps}
use Rattle.kernel_pair.proofs.cores.PairCore.store.Goals as goal

pub bounds-words-from : goal.bounds-words-from
bounds-words-from g c =
    let k = c.self.inside in
    let next : IsPairNext (pair_flight k.machine) k.machine.halt (pair_in k.machine) (Store c.args.u c.args.i) = subst (λ (v : PairParts). IsPairNext (pair_flight v) v.halt (pair_in v) (Store c.args.u c.args.i)) (sym c.self.view_is) c.requires in
    subst (λ (n : ℕ). n < 20) (sym c.from.ensures) (store_small k.machine.spec k.machine.script k.machine.halt (pair_in k.machine) c.holds.ensures.facts c.holds.ensures.fits c.holds.ensures.kept c.args.u c.args.i next)

pub make-requires-clause-words : goal.make-requires-clause-words
make-requires-clause-words g c =
    let k = c.self.inside in
    let next : IsPairNext (pair_flight k.machine) k.machine.halt (pair_in k.machine) (Store c.args.u c.args.i) = subst (λ (v : PairParts). IsPairNext (pair_flight v) v.halt (pair_in v) (Store c.args.u c.args.i)) (sym c.self.view_is) c.requires in
    let kernel : IsKernelOf k.machine c.args.u c.kernel.result.now = subst (λ (v : PairParts). IsKernelOf v c.args.u c.kernel.result.now) (sym c.self.view_is) c.kernel.ensures in
    ap (λ (n : ℕ). slice_index_or c.kernel_encode-words.result n 0) c.from.ensures
    ∙ ap (λ (words : List ℕ). slice_index_or words c.args.i 0) (c.kernel_encode-words.ensures.words ∙ ap (λ (image : KernelImage). kernel_encode image) (image_stored k.machine c.args.u c.args.i c.kernel.result.now c.image.result next kernel c.image.ensures))

pub invariant_of-self : goal.invariant_of-self
invariant_of-self g c =
    let k = c.self.inside in
    let next : IsPairNext (pair_flight k.machine) k.machine.halt (pair_in k.machine) (Store c.args.u c.args.i) = subst (λ (v : PairParts). IsPairNext (pair_flight v) v.halt (pair_in v) (Store c.args.u c.args.i)) (sym c.self.view_is) c.requires in
    quiet_keeps k.machine c.make.new.self (Store c.args.u c.args.i) c.make.ensures c.holds.ensures.facts next tt k.first k.second k.flyers.items c.self.invariant
