use Rattle.std.proofs.Common.{◌≡◌, ◌∙◌, ap, sym, subst, length}
use Rattle.kernel_pair.specs.Cores.{PairCoreKeeps}
use Rattle.kernel_pair.specs.Machines.{IsPairNextIn, PairParts}
use Rattle.kernel_pair.specs.declared.events.PairEvent.TheVariants.{Fly}
use Rattle.kernel_pair.proofs.CoreSteps.{fly_keeps}
use Rattle.kernel_pair.proofs.Landing.{written_back}
use Rattle.kernel_pair.proofs.cores.PairCore.fly.Goals as goal

pub invariant_of-self : goal.invariant_of-self
invariant_of-self g c =
    let k = c.self.inside in
    let flyers = c.draft-words.new.flyers in
    let long : k.flyers.len ≡ length flyers = sym c.deref_mut.ensures.len ∙ ap length c.deref_mut.ensures.value ∙ c.self.invariant.flyers.count ∙ sym c.draft-words.ensures.flyers.count in
    subst (λ crew. PairCoreKeeps c.make.new.self k.first k.second crew) (sym (written_back k.flyers.items flyers k.flyers.len long))
    (fly_keeps k.machine c.make.new.self c.args.p c.args.u c.make.ensures k.first k.second k.flyers.items flyers c.self.invariant c.draft-words.ensures.flyers)

pub make-requires-clause-next : goal.make-requires-clause-next
make-requires-clause-next g c = subst (λ (v : PairParts). IsPairNextIn v (Fly c.args.p c.args.u)) (sym c.self.view_is) c.requires

pub draft-words-requires-clause-next : goal.draft-words-requires-clause-next
draft-words-requires-clause-next g c = subst (λ (v : PairParts). IsPairNextIn v (Fly c.args.p c.args.u)) (sym c.self.view_is) c.requires
