use Rattle.std.proofs.Common.{◌<◌, ◌≤◌, ◌+◌, ℕ, sym, subst, arith, length, slice_index_or}
use Rattle.scram_kernel.specs.Marks.{AreImages}
use Rattle.kernel_pair.specs.Laws.{HasNoted, PairHolds}
use Rattle.kernel_pair.specs.Machines.{PairParts, pair_in}
use Rattle.kernel_pair.specs.States.{blank_unit, pair_of, unit_of}
use Rattle.kernel_pair.proofs.Logging.{images_are}
use Rattle.kernel_pair.proofs.machines.PairMachine.images.Goals as goal

pub returns : goal.returns
returns c =
    let k = c.self.inside in
    let x = slice_index_or k.state.units c.args.u blank_unit in
    let holds : PairHolds k.setup.spec.now k.setup.script.now k.setup.halt (pair_of k.state) = subst (λ (v : PairParts). PairHolds v.spec v.script v.halt (pair_in v)) (sym c.self.view_is) c.holds.ensures.holds in
    let all : length k.setup.spec.now.procs ≤ x.step = subst (λ (v : PairParts). length v.spec.procs ≤ ((pair_in v).unit c.args.u).step) (sym c.self.view_is) c.requires.noted in
    let noted : (p : ℕ) → p < length k.setup.spec.now.procs → HasNoted k.setup.spec.now k.setup.script.now (unit_of x) p = λ p low. holds.noted c.args.u p c.requires.u low (omega (arith, low, all)) in
    subst (λ (v : PairParts). AreImages v.spec v.script (((pair_in v).unit c.args.u).frame + 1) c.images_decoded.result) c.self.view_is
    (images_are k.setup.spec.now k.setup.script.now x noted c.self.invariant.facts c.images_decoded.result c.images_decoded.ensures.long (rw (← c.from.ensures) c.images_decoded.ensures.words))
