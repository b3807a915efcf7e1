use Rattle.std.proofs.Common.{◌≡◌, ◌+◌, ◌∙◌, arith, suc}
use Rattle.std.specs.Prelude.{slice_index}
use Rattle.dep_order.specs.Chains.{longest}
use Rattle.dep_order.specs.Timetables.{timed_chart}
use Rattle.dep_order.proofs.Charts.{longest_most, step_greatest}
use Rattle.dep_order.proofs.timetables.offsets_in.Goals as goal

pub offsets_after-offsets-requires-clause-before : goal.offsets_after-offsets-requires-clause-before
offsets_after-offsets-requires-clause-before c = λ b less.
    let few = longest_most (timed_chart c.args.spec.now c.args.phase c.args.times.now) c.requires c.loop-links._links b in
    rw (c.loop-links.invariant b less) (omega arith)

pub loop-links-preserved : goal.loop-links-preserved
loop-links-preserved c = λ a less.
    let next : c.loop-links._links + 1 ≡ suc c.loop-links._links = omega arith in
    rw (next) (c.offsets_after-offsets.ensures a less
    ∙ step_greatest (timed_chart c.args.spec.now c.args.phase c.args.times.now) (slice_index c.loop-links.offsets)
    (longest (timed_chart c.args.spec.now c.args.phase c.args.times.now) c.loop-links._links) a c.loop-links.invariant)

pub returns-clause-most : goal.returns-clause-most
returns-clause-most c = λ b less.
    let few = longest_most (timed_chart c.args.spec.now c.args.phase c.args.times.now) c.requires c.loop-links._links b in
    rw (c.loop-links.invariant b less) (omega arith)
