use Rattle.std.proofs.Common.{◌≡◌, arith, rules}
use Rattle.std.specs.Prelude.{Some}
use Rattle.fault_script.specs.Orders.{last_of}
use Rattle.fault_family.proofs.Numbered.{behind, length_behind}
use Rattle.fault_family.proofs.candidates.frame_after.Goals as goal

pub gap-requires : goal.gap-requires
gap-requires c =
    let is : last_of c.args.before.now ≡ Some c.in-Some.last.now = search rules in
    let count = length_behind c.args.spec.now (last_of c.args.before.now) c.in-Some.last.now is in
    omega (arith, count, c.requires.i)

pub returns-in-Some-clause-value : goal.returns-in-Some-clause-value
returns-in-Some-clause-value c =
    let is : last_of c.args.before.now ≡ Some c.in-Some.last.now = search rules in
    behind c.args.spec.now (last_of c.args.before.now) c.in-Some.last.now c.args.i c.gap.result is c.gap.ensures.value
