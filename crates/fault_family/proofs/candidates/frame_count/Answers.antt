use Rattle.std.proofs.Common.{◌≡◌, arith, rules}
use Rattle.std.specs.Prelude.{Some}
use Rattle.fault_script.specs.Orders.{last_of}
use Rattle.fault_family.proofs.Numbered.{length_behind}
use Rattle.fault_family.proofs.candidates.frame_count.Goals as goal

pub returns-in-Some-clause-value : goal.returns-in-Some-clause-value
returns-in-Some-clause-value c =
    let is : last_of c.args.before.now ≡ Some c.in-Some.field-0.now = search rules in
    let count = length_behind c.args.spec.now (last_of c.args.before.now) c.in-Some.field-0.now is in
    omega (arith, count, c.greatest.ensures.value)
