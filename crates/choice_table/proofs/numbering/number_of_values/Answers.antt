use Rattle.std.proofs.Common.{◌≡◌, ◌+◌, ◌<◌, suc, arith, rules, length}
use Rattle.std.proofs.lemmas.Nat.{mul-le}
use Rattle.choice_table.proofs.Digits.{digits_before_last, digits_room, digits_step, few_digits}
use Rattle.choice_table.proofs.numbering.number_of_values.Goals as goal

pub overflow_mul-number : goal.overflow_mul-number
overflow_mul-number c =
    let few = digits_before_last c.loop-x.x c.loop-x.number (omega arith) c.loop-x.invariant.few in
    let product = mul-le c.loop-x.number c.count_values.result 87040 4 few c.count_values.ensures.most in
    omega arith

pub overflow_add-number : goal.overflow_add-number
overflow_add-number c =
    let few = digits_before_last c.loop-x.x c.loop-x.number (omega arith) c.loop-x.invariant.few in
    let product = mul-le c.loop-x.number c.count_values.result 87040 4 few c.count_values.ensures.most in
    let byte : c.from.result < 256 = search rules in
    omega arith

pub loop-x-preserved : goal.loop-x-preserved
loop-x-preserved c =
    let next : c.loop-x.x + 1 ≡ suc c.loop-x.x = omega arith in
    let byte : c.from.result < 256 = search rules in
    let room : c.loop-x.x < length c.args.values.now = search rules in
    rw (next) (record {
      so_far = rw (c.count_values.ensures.value, c.from.ensures)
          (digits_step c.args.spec.now.factors c.args.values.now c.loop-x.x c.loop-x.number (omega arith) room c.loop-x.invariant.so_far);
      few = few_digits c.count_values.result c.from.result c.loop-x.x c.loop-x.number c.count_values.ensures.most byte (omega arith) c.loop-x.invariant.few;
    })

pub returns-clause-few : goal.returns-clause-few
returns-clause-few c = digits_room c.loop-x.x c.loop-x.number (omega arith) c.loop-x.invariant.few
