use Rattle.std.proofs.Common.{◌≡◌, ◌+◌, ◌*◌, ◌/◌, ◌^◌, ◌≤◌, ◌∙◌, arith, false, length, sym, true}
use Rattle.std.proofs.lemmas.Nat.{mul-le}
use Rattle.choice_table.specs.Numbering.{combinations, is_down_in_scope}
use Rattle.choice_table.proofs.Blocks.{next_is, pass_block}
use Rattle.choice_table.proofs.numbering.next_in_scope.Goals as goal

pub returns-then-can_be_down-clause-next : goal.returns-then-can_be_down-clause-next
returns-then-can_be_down-clause-next c =
    let scope : is_down_in_scope c.args.spec.now c.loop-down.down ≡ true = sym c.can_be_down.ensures ∙ c.if-can_be_down.true in
    let blocks : (c.loop-down.down + 1) * combinations c.args.spec.now.factors ≤ 2 ^ length c.args.spec.now.procs * combinations c.args.spec.now.factors =
    mul-le (c.loop-down.down + 1) (combinations c.args.spec.now.factors) (2 ^ length c.args.spec.now.procs) (combinations c.args.spec.now.factors) (omega arith) (omega arith) in
    let near : c.args.low / combinations c.args.spec.now.factors ≤ c.loop-down.down =
    rw (← c.count_combinations-combinations.ensures.value) c.loop-down.auto.down in
    let before = rw (c.count_combinations-combinations.ensures.value) at c.loop-down.invariant in
    rw (c.max-number.ensures, c.count_combinations-combinations.ensures.value)
    (next_is c.args.spec.now c.args.low c.loop-down.down (omega arith) near blocks scope before)

pub loop-down-preserved : goal.loop-down-preserved
loop-down-preserved c =
    let out : is_down_in_scope c.args.spec.now c.loop-down.down ≡ false = sym c.can_be_down.ensures ∙ c.if-can_be_down.false in
    let before = rw (c.count_combinations-combinations.ensures.value) at c.loop-down.invariant in
    rw (c.count_combinations-combinations.ensures.value) (pass_block c.args.spec.now c.args.low c.loop-down.down out before)
