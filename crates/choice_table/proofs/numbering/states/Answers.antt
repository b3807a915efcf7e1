use Rattle.std.proofs.Common.{◌≡◌, ◌*◌, ◌^◌, ◌∙◌, arith, sym, length}
use Rattle.std.proofs.lemmas.Nat.{mul-le}
use Rattle.scram_types.specs.Bits.{count_below}
use Rattle.scram_types.proofs.BitSets.{count_most}
use Rattle.choice_table.specs.Numbering.{combinations, is_down_in_scope}
use Rattle.choice_table.proofs.Counting.{count_blocks}
use Rattle.choice_table.proofs.numbering.states.Goals as goal

pub overflow_add-states : goal.overflow_add-states
overflow_add-states c =
    let few = count_most (is_down_in_scope c.args.spec.now) c.loop-down.down in
    let so_far : c.loop-down.states ≡ count_below (is_down_in_scope c.args.spec.now) c.loop-down.down * c.count_combinations-combinations.result = c.loop-down.invariant in
    let product = mul-le (count_below (is_down_in_scope c.args.spec.now) c.loop-down.down) c.count_combinations-combinations.result 256 4096
    (omega arith) c.count_combinations-combinations.ensures.most in
    omega arith

pub returns : goal.returns
returns c =
    let whole : c.loop-down.down ≡ 2 ^ length c.args.spec.now.procs = omega arith in
    let so_far : c.loop-down.states ≡ count_below (is_down_in_scope c.args.spec.now) c.loop-down.down * c.count_combinations-combinations.result = c.loop-down.invariant in
    let known = rw (whole, c.count_combinations-combinations.ensures.value) at so_far in
    known ∙ sym (count_blocks (is_down_in_scope c.args.spec.now) (2 ^ length c.args.spec.now.procs) (combinations c.args.spec.now.factors) (rw (← c.count_combinations-combinations.ensures.value) (omega arith)))
