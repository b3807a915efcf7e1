use Rattle.std.proofs.Common.{◌≡◌, ◌+◌, ◌/◌, ◌∙◌, arith, drop, length-set, refl, suc}
use Rattle.std.proofs.Math.Nat.{mod-lt}
use Rattle.choice_table.specs.Numbering.{combinations, values_of}
use Rattle.choice_table.proofs.Digits.{place_left, place_step, spelled_step, zeros_step}
use Rattle.choice_table.proofs.numbering.values_numbered.Goals as goal

next : (c : goal.After-count_values-place) → c.loop-x.place / c.count_values-place.result ≡ combinations (drop (suc c.loop-x.x) c.args.spec.now.factors)
next c =
    rw (c.count_values-place.ensures.value)
    (place_step c.args.spec.now.factors c.loop-x.x c.loop-x.place c.count_factors-x-end.ensures.known (omega arith) c.loop-x.invariant.place)

pub nonzero_div-values : goal.nonzero_div-values
nonzero_div-values c = rw (next c) (place_left c.args.spec.now.factors c.loop-x.x c.count_factors-x-end.ensures.known)

pub nonzero_rem-rest : goal.nonzero_rem-rest
nonzero_rem-rest c = rw (next c) (place_left c.args.spec.now.factors c.loop-x.x c.count_factors-x-end.ensures.known)

pub loop-x-preserved : goal.loop-x-preserved
loop-x-preserved c =
    let more : c.loop-x.x + 1 ≡ suc c.loop-x.x = omega arith in
    let width = c.loop-x.invariant.width in
    rw (more, next c) (record {
      place = refl;
      rest = mod-lt c.loop-x.rest (place_left c.args.spec.now.factors c.loop-x.x c.count_factors-x-end.ensures.known);
      spelled = spelled_step c.args.spec.now.factors c.loop-x.values (values_of c.args.spec.now.factors c.args.number) c.loop-x.x c.loop-x.rest (omega arith) (omega arith) c.loop-x.invariant.spelled;
      width = length-set c.loop-x.values c.loop-x.x _ ∙ width;
      zeros = zeros_step c.loop-x.values c.loop-x.x _ (omega arith) c.loop-x.invariant.zeros;
    })
