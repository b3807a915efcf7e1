use Rattle.std.proofs.Common.{◌≡◌, ◌∙◌, ◌+◌, add-one, ap, arith, length, refl}
use Rattle.scram_types.specs.Searches.{greatest_below}
use Rattle.scram_types.specs.Lookups.{conf_id}
use Rattle.dep_order.specs.Timetables.{halting_time, initialising_time, preparing_time}
use Rattle.coverage_check.proofs.timing.slowest.Goals as goal

pub returns-clause-value : goal.returns-clause-value
returns-clause-value c =
    let spec = c.args.spec.now in
    let last : c.loop-k.k ≡ length spec.confs = let same = c.count_confs-k-end.ensures.value in omega arith in
    c.loop-k.invariant.way ∙ ap (greatest_below (λ k. preparing_time spec (conf_id k) + initialising_time spec (conf_id k) + 1 + halting_time spec (conf_id k))) last

pub loop-k-preserved : goal.loop-k-preserved
loop-k-preserved c = record {
  way = rw (c.max-slowest.ensures, c.way.ensures.value, c.loop-k.invariant.way, add-one c.loop-k.k) refl;
  most = omega arith;
}
