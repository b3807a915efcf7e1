use Rattle.std.proofs.Common.{List, ap, arith, get_or, length, subst, ◌+◌, ◌∙◌}
use Rattle.std.proofs.lemmas.List.{length_push}
use Rattle.scram_types.specs.Specification.{IsSpec, Parts}
use Rattle.scram_types.specs.declared.demands.Demand.{Demand}
use Rattle.cube_cover.specs.Covers.{IsLeastEnv}
use Rattle.cube_cover.specs.Demands.{misses}
use Rattle.cube_cover.proofs.Missing.{found_more}
use Rattle.cube_cover.proofs.demands.misses.Goals as goal

pub chosen_regions-requires : goal.chosen_regions-requires
chosen_regions-requires c = subst IsSpec c.spec.view_is c.spec.invariant

pub least_miss-requires-clause-known : goal.least_miss-requires-clause-known
least_miss-requires-clause-known c = subst IsSpec c.spec.view_is c.spec.invariant

pub loop-demand-preserved : goal.loop-demand-preserved
loop-demand-preserved c =
    let pushed = c.in_ok-push.ensures.items in
    let spec = c.args.spec.now in
    let demands = c.items-demand-items.ensures ∙ ap (λ (spec : Parts). spec.demands) c.spec.view_is in
    let count = ap length demands in
    let item = c.demand-item.is ∙ ap (λ (ds : List Demand). get_or ds c.loop-demand.demand-index c.demand-item.result) demands in
    let least = subst (λ (demand : Demand). IsLeastEnv spec (misses spec demand c.args.i) c.least_miss.result) item c.least_miss.ensures in
    let low = c.loop-demand-test.true in
    record {
      counted = ap length pushed ∙ length_push c.loop-demand.found.items c.least_miss.result ∙ ap (λ n. n + 1) c.loop-demand.invariant.counted;
      found = found_more spec c.args.i c.loop-demand.found.items c.push.new.self.items c.loop-demand.demand-index c.demand-item.result c.least_miss.result
          (omega arith) c.loop-demand.invariant.counted c.loop-demand.invariant.found least pushed;
    }

pub returns : goal.returns
returns c = record {
  all =
      let counted = c.loop-demand.invariant.counted in
      let same = ap (λ (spec : Parts). length spec.demands) c.spec.view_is in
      let demands = ap length c.items-demand-items.ensures in
      omega arith;
  least = c.loop-demand.invariant.found;
}
