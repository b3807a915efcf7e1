use Rattle.std.proofs.Common.{rules, ◌≡◌, ◌<◌, [], ◌∷◌, ◌++◌, length, arith, sym, ap, ◌∙◌, length-set}
use Rattle.spec_reading.specs.Needs.{with_ranks}
use Rattle.spec_reading.proofs.Handing.{last_ranks, no_ranks_left}
use Rattle.spec_reading.proofs.needs.set_ranks.Goals as goal

pub loop-rank-preserved : goal.loop-rank-preserved
loop-rank-preserved c =
    let before : c.loop-rank.ranks.items ≡ c.pop.new.self.items ++ c.in-Some.rank ∷ [] = search rules in
    let place : c.len.result ≡ length c.pop.new.self.items = search rules in
    let below : length c.pop.new.self.items < length c.loop-rank.apps = search rules in (
      rw (place) (last_ranks c.loop-rank.apps c.pop.new.self.items c.in-Some.rank _ below ∙ (ap (with_ranks c.loop-rank.apps) (sym before) ∙ c.loop-rank.invariant.0)),
      rw (length-set c.loop-rank.apps c.len.result _) (omega (arith, below)),
    )

pub returns : goal.returns
returns c =
    let over : c.loop-rank.ranks.items ≡ [] = search rules in
    sym (no_ranks_left c.loop-rank.apps) ∙ (ap (with_ranks c.loop-rank.apps) (sym over) ∙ c.loop-rank.invariant.0)
