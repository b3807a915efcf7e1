use Rattle.std.proofs.Common.{◌≡◌, drop}
use Rattle.std.specs.Prelude.{find}
use Rattle.scram_types.specs.declared.ids.AppId.{AppId}
use Rattle.dep_order.specs.Ranking.{is_unranked}
use Rattle.dep_order.proofs.ranks.find_waiting.Given as goal

abbrev pub invariant-loop-needed : goal.invariant-loop-needed
invariant-loop-needed l =
    find (λ (needed : AppId). is_unranked l.ranks needed.0) (drop l.needed-index l.needs) ≡ find (λ (needed : AppId). is_unranked l.ranks needed.0) l.needs
