use Rattle.std.proofs.Common.{refl}
use Rattle.dep_order.proofs.Rankings.{all_small, is_ranking, ranks_fall}
use Rattle.dep_order.proofs.ranks.rank.Goals as goal

pub returns-in-Ok-clause-ranks : goal.returns-in-Ok-clause-ranks
returns-in-Ok-clause-ranks c = is_ranking c.ranks_of_unbound-ranks.result c.in-Ok.listed.items _ c.in-Ok.ensures.count c.in-Ok.ensures.ranks c.args.apps.now refl c.requires.needs c.ranks_of_unbound-ranks.ensures.sound

pub returns-in-Ok-clause-falls : goal.returns-in-Ok-clause-falls
returns-in-Ok-clause-falls c =
    ranks_fall c.args.apps.now c.in-Ok.listed.items
    (is_ranking c.ranks_of_unbound-ranks.result c.in-Ok.listed.items _ c.in-Ok.ensures.count c.in-Ok.ensures.ranks c.args.apps.now refl c.requires.needs c.ranks_of_unbound-ranks.ensures.sound)

pub returns-in-Ok-clause-small : goal.returns-in-Ok-clause-small
returns-in-Ok-clause-small c =
    all_small c.ranks_of_unbound-ranks.result c.in-Ok.listed.items _ c.in-Ok.ensures.count c.in-Ok.ensures.ranks c.ranks_of_unbound-ranks.ensures.small
