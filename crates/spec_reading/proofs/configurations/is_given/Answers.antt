use Rattle.std.proofs.Common.{refl, sym}
use Rattle.std.proofs.lemmas.Option.{slice_get_past}
use Rattle.scram_types.proofs.Naturals.{not_below}
use Rattle.scram_types.proofs.Placed.{read_within}
use Rattle.spec_reading.proofs.configurations.is_given.Goals as goal

pub returns-in-Some : goal.returns-in-Some
returns-in-Some g c =
    let there = read_within c.args.items.now c.from.result c.in-Some.item.now c.in-Some.ensures.lookup.0 c.in-Some.ensures.lookup.1 in
    rw (← c.from.ensures, there) c.is_some.ensures

pub returns-in-None : goal.returns-in-None
returns-in-None g c = rw (← c.from.ensures, slice_get_past c.args.items.now c.from.result (not_below _ _ (sym c.in-None.ensures.lookup.0))) refl
