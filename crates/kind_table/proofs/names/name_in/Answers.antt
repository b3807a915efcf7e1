use Rattle.std.proofs.Common.{refl, sym}
use Rattle.std.proofs.lemmas.Option.{slice_get-map, slice_get_past}
use Rattle.scram_types.proofs.Naturals.{not_below}
use Rattle.scram_types.proofs.Placed.{read_within}
use Rattle.kind_table.proofs.names.name_in.Goals as goal

pub returns-in-Some : goal.returns-in-Some
returns-in-Some c =
    let there = read_within c.args.names.now c.from.result c.in-Some.name.now c.in-Some.ensures.lookup.0 c.in-Some.ensures.lookup.1 in
    rw (← c.from.ensures, slice_get-map, there) refl

pub returns-in-None : goal.returns-in-None
returns-in-None c =
    let past = slice_get_past c.args.names.now c.from.result (not_below _ _ (sym c.in-None.ensures.lookup.0)) in
    rw (← c.from.ensures, slice_get-map, past) refl
