use Rattle.std.proofs.Common.{ap, refl, sym}
use Rattle.std.proofs.lemmas.Option.{slice_get_past}
use Rattle.scram_types.proofs.Naturals.{not_below}
use Rattle.scram_types.proofs.Placed.{read_within}
use Rattle.reconf_spec.specs.Texts.{name_or_nothing}
use Rattle.reconf_spec.proofs.values.name_of_variable.Goals as goal

pub returns-in-Some-variable_name : goal.returns-in-Some-variable_name
returns-in-Some-variable_name c =
    let there = read_within c.args.apps.now c.from.result c.in-Some.app.now c.in-Some.ensures.lookup.0 c.in-Some.ensures.lookup.1 in
    rw (← c.from.ensures, there) (ap name_or_nothing c.in-Some-variable_name.ensures)

pub returns-in-None-variable_name : goal.returns-in-None-variable_name
returns-in-None-variable_name c =
    let there = read_within c.args.apps.now c.from.result c.in-Some.app.now c.in-Some.ensures.lookup.0 c.in-Some.ensures.lookup.1 in
    rw (← c.from.ensures, there) (ap name_or_nothing c.in-None-variable_name.ensures)

pub returns-in-None : goal.returns-in-None
returns-in-None c = rw (← c.from.ensures, slice_get_past c.args.apps.now c.from.result (not_below _ _ (sym c.in-None.ensures.lookup.0))) refl
