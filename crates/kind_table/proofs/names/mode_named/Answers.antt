use Rattle.std.proofs.Common.{◌≡◌, Some}
use Rattle.kind_table.specs.Names.{mode_names, number_in}
use Rattle.kind_table.proofs.Spelling.{each_is_named}
use Rattle.kind_table.proofs.names.mode_named.Goals as goal

pub returns-in-Some-clause-of_kind : goal.returns-in-Some-clause-of_kind
returns-in-Some-clause-of_kind c = λ built.
    let names = c.names_of_modes.ensures.names in
    let number = c.in-Some.ensures.number in
    let found : number_in (mode_names c.args.kind.0) c.args.name.now ≡ Some c.in-Some.number = cc in
    (each_is_named c.args.kind.0 built).mode_number c.args.name.now c.in-Some.number found
