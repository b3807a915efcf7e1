use Rattle.std.proofs.Common.{length, refl, sym}
use Rattle.std.proofs.lemmas.Bool.{ltb-true}
use Rattle.std.proofs.lemmas.List.{get_or-map}
use Rattle.kind_table.specs.Kinds.{kind_variable, unused, variable_read}
use Rattle.kind_table.proofs.table.kind_variable.Goals as goal

pub returns-in-Some : goal.returns-in-Some
unfolding kind_variable
returns-in-Some c =
    let words = c.kind_or_last.result.variables.now in
    let low = ltb-true c.args.variable (length words) (sym c.in-Some.ensures.lookup.0) in
    let read = get_or-map variable_read words c.args.variable c.in-Some.found.now unused low in
    rw (← c.kind_or_last.ensures, read, ← c.in-Some.ensures.lookup.1) refl
