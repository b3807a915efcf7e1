use Rattle.std.proofs.Common.{refl}
use Rattle.spec_reading.proofs.Found.{place_found}
use Rattle.spec_reading.proofs.names.read_named.Goals as goal

pub returns-in-Some-clause-value : goal.returns-in-Some-clause-value
returns-in-Some-clause-value g c =
    let found = place_found g.N.Naming.spelling c.args.items.now c.in_ok-text.field-0.now in
    rw (← c.in_ok-text.ensures, ← found, ← c.in-Some.ensures.number) refl

pub returns-in-None-clause-value : goal.returns-in-None-clause-value
returns-in-None-clause-value g c =
    let found = place_found g.N.Naming.spelling c.args.items.now c.in_ok-text.field-0.now in
    rw (← c.in_ok-text.ensures, ← found, ← c.in-None.ensures.number, c.new.ensures) refl
