use Rattle.std.proofs.Common.{refl, sym}
use Rattle.spec_reading.proofs.Found.{place_found}
use Rattle.spec_reading.proofs.names.read_new_name.Goals as goal

pub returns-in-Some-clause-value : goal.returns-in-Some-clause-value
returns-in-Some-clause-value g c =
    let found = place_found g.N.Naming.spelling c.args.done.now c.in_ok-name.name in
    rw (← c.in_ok-name.ensures.value, ← found, ← c.as_str.ensures.text, ← c.in-Some.ensures.number, c.new.ensures) refl

pub returns-in-None-clause-value : goal.returns-in-None-clause-value
returns-in-None-clause-value g c =
    let found = place_found g.N.Naming.spelling c.args.done.now c.in_ok-name.name in
    rw (← c.in_ok-name.ensures.value, ← found, ← c.as_str.ensures.text, ← c.in-None.ensures.number) refl

pub returns-in-None-clause-fresh : goal.returns-in-None-clause-fresh
returns-in-None-clause-fresh g c = record {
  new = sym (rw (c.as_str.ensures.text) at c.in-None.ensures.number);
  spelled = c.in_ok-name.ensures.spelled;
}
