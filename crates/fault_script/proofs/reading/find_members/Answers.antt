use Rattle.std.proofs.Common.{rules, refl}
use Rattle.fault_script.proofs.reading.find_members.Goals as goal

pub returns : goal.returns
returns c =
    let object = rw (c.root-at.ensures) at c.in_ok-object.ensures in
    let found = rw (c.root-at.ensures) at c.in_ok-scram.ensures in
    let count = rw (c.root-at.ensures, c.member_count.ensures) at c.in_ok-no_more_than.ensures in
    rw (← object, ← found, ← c.in_ok-restarts.ensures, ← count) refl

pub returns-in_err-no_more_than : goal.returns-in_err-no_more_than
returns-in_err-no_more_than c = search rules
