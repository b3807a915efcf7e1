use Rattle.std.proofs.Common.{rules}
use Rattle.spec_reading.proofs.applications.AppsNamedElementsAppSpecByName.read.Goals as goal

pub returns-clause-fits : goal.returns-clause-fits
returns-clause-fits c = rw (c.of-2.ensures) (record {
  name = c.in_ok-name-2.ensures.fresh;
  kind = c.in_ok-kind.ensures.built;
  count = record { enough = c.in_ok-modes.ensures.least; few = c.in_ok-modes.ensures.most };
  modes = c.in_ok-modes.ensures.fits;
})

pub returns-in_err-name-clause-value : goal.returns-in_err-name-clause-value
returns-in_err-name-clause-value c = rw (← c.in_err-name.ensures) (search rules)

pub returns-in_err-name-2-clause-value : goal.returns-in_err-name-2-clause-value
returns-in_err-name-2-clause-value c =
    rw (← c.in_ok-name.ensures, ← c.member.ensures.path, ← c.in_err-name-2.ensures.value) (search rules)

pub returns-in_err-kind-clause-value : goal.returns-in_err-kind-clause-value
returns-in_err-kind-clause-value c =
    rw (← c.in_ok-name.ensures, ← c.member.ensures.path, ← c.in_ok-name-2.ensures.value, ← c.member-2.ensures.path, ← c.in_err-kind.ensures.value) (search rules)

pub returns-in_err-check_text_list-clause-value : goal.returns-in_err-check_text_list-clause-value
returns-in_err-check_text_list-clause-value c =
    rw (← c.in_ok-name.ensures, ← c.member.ensures.path, ← c.in_ok-name-2.ensures.value, ← c.member-2.ensures.path, ← c.in_ok-kind.ensures.value, ← c.member-3.ensures.path, ← c.in_err-check_text_list.ensures) (search rules)

pub returns-in_err-modes-clause-value : goal.returns-in_err-modes-clause-value
returns-in_err-modes-clause-value c =
    rw (← c.in_ok-name.ensures, ← c.member.ensures.path, ← c.in_ok-name-2.ensures.value, ← c.member-2.ensures.path, ← c.in_ok-kind.ensures.value, ← c.member-3.ensures.path, ← c.in_ok-check_text_list.ensures) (search rules)

pub returns-clause-value : goal.returns-clause-value
returns-clause-value c =
    rw (← c.in_ok-name.ensures, ← c.member.ensures.path, ← c.in_ok-name-2.ensures.value, ← c.member-2.ensures.path, ← c.in_ok-kind.ensures.value, ← c.member-3.ensures.path, ← c.in_ok-check_text_list.ensures) (search rules)
