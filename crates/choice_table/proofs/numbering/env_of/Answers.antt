use Rattle.std.proofs.Common.{◌<◌}
use Rattle.choice_table.specs.Numbering.{environments}
use Rattle.choice_table.proofs.Inverses.{is_env, number_of-numbered}
use Rattle.choice_table.proofs.numbering.env_of.Goals as goal

pub returns-then-number-count_environments-clause-belongs : goal.returns-then-number-count_environments-clause-belongs
returns-then-number-count_environments-clause-belongs c =
    let inside : c.args.number < environments c.args.spec.now = rw (← c.count_environments.ensures.value) c.if-number-count_environments.true in
    rw (c.env_numbered.ensures) (is_env c.args.spec.now c.count_environments.ensures.known c.count_environments.ensures.few c.args.number inside)

pub returns-then-number-count_environments-clause-back : goal.returns-then-number-count_environments-clause-back
returns-then-number-count_environments-clause-back c =
    let inside : c.args.number < environments c.args.spec.now = rw (← c.count_environments.ensures.value) c.if-number-count_environments.true in
    rw (c.env_numbered.ensures) (number_of-numbered c.args.spec.now c.count_environments.ensures.known c.count_environments.ensures.few c.args.number inside)
