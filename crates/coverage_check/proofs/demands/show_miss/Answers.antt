use Rattle.std.proofs.Common.{Some, ap}
use Rattle.scram_types.proofs.Placed.{read_within}
use Rattle.coverage_check.proofs.demands.show_miss.Goals as goal

pub returns : goal.returns
returns c =
    let there = read_within c.args.found.now c.args.k c.in_ok-least.least.now c.in_ok-least.ensures.lookup.0 c.in_ok-least.ensures.lookup.1 in
    rw (there, c.in_ok-env.was) (ap Some c.within.ensures)

pub returns-in_err-env : goal.returns-in_err-env
returns-in_err-env c =
    let there = read_within c.args.found.now c.args.k c.in_ok-least.least.now c.in_ok-least.ensures.lookup.0 c.in_ok-least.ensures.lookup.1 in
    rw (there, c.in_err-env.was) c.from_residual-in_err-env.ensures
