use Rattle.std.proofs.Common.{rules, ◌≡◌, ◌+◌, suc, arith, length}
use Rattle.std.specs.Prelude.{None}
use Rattle.event_core.specs.Cores.{core_places, core_words, core_flight}
use Rattle.test_schedules.proofs.Choosing.{over_by}
use Rattle.test_schedules.proofs.choices.first_from.Goals as goal

pub returns-in-None-clause-over : goal.returns-in-None-clause-over
returns-in-None-clause-over c = λ is.
    let none : c.first_in.result ≡ None = search rules in
    let procs = c.requires.procs in
    let end : suc (length c.args.core.now.spec.procs) ≡ c.args.procs + 1 = omega (arith, procs) in
    over_by (core_flight c.args.core.now) (core_places c.args.core.now) (core_words c.args.core.now) c.args.backwards c.args.begin (c.args.procs + 1) end c.goes_on.ensures
    (c.first_in.ensures.none none) (c.first_in-in-None.ensures.none is)

pub returns-in-None-clause-same : goal.returns-in-None-clause-same
returns-in-None-clause-same c = search rules

pub returns-in-Some-clause-same : goal.returns-in-Some-clause-same
returns-in-Some-clause-same c = search rules
