use Rattle.std.proofs.Common.{◌≡◌, ◌+◌, drop}
use Rattle.flight_facts.specs.Acts.{count_acts}
use Rattle.flight_facts.proofs.acts.count_acts.Given as goal

abbrev pub invariant-loop-row : goal.invariant-loop-row
invariant-loop-row l = l.count + count_acts l.what l.app (drop l.row-index l.rows) ≡ count_acts l.what l.app l.rows
