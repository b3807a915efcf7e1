use Rattle.std.proofs.Common.{◌≡◌}
use Rattle.scram_types.specs.Searches.{listed_below}
use Rattle.frame_model.specs.Flights.{row_at}
use Rattle.frame_model.specs.Standing.{StandsBefore}
use Rattle.frame_model.proofs.traces.fly_all.Given as goal

abbrev pub invariant-loop-frame : goal.invariant-loop-frame
invariant-loop-frame g l = record {
  rows : l.rows.items ≡ listed_below (row_at l.spec l.script) l._frame;
  before : StandsBefore l.spec l.script l._frame l.sys l.walk;
}
