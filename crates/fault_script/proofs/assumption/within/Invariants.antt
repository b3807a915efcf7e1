use Rattle.std.proofs.Common.{◌≡◌, None}
use Rattle.scram_types.specs.Searches.{first_below}
use Rattle.fault_script.specs.Assumption.{outside_at}
use Rattle.fault_script.specs.Walks.{IsWindow}
use Rattle.fault_script.proofs.assumption.within.Given as goal

abbrev pub invariant-loop-frame : goal.invariant-loop-frame
invariant-loop-frame l = record {
  window : IsWindow l.spec l.script l.frame l.window;
  inside : first_below (outside_at l.spec l.script) l.frame ≡ None;
}
