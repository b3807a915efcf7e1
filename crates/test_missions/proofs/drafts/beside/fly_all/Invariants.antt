use Rattle.std.proofs.Common.{◌≡◌, ◌<◌}
use Rattle.test_missions.proofs.drafts.beside.fly_all.Given as goal

abbrev pub invariant-loop-frame : goal.invariant-loop-frame
invariant-loop-frame g l = record {
  at : l.sys.frame ≡ l._frame;
  one_there : l.one.proc.0 < 8;
  two_there : l.two.proc.0 < 8;
}
