use Rattle.std.proofs.Common.{◌≡◌, ℕ, ◌++◌, List, drop}
use Rattle.trace_text.specs.Text.{app_lines}
use Rattle.scram_io.specs.Outside.{Printed}
use Rattle.trace_text.proofs.puts.put_apps.Given as goal

abbrev pub invariant-loop-a : goal.invariant-loop-a
invariant-loop-a g l =
    (front : List ℕ)
    × (app_lines l.spec l.row l.spec.apps 0 ≡ front ++ app_lines l.spec l.row (drop l.a l.spec.apps) l.a)
    × Printed (g.K.Sink.state l.initial.out) (g.K.Sink.state l.out) front
