use Rattle.std.proofs.Common.{◌≡◌, drop}
use Rattle.frame_model.specs.States.{lead_among, lead_of}
use Rattle.frame_model.proofs.outcomes.lead_of.Given as goal

abbrev pub invariant-loop-a : goal.invariant-loop-a
invariant-loop-a l = lead_among (drop l.a l.spec.apps) (drop l.a l.areas) l.kind ≡ lead_of l.spec l.areas l.kind
