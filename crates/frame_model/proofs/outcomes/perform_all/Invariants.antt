use Rattle.frame_model.specs.Outcomes.{IsSharedAlike, act_made, area_made, keeper_made}
use Rattle.frame_model.proofs.Eights.{AreStill, Filled}
use Rattle.frame_model.proofs.outcomes.perform_all.Given as goal

abbrev pub invariant-loop-a : goal.invariant-loop-a
invariant-loop-a g l = record {
  acts : Filled (act_made l.spec l.fn.setting.stage.phase l.fn.setting.committing) l.acts l.a;
  areas : Filled (area_made l.spec l.fn.sys l.fn.setting.stage.phase l.fn.setting.committing l.fn.setting.seen) l.sys.areas l.a;
  keepers : Filled (keeper_made l.spec l.fn.sys l.fn.setting.stage.phase l.fn.setting.committing) l.sys.keepers l.a;
  areas_still : AreStill l.fn.sys.areas l.sys.areas l.a;
  keepers_still : AreStill l.fn.sys.keepers l.sys.keepers l.a;
  alike : IsSharedAlike l.fn.setting l.setting;
}
