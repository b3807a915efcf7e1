use Rattle.std.proofs.Common.{◌≡◌, ◌∙◌, arith}
use Rattle.std.specs.Prelude.{None}
use Rattle.frame_model.specs.Outcomes.{act_made, area_made, keeper_made}
use Rattle.frame_model.specs.States.{zeros}
use Rattle.frame_model.proofs.Eights.{filled_all, filled_more, still_more}
use Rattle.frame_model.proofs.Performing.{act_same, alike_on, area_same, keeper_same}
use Rattle.frame_model.proofs.outcomes.perform_all.Goals as goal

pub loop-a-preserved : goal.loop-a-preserved
loop-a-preserved g c =
    let spec = c.args.spec.now in
    let sys = c.args.sys.now in
    let setting = c.args.setting.now in
    let at = c.loop-a.a in
    let held = c.loop-a.invariant in
    let act = act_same spec setting c.loop-a.setting at held.alike in
    let area = area_same spec sys c.loop-a.sys setting c.loop-a.setting at held.alike (held.areas_still at zeros (omega arith)) in
    let keeper = keeper_same spec sys c.loop-a.sys setting c.loop-a.setting at held.alike (held.keepers_still at None (omega arith)) in
    record {
      acts = rw (c.from.ensures) (filled_more (act_made spec setting.stage.phase setting.committing) c.loop-a.acts at _ held.acts (omega arith) (c.perform.ensures.act ∙ act));
      areas = rw (c.perform.ensures.areas) (filled_more (area_made spec sys setting.stage.phase setting.committing setting.seen) c.loop-a.sys.areas at _ held.areas (omega arith) area);
      keepers = rw (c.perform.ensures.keepers) (filled_more (keeper_made spec sys setting.stage.phase setting.committing) c.loop-a.sys.keepers at _ held.keepers (omega arith) keeper);
      areas_still = rw (c.perform.ensures.areas) (still_more sys.areas c.loop-a.sys.areas at _ held.areas_still);
      keepers_still = rw (c.perform.ensures.keepers) (still_more sys.keepers c.loop-a.sys.keepers at _ held.keepers_still);
      alike = alike_on setting c.loop-a.setting c.perform.new.setting held.alike c.perform.ensures.setting;
    }

pub returns-clause-acts : goal.returns-clause-acts
returns-clause-acts g c =
    let last : c.loop-a.a ≡ 8 = omega arith in
    filled_all (act_made c.args.spec.now c.args.setting.now.stage.phase c.args.setting.now.committing) c.loop-a.acts (rw (← last) c.loop-a.invariant.acts)

pub returns-clause-areas : goal.returns-clause-areas
returns-clause-areas g c =
    let last : c.loop-a.a ≡ 8 = omega arith in
    filled_all (area_made c.args.spec.now c.args.sys.now c.args.setting.now.stage.phase c.args.setting.now.committing c.args.setting.now.seen) c.loop-a.sys.areas (rw (← last) c.loop-a.invariant.areas)

pub returns-clause-keepers : goal.returns-clause-keepers
returns-clause-keepers g c =
    let last : c.loop-a.a ≡ 8 = omega arith in
    filled_all (keeper_made c.args.spec.now c.args.sys.now c.args.setting.now.stage.phase c.args.setting.now.committing) c.loop-a.sys.keepers (rw (← last) c.loop-a.invariant.keepers)
