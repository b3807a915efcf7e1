use Rattle.std.proofs.Common.{refl}
use Rattle.frame_model.specs.Frames.{state_of}
use Rattle.frame_model.proofs.FrameSteps.{acts_are, areas_are, frame_row, frame_sys, keepers_are}
use Rattle.frame_model.proofs.frames.frame.Goals as goal

pub returns-clause-row : goal.returns-clause-row
returns-clause-row g c =
    let outcomes = c.perform_all-acts.ensures in
    frame_row c.args.spec.now c.args.sys.now c.args.input.now c.frame_env-env.result c.decide-mode.result
    c.perform_all-acts.result c.perform_all-acts.new.sys.areas c.world_in-world.result
    c.frame_env-env.ensures c.decide-mode.ensures
    (acts_are c.args.spec.now c.args.sys.now c.args.input.now _ c.stage_at-stage.result.phase c.committing.result _ c.stage_at-stage.ensures.phase c.committing.ensures outcomes.acts)
    (areas_are c.args.spec.now c.args.sys.now c.args.input.now c.frame_env-env.result _ c.stage_at-stage.result.phase c.seen_by_all.result c.committing.result _ c.stage_at-stage.ensures.phase c.committing.ensures (c.seen_by_all.ensures (state_of c.args.sys.now) refl refl) outcomes.areas)
    c.world_in-world.ensures

pub returns-clause-after : goal.returns-clause-after
returns-clause-after g c =
    frame_sys c.args.spec.now c.args.sys.now c.args.input.now _ c.perform_all-acts.new.sys.keepers c.up_after-up.result c.has_arrived-sys.result
    (returns-clause-row g c)
    (keepers_are c.args.spec.now c.args.sys.now c.args.input.now _ c.stage_at-stage.result.phase c.committing.result _ c.stage_at-stage.ensures.phase c.committing.ensures c.perform_all-acts.ensures.keepers)
    c.up_after-up.ensures c.has_arrived-sys.ensures
