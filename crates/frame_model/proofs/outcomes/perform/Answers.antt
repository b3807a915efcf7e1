use Rattle.std.proofs.Common.{◌≡◌, ◌∙◌, ℕ, Bool, List, ap, false, refl, sym}
use Rattle.std.specs.Prelude.{ℤ, None, Option, Some, slice_set}
use Rattle.std.proofs.lemmas.List.{set-get_or}
use Rattle.scram_types.specs.declared.ids.ProcId.{ProcId}
use Rattle.scram_types.specs.Bits.{has_bit}
use Rattle.frame_model.specs.declared.tasks.Task.{Task}
use Rattle.frame_model.specs.Outcomes.{law_made}
use Rattle.frame_model.specs.States.{area_at, area_on, keeper_at, keeper_on, zeros}
use Rattle.frame_model.specs.Tasks.{task_in}
use Rattle.frame_model.proofs.outcomes.perform.Goals as goal

-- The area and the keeper stay as they are where the task's processor does not commit.
module _ (commits : ℕ → Bool) (task made : Task) (proc : ProcId) (same : task ≡ made) (at : task.proc ≡ Some proc) (no : false ≡ commits proc.0) (a : ℕ) where
  area_stays : (new : List ℤ) (areas : List (List ℤ)) → areas ≡ slice_set areas a (area_on commits new (area_at areas a) made.proc)
  area_stays new areas =
      let old : area_on commits new (area_at areas a) made.proc ≡ area_at areas a = rw (← same, at, ← no) refl in
      sym (ap (slice_set areas a) old ∙ set-get_or areas a zeros)

  keeper_stays : (keepers : List (Option ProcId)) → keepers ≡ slice_set keepers a (keeper_on commits (keeper_at keepers a) made.proc)
  keeper_stays keepers =
      let old : keeper_on commits (keeper_at keepers a) made.proc ≡ keeper_at keepers a = rw (← same, at, ← no) refl in
      sym (ap (slice_set keepers a) old ∙ set-get_or keepers a None)

pub returns-else-has_bit-clause-areas : goal.returns-else-has_bit-clause-areas
returns-else-has_bit-clause-areas g c =
    let made = task_in c.args.spec.now c.args.setting.now.stage.phase c.args.a in
    area_stays (has_bit c.args.setting.now.committing) c.task_in-task.result made c.in-Some.proc c.task_in-task.ensures.task c.in-Some.is c.if-has_bit.ensures c.args.a
    (law_made c.args.spec.now c.args.sys.now c.args.setting.now.seen c.args.a made) c.args.sys.now.areas

pub returns-else-has_bit-clause-keepers : goal.returns-else-has_bit-clause-keepers
returns-else-has_bit-clause-keepers g c =
    keeper_stays (has_bit c.args.setting.now.committing) c.task_in-task.result (task_in c.args.spec.now c.args.setting.now.stage.phase c.args.a) c.in-Some.proc c.task_in-task.ensures.task c.in-Some.is c.if-has_bit.ensures
    c.args.a c.args.sys.now.keepers
