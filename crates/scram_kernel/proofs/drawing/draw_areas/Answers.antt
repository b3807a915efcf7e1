use Rattle.std.proofs.Common.{rules, ◌≡◌, ◌∙◌, ◌<◌, ap, arith, length, []}
use Rattle.std.specs.Prelude.{slice_index_or}
use Rattle.std.proofs.lemmas.List.{get_or_default}
use Rattle.scram_types.specs.Eights.{eight}
use Rattle.frame_model.specs.declared.tasks.Task.{Task}
use Rattle.frame_model.specs.States.{area_at, zeros}
use Rattle.frame_model.proofs.TaskLists.{no_task, task_read}
use Rattle.frame_model.proofs.Eights.{filled_all, filled_more, still_more}
use Rattle.scram_kernel.specs.Drawing.{area_from, has_committed}
use Rattle.scram_kernel.proofs.Areas.{area_by_tasks}
use Rattle.scram_kernel.proofs.drawing.draw_areas.Goals as goal

pub loop-a-preserved : goal.loop-a-preserved
loop-a-preserved c =
    let stored = c.args.stored.now in
    let tasks = c.args.tasks.now in
    let areas = c.loop-a.areas in
    let at = c.loop-a.a in
    let made = area_by_tasks tasks c.args.image.now.frame stored.marks.now stored.images.now c.args.areas.now in
    let drawn = area_from (has_committed stored.marks.now c.args.image.now.frame) stored.images.now at in
    let known : at < length tasks = search rules in
    let there : at < length areas = rw (c.loop-a.invariant.drawn.eight) (omega arith) in
    let before = get_or_default areas at [] zeros there ∙ c.loop-a.invariant.still at zeros (omega arith) in
    let is : c.draw_area.new.area ≡ made at =
    c.draw_area.ensures
    ∙ ap (λ i. drawn (slice_index_or areas i []) (slice_index_or tasks c.from-at.result no_task).proc) c.from-at.ensures
    ∙ ap (λ old. drawn old (slice_index_or tasks c.from-at.result no_task).proc) before
    ∙ ap (λ (task : Task). drawn (area_at c.args.areas.now at) task.proc) (task_read tasks c.from-at.result at c.from-at.ensures known) in
    record {
      drawn = rw (c.from-at.ensures) (filled_more made areas at _ c.loop-a.invariant.drawn (omega arith) is);
      still = rw (c.from-at.ensures) (still_more c.args.areas.now areas at _ c.loop-a.invariant.still);
    }

pub returns : goal.returns
returns c = λ spec is.
    let stored = c.args.stored.now in
    let frame = c.args.image.now.frame in
    let last : c.loop-a.a ≡ 8 = omega arith in
    filled_all (area_by_tasks c.args.tasks.now frame stored.marks.now stored.images.now c.args.areas.now) c.loop-a.areas (rw (← last) c.loop-a.invariant.drawn)
    ∙ ap (λ tasks. eight (area_by_tasks tasks frame stored.marks.now stored.images.now c.args.areas.now)) is
