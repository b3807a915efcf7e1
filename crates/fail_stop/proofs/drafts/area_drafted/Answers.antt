use Rattle.std.proofs.Common.{rules, ◌≡◌, ◌∙◌, ◌<◌, ap, length, sym}
use Rattle.std.specs.Prelude.{slice_index_or}
use Rattle.scram_types.specs.Lookups.{kind_of_app}
use Rattle.scram_types.proofs.Eights.{eight_at}
use Rattle.app_model.specs.Law.{law}
use Rattle.frame_model.specs.declared.tasks.Task.{Task}
use Rattle.frame_model.proofs.TaskLists.{no_task, task_read}
use Rattle.frame_model.specs.States.{area_at, keeper_at, seen_in, zeros}
use Rattle.fail_stop.specs.Drafts.{area_kept, areas_shown, task_among}
use Rattle.fail_stop.proofs.drafts.area_drafted.Goals as goal

pub returns-clause-area : goal.returns-clause-area
returns-clause-area g c =
    let s = c.args.setting.now in
    let a = c.args.a in
    let kind = kind_of_app s.spec.now a in
    let task = slice_index_or s.tasks c.from.result no_task in
    let known : a < length s.tasks = search rules in
    let task_is : task ≡ task_among s.tasks a = task_read s.tasks c.from.result a c.from.ensures known in
    let own_is : c.area_kept.result ≡ area_at (areas_shown s.snap.now) a =
    c.area_kept.ensures ∙ sym (eight_at (λ b. area_kept s.snap.now.images (keeper_at s.snap.now.kernel.keepers b) b) a zeros c.requires.a) in
    c.rack_frame.ensures.answer
    ∙ ap (λ k. law k task.order c.show_in.new.seen) c.kind_of_app.ensures.kind
    ∙ ap (law kind task.order) c.show_in.ensures
    ∙ ap (λ own. law kind task.order (seen_in c.args.seen.now task.mode own)) own_is
    ∙ ap (λ (task : Task). law kind task.order (seen_in c.args.seen.now task.mode (area_at (areas_shown s.snap.now) a))) task_is
