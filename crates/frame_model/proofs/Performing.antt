-- The outcome for an application is the same for any two settings of one frame, if its own area and keeper are the
-- same.
use Rattle.std.proofs.Common.{◌≡◌, ◌∙◌, ℕ, ap}
use Rattle.scram_types.specs.Bits.{has_bit}
use Rattle.scram_types.specs.Lookups.{kind_of_app}
use Rattle.scram_types.specs.Specification.{Parts}
use Rattle.app_model.specs.Law.{law}
use Rattle.frame_model.specs.declared.outcomes.Setting.{Setting}
use Rattle.frame_model.specs.declared.phases.Stage.{Stage}
use Rattle.frame_model.specs.declared.systems.Sys.{Sys}
use Rattle.frame_model.specs.Outcomes.{IsSharedAlike, act_made, area_made, keeper_made}
use Rattle.frame_model.specs.States.{area_at, area_on, keeper_at, keeper_on, seen_in}
use Rattle.frame_model.specs.Tasks.{task_in}

pub act_same : (spec : Parts) (setting other : Setting) (a : ℕ) → IsSharedAlike setting other
    → act_made spec other.stage.phase other.committing a ≡ act_made spec setting.stage.phase setting.committing a
act_same spec setting other a alike =
    ap (λ (stage : Stage). act_made spec stage.phase other.committing a) alike.stage ∙ ap (λ set. act_made spec setting.stage.phase set a) alike.committing

pub area_same : (spec : Parts) (sys later : Sys) (setting other : Setting) (a : ℕ) → IsSharedAlike setting other → area_at later.areas a ≡ area_at sys.areas a
    → area_made spec later other.stage.phase other.committing other.seen a ≡ area_made spec sys setting.stage.phase setting.committing setting.seen a
area_same spec sys later setting other a alike same =
    ap (λ (stage : Stage). area_made spec later stage.phase other.committing other.seen a) alike.stage
    ∙ ap (λ set. area_made spec later setting.stage.phase set other.seen a) alike.committing
    ∙ ap (λ seen. area_on (has_bit setting.committing) (law (kind_of_app spec a) (task_in spec setting.stage.phase a).order seen) (area_at later.areas a) (task_in spec setting.stage.phase a).proc)
    (alike.seen (task_in spec setting.stage.phase a).mode (area_at later.areas a))
    ∙ ap (λ own. area_on (has_bit setting.committing) (law (kind_of_app spec a) (task_in spec setting.stage.phase a).order (seen_in setting.seen (task_in spec setting.stage.phase a).mode own)) own
    (task_in spec setting.stage.phase a).proc) same

pub keeper_same : (spec : Parts) (sys later : Sys) (setting other : Setting) (a : ℕ) → IsSharedAlike setting other → keeper_at later.keepers a ≡ keeper_at sys.keepers a
    → keeper_made spec later other.stage.phase other.committing a ≡ keeper_made spec sys setting.stage.phase setting.committing a
keeper_same spec sys later setting other a alike same =
    ap (λ (stage : Stage). keeper_made spec later stage.phase other.committing a) alike.stage
    ∙ ap (λ set. keeper_made spec later setting.stage.phase set a) alike.committing
    ∙ ap (λ keeper. keeper_on (has_bit setting.committing) keeper (task_in spec setting.stage.phase a).proc) same

pub alike_on : (setting other last : Setting) → IsSharedAlike setting other → IsSharedAlike other last → IsSharedAlike setting last
alike_on setting other last first then = record {
  stage = then.stage ∙ first.stage;
  committing = then.committing ∙ first.committing;
  seen = λ mode own. then.seen mode own ∙ first.seen mode own;
}
