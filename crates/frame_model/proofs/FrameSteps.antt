-- The acts, areas, keepers and row that a frame computes, and the system after the frame, are as defined.
use Rattle.std.proofs.Common.{◌≡◌, ◌∙◌, ℕ, suc, ◌+◌, refl, ap, arith, List}
use Rattle.std.specs.Prelude.{ℤ, Bool, Option}
use Rattle.scram_types.specs.declared.ids.ProcId.{ProcId}
use Rattle.scram_types.specs.declared.rows.Env.{Env}
use Rattle.scram_types.specs.declared.rows.Row.{Row}
use Rattle.scram_types.specs.declared.rows.World.{World}
use Rattle.scram_types.specs.declared.orders.Act.{Act}
use Rattle.scram_types.specs.declared.orders.KMode.{KMode}
use Rattle.scram_types.specs.Specification.{Parts}
use Rattle.scram_types.specs.Eights.{eight}
use Rattle.app_model.specs.declared.seen.Seen.{Seen}
use Rattle.fault_script.specs.declared.inputs.Input.{Input}
use Rattle.frame_model.specs.declared.phases.Phase.{Phase}
use Rattle.frame_model.specs.declared.systems.Sys.{Sys}
use Rattle.frame_model.specs.Frames.{commits_in, committing, frame_env, row_given, state_of, sys_after, up_after}
use Rattle.frame_model.specs.Outcomes.{act_made, area_made, keeper_made}
use Rattle.frame_model.specs.Phases.{phase_at}
use Rattle.frame_model.specs.States.{acts_in, areas_in, has_arrived, keepers_in, world_in, mode_decided, seen_by_all}

pub acts_are : (spec : Parts) (sys : Sys) (input : Input) (phase told : Phase) (set : ℕ) (acts : List Act)
    → told ≡ phase → set ≡ committing sys input → acts ≡ eight (act_made spec told set) → acts ≡ acts_in spec phase (commits_in sys input)
acts_are spec sys input phase told set acts is_phase is_set is =
    is ∙ ap (λ p. eight (act_made spec p set)) is_phase ∙ ap (λ s. eight (act_made spec phase s)) is_set

pub areas_are : (spec : Parts) (sys : Sys) (input : Input) (env : Env) (phase told : Phase) (seen : Seen) (set : ℕ) (areas : List (List ℤ))
    → told ≡ phase → set ≡ committing sys input → seen ≡ seen_by_all spec env (state_of sys) → areas ≡ eight (area_made spec sys told set seen)
    → areas ≡ areas_in spec env (commits_in sys input) (state_of sys) phase
areas_are spec sys input env phase told seen set areas is_phase is_set is_seen is =
    is ∙ ap (λ p. eight (area_made spec sys p set seen)) is_phase ∙ ap (λ s. eight (area_made spec sys phase s seen)) is_set
    ∙ ap (λ s. eight (area_made spec sys phase (committing sys input) s)) is_seen

pub keepers_are : (spec : Parts) (sys : Sys) (input : Input) (phase told : Phase) (set : ℕ) (keepers : List (Option ProcId))
    → told ≡ phase → set ≡ committing sys input → keepers ≡ eight (keeper_made spec sys told set) → keepers ≡ keepers_in spec (commits_in sys input) (state_of sys) phase
keepers_are spec sys input phase told set keepers is_phase is_set is =
    is ∙ ap (λ p. eight (keeper_made spec sys p set)) is_phase ∙ ap (λ s. eight (keeper_made spec sys phase s)) is_set

abbrev row_made : Sys → Env → KMode → List Act → List (List ℤ) → World → Row
row_made sys env mode acts areas world = record { frame = sys.frame; env = env; mode = mode; acts = acts; areas = areas; world = world }

pub frame_row : (spec : Parts) (sys : Sys) (input : Input) (env : Env) (mode : KMode) (acts : List Act) (areas : List (List ℤ)) (world : World)
    → env ≡ frame_env sys input → mode ≡ mode_decided spec sys.frame env (state_of sys) → acts ≡ acts_in spec (phase_at spec mode sys.frame) (commits_in sys input)
    → areas ≡ areas_in spec env (commits_in sys input) (state_of sys) (phase_at spec mode sys.frame) → world ≡ world_in spec sys.world areas
    → row_made sys env mode acts areas world ≡ row_given spec sys input
frame_row spec sys input env mode acts areas world is_env is_mode is_acts is_areas is_world =
    rw (is_world, is_areas, is_acts, is_mode, is_env) refl

pub frame_sys : (spec : Parts) (sys : Sys) (input : Input) (row : Row) (keepers : List (Option ProcId)) (up : ℕ) (arrived : Bool)
    → row ≡ row_given spec sys input → keepers ≡ keepers_in spec (commits_in sys input) (state_of sys) (phase_at spec row.mode row.frame)
    → up ≡ up_after sys input → arrived ≡ has_arrived spec row
    → ◌≡◌ {A = Sys} (record { frame = sys.frame + 1; mode = row.mode; areas = row.areas; keepers = keepers; world = row.world; up = up; settled = arrived }) (sys_after spec sys input)
frame_sys spec sys input row keepers up arrived is_row is_keepers is_up is_arrived =
    let next : sys.frame + 1 ≡ suc sys.frame = omega arith in
    rw (next, is_up, is_arrived, is_keepers, is_row) refl
