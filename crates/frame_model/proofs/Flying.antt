-- If a system is before frame `f` of a script, the next row of the system is the row of frame `f`, and the system is
-- then before frame `f + 1`.
use Rattle.std.proofs.Common.{◌≡◌, ◌∙◌, ℕ, suc, ◌+◌, ◌-◌, ◌^◌, refl, ap, arith, length, List, [], ◌∷◌, ◌++◌}
use Rattle.std.specs.Prelude.{bit_and, bit_or}
use Rattle.std.specs.Int.{bit_not, w8}
use Rattle.scram_types.specs.declared.rows.Env.{Env}
use Rattle.scram_types.specs.declared.rows.Row.{Row}
use Rattle.scram_types.specs.Scripts.{ScriptParts}
use Rattle.scram_types.specs.Specification.{IsSpec, Parts}
use Rattle.scram_types.specs.Bits.{has_bit}
use Rattle.scram_types.specs.Searches.{listed_below}
use Rattle.scram_types.proofs.BitSets.{bits_all}
use Rattle.fault_script.specs.Environments.{env_at}
use Rattle.fault_script.specs.Times.{commits, factors_at}
use Rattle.fault_script.specs.declared.walks.Walk.{Walk}
use Rattle.fault_script.specs.Walks.{IsWalk}
use Rattle.fault_script.specs.Inputs.{input_at}
use Rattle.frame_model.specs.declared.systems.Sys.{Sys}
use Rattle.frame_model.specs.Flights.{row_at, state_after}
use Rattle.frame_model.specs.Frames.{commits_in, frame_env, row_given, state_given, state_of, sys_after, sys_of, up_after}
use Rattle.frame_model.specs.Standing.{StandsBefore, up_before}
use Rattle.frame_model.specs.States.{row_of, start_state, step}
use Rattle.frame_model.proofs.Agreeing.{Agree, agreeing, row_same, step_same}
use Rattle.frame_model.proofs.Ups.{commits_same, env_up, up_next}

abbrev env_with : Parts → ScriptParts → ℕ → ℕ → Env
env_with spec script f up = record { up = up; factors = factors_at script f }

env_given : (spec : Parts) (script : ScriptParts) (f : ℕ) (sys : Sys) → sys.up ≡ up_before spec script f → frame_env sys (input_at spec script f) ≡ env_at spec script f
env_given spec script f sys is =
    ap (λ u. env_with spec script f (bit_or u (input_at spec script f).back)) is ∙ ap (env_with spec script f) (env_up spec script f)

agree_given : (spec : Parts) → IsSpec spec → (script : ScriptParts) (f : ℕ) (sys : Sys) → sys.up ≡ up_before spec script f
    → Agree spec (commits_in sys (input_at spec script f)) (λ p. commits spec script p f)
agree_given spec facts script f sys is =
    let few = facts.procs_count.few in
    agreeing spec (commits_in sys (input_at spec script f)) (λ p. commits spec script p f)
    (λ p low. ap (λ (v : Env). has_bit (bit_and v.up (bit_not w8 (input_at spec script f).early)) p) (env_given spec script f sys is) ∙ commits_same spec script f p few low)

up_given : (spec : Parts) → IsSpec spec → (script : ScriptParts) (f : ℕ) (sys : Sys) → sys.up ≡ up_before spec script f → up_after sys (input_at spec script f) ≡ up_before spec script (suc f)
up_given spec facts script f sys is =
    let few = facts.procs_count.few in
    ap (λ (v : Env). bit_and v.up (bit_not w8 (bit_or (input_at spec script f).early (input_at spec script f).late))) (env_given spec script f sys is) ∙ up_next spec script f few

module _ (spec : Parts) (facts : IsSpec spec) (script : ScriptParts) (sys : Sys) (walk : Walk) (stands : StandsBefore spec script sys.frame sys walk) where
  pub row_is : row_given spec sys (input_at spec script sys.frame) ≡ row_at spec script sys.frame
  row_is =
      row_same spec facts sys.frame (frame_env sys (input_at spec script sys.frame)) (commits_in sys (input_at spec script sys.frame)) (λ p. commits spec script p sys.frame) (state_of sys)
      (agree_given spec facts script sys.frame sys stands.up)
      ∙ ap (λ v. row_of spec sys.frame v (λ p. commits spec script p sys.frame) (state_of sys)) (env_given spec script sys.frame sys stands.up)
      ∙ ap (row_of spec sys.frame (env_at spec script sys.frame) (λ p. commits spec script p sys.frame)) stands.state

  state_is : state_given spec sys (input_at spec script sys.frame) ≡ state_after spec script (suc sys.frame)
  state_is =
      step_same spec facts sys.frame (frame_env sys (input_at spec script sys.frame)) (commits_in sys (input_at spec script sys.frame)) (λ p. commits spec script p sys.frame) (state_of sys)
      (agree_given spec facts script sys.frame sys stands.up)
      ∙ ap (λ v. step spec sys.frame v (λ p. commits spec script p sys.frame) (state_of sys)) (env_given spec script sys.frame sys stands.up)
      ∙ ap (step spec sys.frame (env_at spec script sys.frame) (λ p. commits spec script p sys.frame)) stands.state

stands_next : (spec : Parts) → IsSpec spec → (script : ScriptParts) (sys : Sys) (old new : Walk) → StandsBefore spec script sys.frame sys old → IsWalk spec script (suc sys.frame) new
    → StandsBefore spec script (suc sys.frame) (sys_after spec sys (input_at spec script sys.frame)) new
stands_next spec facts script sys old new stands there = record {
  frame = refl;
  state = state_is spec facts script sys old stands;
  up = up_given spec facts script sys.frame sys stands.up;
  walks = there;
}

pub stands_more : (spec : Parts) → IsSpec spec → (script : ScriptParts) (sys next : Sys) (old new : Walk) → StandsBefore spec script sys.frame sys old → IsWalk spec script (sys.frame + 1) new
    → next ≡ sys_after spec sys (input_at spec script sys.frame) → StandsBefore spec script (sys.frame + 1) next new
stands_more spec facts script sys next old new stands there is =
    let e : sys.frame + 1 ≡ suc sys.frame = omega arith in
    rw (e, is) (stands_next spec facts script sys old new stands (rw (← e) there))

pub stands_first : (spec : Parts) (script : ScriptParts) (sys : Sys) (walk : Walk) → sys ≡ sys_of 0 (2 ^ length spec.procs - 1) (start_state spec) → IsWalk spec script 0 walk → StandsBefore spec script 0 sys walk
stands_first spec script sys walk is there =
    rw is (record { frame = refl; state = refl; up = bits_all (length spec.procs); walks = there })

pub rows_more : (value : ℕ → Row) (n at : ℕ) (front all : List Row) (row : Row) → front ≡ listed_below value n → all ≡ front ++ row ∷ [] → row ≡ value at → at ≡ n → all ≡ listed_below value (n + 1)
rows_more value n at front all row before more is same =
    let e : n + 1 ≡ suc n = omega arith in
    rw (e, more, before, is, same) refl
