-- A flight depends only on whether a processor halts before its mark or after it.
use Rattle.std.proofs.Common.{◌≡◌, ◌∙◌, ℕ, zero, suc, ◌+◌, Bool, true, false, length, arith, ap, refl, sym}
use Rattle.std.specs.Prelude.{◌&&◌, not, nat_le, if◌then◌else◌}
use Rattle.std.proofs.Math.Path.{fun_ext}
use Rattle.std.proofs.lemmas.Bool.Decides.{nat_tests}
use Rattle.scram_types.specs.Bits.{bits_below}
use Rattle.scram_types.specs.declared.rows.Env.{Env}
use Rattle.scram_types.specs.declared.scripts.HaltAt.{HaltAt}
use Rattle.scram_types.specs.Scripts.{ScriptParts}
use Rattle.scram_types.specs.Searches.{listed_below}
use Rattle.scram_types.specs.Specification.{Parts}
use Rattle.fault_script.specs.Environments.{env_at}
use Rattle.fault_script.specs.Times.{commits, factors_at, halts_before_mark, is_halt_in, is_over, is_up, words}
use Rattle.fault_script.proofs.Halts.{up_by_lists}
use Rattle.frame_model.specs.Flights.{row_at, rows_of, state_after}
use Rattle.frame_model.specs.Readings.{reports}
use Rattle.frame_model.specs.States.{row_of, step}
use Rattle.fault_family.proofs.Mapped.{all_mapped, any_mapped}
use Rattle.fault_family.specs.Standing.{ListedStepsStand, listed_halt, with_listed_steps}

same_side : (w step : ℕ) (b : Bool) → nat_le step w ≡ b → nat_le (if b then 0 else w + 1) w ≡ b
same_side w step true is = grind (arith, nat_tests)
same_side w step false is = grind (arith, nat_tests)

module _ (spec : Parts) (script : ScriptParts) where
  same_up : (p f : ℕ) → is_up script p f ≡ is_up (with_listed_steps spec script) p f
  same_up p f =
      sym (up_by_lists script p f)
      ∙ sym (all_mapped (is_over script p f) (is_over (with_listed_steps spec script) p f) (listed_halt spec) (λ halt. refl) script.halts)
      ∙ up_by_lists (with_listed_steps spec script) p f

  same_early : (p f : ℕ) → halts_before_mark spec (with_listed_steps spec script) p f ≡ halts_before_mark spec script p f
  same_early p f =
      any_mapped (λ (halt : HaltAt). is_halt_in p f halt && nat_le halt.step (words spec)) (λ (halt : HaltAt). is_halt_in p f halt && nat_le halt.step (words spec)) (listed_halt spec)
      (λ halt. ap (λ (early : Bool). is_halt_in p f halt && early) (same_side (words spec) halt.step (nat_le halt.step (words spec)) refl)) script.halts

  same_commits : (f : ℕ) → ◌≡◌ {A = ℕ → Bool} (λ p. commits spec script p f) (λ p. commits spec (with_listed_steps spec script) p f)
  same_commits f = fun_ext (λ p. ap (λ (up : Bool). up && not (halts_before_mark spec script p f)) (same_up p f)
      ∙ ap (λ (early : Bool). is_up (with_listed_steps spec script) p f && not early) (sym (same_early p f)))

  same_env : (f : ℕ) → env_at spec script f ≡ env_at spec (with_listed_steps spec script) f
  same_env f = ap (env_of f) (fun_ext (λ p. same_up p f))
    where
      env_of : ℕ → (ℕ → Bool) → Env
      env_of f up = record { up = bits_below up (length spec.procs); factors = factors_at script f }

  same_state : (f : ℕ) → state_after spec script f ≡ state_after spec (with_listed_steps spec script) f
  same_state zero = refl
  same_state (suc f) =
      ap (step spec f (env_at spec script f) (λ p. commits spec script p f)) (same_state f)
      ∙ ap (λ v. step spec f v (λ p. commits spec script p f) (state_after spec (with_listed_steps spec script) f)) (same_env f)
      ∙ ap (λ c. step spec f (env_at spec (with_listed_steps spec script) f) c (state_after spec (with_listed_steps spec script) f)) (same_commits f)

  same_row : (f : ℕ) → row_at spec script f ≡ row_at spec (with_listed_steps spec script) f
  same_row f =
      ap (row_of spec f (env_at spec script f) (λ p. commits spec script p f)) (same_state f)
      ∙ ap (λ v. row_of spec f v (λ p. commits spec script p f) (state_after spec (with_listed_steps spec script) f)) (same_env f)
      ∙ ap (λ c. row_of spec f (env_at spec (with_listed_steps spec script) f) c (state_after spec (with_listed_steps spec script) f)) (same_commits f)

  same_rows : rows_of spec script ≡ rows_of spec (with_listed_steps spec script)
  same_rows = ap (λ row. listed_below row script.frames) (fun_ext same_row)

pub listed_steps_stand : ListedStepsStand
listed_steps_stand spec script = record { rows = same_rows spec script; reports = ap (reports spec) (same_rows spec script) }
