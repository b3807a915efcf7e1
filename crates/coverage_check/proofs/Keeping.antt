-- The environment of a mission is in scope in each frame, including the frame after the last one.
use Rattle.std.proofs.Common.{◌≡◌, ℕ, zero, suc, ◌-◌, ◌^◌, ◌<◌, ◌≤◌, not, refl, ap, arith, ◌⊎◌, sym, ◌∙◌, [], ◌∷◌, length}
use mathlib.Core.Logic.{inl, inr}
use Rattle.std.specs.Prelude.{slice_index}
use Rattle.std.proofs.lemmas.Option.{slice_get_within}
use Rattle.scram_types.specs.Specification.{IsSpec, Parts}
use Rattle.scram_types.specs.Scripts.{ScriptParts}
use Rattle.scram_types.specs.Bits.{count_below, has_bit}
use Rattle.scram_types.specs.Lookups.{opening_env}
use Rattle.scram_types.proofs.Equality.{same_env}
use Rattle.scram_types.proofs.BitSets.{bits_all, count_same, has_bits}
use Rattle.scram_types.proofs.Naturals.{at_most_test}
use Rattle.choice_table.specs.Environments.{IsEnv}
use Rattle.fault_script.specs.Times.{factor_at, factors_at, is_up}
use Rattle.fault_script.specs.Environments.{env_at}
use Rattle.fault_script.specs.Assumption.{down_below}
use Rattle.fault_script.specs.Fits.{Fits}
use Rattle.fault_script.proofs.Showing.{environments_show}
use Rattle.fault_script.proofs.Walking.{first_later, none_taken, nothing_taken, values_are}
use Rattle.coverage_check.specs.Keeping.{MissionsKeepScope}

pub value_in : (script : ScriptParts) (f x : ℕ) → x < 6 → slice_index (factors_at script f) x ≡ factor_at script x f
value_in script f zero h = refl
value_in script f (suc zero) h = refl
value_in script f (suc (suc zero)) h = refl
value_in script f (suc (suc (suc zero))) h = refl
value_in script f (suc (suc (suc (suc zero)))) h = refl
value_in script f (suc (suc (suc (suc (suc zero))))) h = refl
value_in script f (suc (suc (suc (suc (suc (suc x)))))) h = absurd (omega arith)

zero_past : (script : ScriptParts) (f x : ℕ) → 6 ≤ x → slice_index (factors_at script f) x ≡ 0
zero_past script f zero h = absurd (omega arith)
zero_past script f (suc zero) h = absurd (omega arith)
zero_past script f (suc (suc zero)) h = absurd (omega arith)
zero_past script f (suc (suc (suc zero))) h = absurd (omega arith)
zero_past script f (suc (suc (suc (suc zero)))) h = absurd (omega arith)
zero_past script f (suc (suc (suc (suc (suc zero))))) h = absurd (omega arith)
zero_past script f (suc (suc (suc (suc (suc (suc x)))))) h = refl

six_or_past : (x : ℕ) → (x < 6) ⊎ (6 ≤ x)
six_or_past x = grind arith

module _ (spec : Parts) (script : ScriptParts) (made : IsSpec spec) (fits : Fits spec script) where
  down_is : (f n : ℕ) → n ≤ length spec.procs → count_below (λ p. not (has_bit (env_at spec script f).up p)) n ≡ down_below script f n
  down_is f n h = count_same (λ p. not (has_bit (env_at spec script f).up p)) (λ p. not (is_up script p f)) n
      (λ p less. ap not (has_bits (λ q. is_up script q f) (length spec.procs) p (omega arith)))

  belongs : (f : ℕ) → IsEnv spec (env_at spec script f)
  belongs f =
      let shows = environments_show spec script made fits f in
      record {
        up = shows.past;
        width = refl;
        values = λ x factor there.
            (let inside : x < length spec.factors = slice_get_within spec.factors x factor there in
            let few = made.factors_count in
            rw (value_in script f x (omega arith)) (shows.values x factor there));
        rest = λ x past. elim (six_or_past x) [ inl less ↦ value_in script f x less ∙ shows.rest x past | inr far ↦ zero_past script f x far ];
      }

  opens : env_at spec script 0 ≡ opening_env spec
  opens =
      same_env _ (2 ^ length spec.procs - 1) (factors_at script 0) (0 ∷ 0 ∷ 0 ∷ 0 ∷ 0 ∷ 0 ∷ []) (sym (bits_all (length spec.procs)))
      (sym (values_are script 0 0 fits.changes_ordered (none_taken script.changes 0) (first_later spec script fits)) ∙ nothing_taken script.changes)

pub missions_keep_scope : MissionsKeepScope
missions_keep_scope mission made is = record {
  opens = opens mission.spec mission.script made is.fits;
  stays = λ f inside. record {
    belongs = belongs mission.spec mission.script made is.fits f;
    scope = at_most_test _ _ (rw (down_is mission.spec mission.script made is.fits f (length mission.spec.procs) (omega arith)) (is.within.scope f inside));
  };
}
