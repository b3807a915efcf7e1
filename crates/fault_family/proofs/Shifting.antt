-- A script in which everything comes some frames later has the same environments and commits, later by that number of
-- frames.
use Rattle.std.proofs.Common.{◌≡◌, ◌∙◌, ℕ, zero, suc, ◌+◌, ◌-◌, ◌<◌, ◌≤◌, Bool, true, false, List, [], ◌∷◌, length, map, arith, ap, refl, sym, nat_lt}
use mathlib.Core.Logic.{inl, inr}
use Rattle.std.specs.Prelude.{◌&&◌, ◌==◌, not, nat_le, if◌then◌else◌}
use Rattle.std.specs.List.{list_all}
use Rattle.std.proofs.Math.Bool.{and-false}
use Rattle.std.proofs.Math.Path.{fun_ext}
use Rattle.std.proofs.lemmas.Bool.Decides.{nat_tests}
use Rattle.std.specs.Str.{bytes_eq}
use Rattle.scram_types.proofs.BitSets.{count_same}
use Rattle.scram_types.proofs.Naturals.{low_or_high}
use Rattle.scram_types.specs.Bits.{bits_below}
use Rattle.scram_types.specs.declared.rows.Env.{Env}
use Rattle.scram_types.specs.declared.scripts.Change.{Change}
use Rattle.scram_types.specs.declared.scripts.HaltAt.{HaltAt}
use Rattle.scram_types.specs.declared.scripts.RestartAt.{RestartAt}
use Rattle.scram_types.specs.Scripts.{ScriptParts}
use Rattle.scram_types.specs.Specification.{Each, Parts}
use Rattle.fault_script.specs.Assumption.{IsWithin, changes_upto, down_below, is_change_frame, is_same_env}
use Rattle.fault_script.specs.Environments.{env_at}
use Rattle.fault_script.specs.Fits.{Fits}
use Rattle.fault_script.specs.Times.{commits, factor_at, factors_at, halts_before_mark, is_halt_in, is_over, is_restart_between, is_up, restarted, value_after, words}
use Rattle.fault_script.proofs.Halts.{up_by_lists}
use Rattle.fault_family.proofs.Mapped.{all_mapped, any_mapped}
use Rattle.fault_family.specs.Shifts.{LaterScriptsShowTheSame, later_by}

lt_later : (d a b : ℕ) → nat_lt (d + a) (d + b) ≡ nat_lt a b
lt_later d a b = grind (arith, nat_tests)

le_later : (d a b : ℕ) → nat_le (d + a) (d + b) ≡ nat_le a b
le_later d a b = grind (arith, nat_tests)

equal_later : (d a b : ℕ) → (d + a == d + b) ≡ (a == b)
equal_later d a b = grind (arith, nat_tests)

equal_numbers : (n : ℕ) → (n == n) ≡ true
equal_numbers n = grind (arith, nat_tests)

equal_bytes : (bytes : List ℕ) → bytes_eq bytes bytes ≡ true
equal_bytes [] = refl
equal_bytes (byte ∷ bytes) = rw (equal_numbers byte, equal_bytes bytes) refl

module _ (spec : Parts) (d : ℕ) (script : ScriptParts) where
  pub changes_moved : (x f : ℕ) (changes : List Change) (value : ℕ)
      → value_after (map (λ (change : Change). record { frame = d + change.frame; factor = change.factor; value = change.value }) changes) x (d + f) value ≡ value_after changes x f value
  changes_moved x f [] value = refl
  changes_moved x f (change ∷ changes) value =
      changes_moved x f changes (if change.factor.0 == x && nat_le (d + change.frame) (d + f) then change.value else value)
      ∙ ap (λ (b : Bool). value_after changes x f (if change.factor.0 == x && b then change.value else value)) (le_later d change.frame f)

  factor_later : (x f : ℕ) → factor_at (later_by d script) x (d + f) ≡ factor_at script x f
  factor_later x f = changes_moved x f script.changes 0

  restarted_later : (p h f : ℕ) → restarted (later_by d script) p (d + h) (d + f) ≡ restarted script p h f
  restarted_later p h f =
      any_mapped (is_restart_between p h f) (is_restart_between p (d + h) (d + f)) (λ (restart : RestartAt). record { proc = restart.proc; frame = d + restart.frame })
      (λ restart. rw (lt_later d h restart.frame, le_later d restart.frame f) refl) script.restarts

  pub up_later : (p f : ℕ) → is_up (later_by d script) p (d + f) ≡ is_up script p f
  up_later p f =
      sym (up_by_lists (later_by d script) p (d + f))
      ∙ all_mapped (is_over script p f) (is_over (later_by d script) p (d + f)) (λ (halt : HaltAt). record { proc = halt.proc; frame = d + halt.frame; step = halt.step })
      (λ halt. rw (lt_later d halt.frame f, restarted_later p halt.frame f) refl) script.halts
      ∙ up_by_lists script p f

  early_later : (p f : ℕ) → halts_before_mark spec (later_by d script) p (d + f) ≡ halts_before_mark spec script p f
  early_later p f =
      any_mapped (λ (halt : HaltAt). is_halt_in p f halt && nat_le halt.step (words spec)) (λ (halt : HaltAt). is_halt_in p (d + f) halt && nat_le halt.step (words spec))
      (λ (halt : HaltAt). record { proc = halt.proc; frame = d + halt.frame; step = halt.step }) (λ halt. rw (equal_later d halt.frame f) refl) script.halts

  pub commits_later : (p f : ℕ) → commits spec (later_by d script) p (d + f) ≡ commits spec script p f
  commits_later p f =
      ap (λ (up : Bool). up && not (halts_before_mark spec (later_by d script) p (d + f))) (up_later p f)
      ∙ ap (λ (early : Bool). is_up script p f && not early) (early_later p f)

  env_of : (ℕ → Bool) → List ℕ → Env
  env_of up factors = record { up = bits_below up (length spec.procs); factors = factors }

  factors_later : (f : ℕ) → factors_at (later_by d script) (d + f) ≡ factors_at script f
  factors_later f = rw (factor_later 0 f, factor_later 1 f, factor_later 2 f, factor_later 3 f, factor_later 4 f, factor_later 5 f) refl

  pub environment_later : (f : ℕ) → env_at spec (later_by d script) (d + f) ≡ env_at spec script f
  unfolding env_of
  environment_later f =
      ap (λ up. env_of up (factors_at (later_by d script) (d + f))) (fun_ext (λ p. up_later p f))
      ∙ ap (env_of (λ p. is_up script p f)) (factors_later f)

  -- Lemmas on the frames up to frame `d`, in which no change, halt or restart of the later script has come yet.

  nothing_yet : (x f : ℕ) (changes : List Change) (value : ℕ) → Each (λ (change : Change). f < d + change.frame) changes
      → value_after (map (λ (change : Change). record { frame = d + change.frame; factor = change.factor; value = change.value }) changes) x f value ≡ value
  nothing_yet x f [] value late = refl
  nothing_yet x f (change ∷ changes) value late =
      let here : nat_le (d + change.frame) f ≡ false = (let after = late 0 change refl in grind (arith, nat_tests, after)) in
      ap (λ (b : Bool). value_after (map (λ (change : Change). record { frame = d + change.frame; factor = change.factor; value = change.value }) changes) x f (if change.factor.0 == x && b then change.value else value)) here
      ∙ ap (λ (b : Bool). value_after (map (λ (change : Change). record { frame = d + change.frame; factor = change.factor; value = change.value }) changes) x f (if b then change.value else value)) (and-false (change.factor.0 == x))
      ∙ nothing_yet x f changes value (λ i c there. late (suc i) c there)

  pub nothing_at_first : (x f : ℕ) (changes : List Change) (value : ℕ) → Each (λ (change : Change). f < change.frame) changes → value_after changes x f value ≡ value
  nothing_at_first x f [] value late = refl
  nothing_at_first x f (change ∷ changes) value late =
      let here : nat_le change.frame f ≡ false = (let after = late 0 change refl in grind (arith, nat_tests, after)) in
      ap (λ (b : Bool). value_after changes x f (if change.factor.0 == x && b then change.value else value)) here
      ∙ ap (λ (b : Bool). value_after changes x f (if b then change.value else value)) (and-false (change.factor.0 == x))
      ∙ nothing_at_first x f changes value (λ i c there. late (suc i) c there)

  no_halt_yet : (p f : ℕ) → f ≤ d → (halts : List HaltAt)
      → list_all (is_over (later_by d script) p f) (map (λ (halt : HaltAt). record { proc = halt.proc; frame = d + halt.frame; step = halt.step }) halts) ≡ true
  no_halt_yet p f early [] = refl
  no_halt_yet p f early (halt ∷ halts) =
      let after : nat_lt (d + halt.frame) f ≡ false = grind (arith, nat_tests, early) in
      rw (after, and-false (halt.proc.0 == p)) (no_halt_yet p f early halts)

  pub up_before : (p f : ℕ) → f ≤ d → is_up (later_by d script) p f ≡ true
  up_before p f early = sym (up_by_lists (later_by d script) p f) ∙ no_halt_yet p f early script.halts

  module _ (fits : Fits spec script) where
    factor_before : (x f : ℕ) → f < d → factor_at (later_by d script) x f ≡ factor_at script x 0
    factor_before x f early =
        nothing_yet x f script.changes 0 (λ i change there. omega (arith, early))
        ∙ sym (nothing_at_first x 0 script.changes 0 (λ i change there. let least = (fits.changes i change there).least in omega (arith, least)))

    factors_before : (f : ℕ) → f < d → factors_at (later_by d script) f ≡ factors_at script 0
    factors_before f early = rw (factor_before 0 f early, factor_before 1 f early, factor_before 2 f early, factor_before 3 f early, factor_before 4 f early, factor_before 5 f early) refl

    pub environment_before : (f : ℕ) → f < d → env_at spec (later_by d script) f ≡ env_at spec script 0
    unfolding env_of
    environment_before f early =
        ap (λ up. env_of up (factors_at (later_by d script) f)) (fun_ext (λ p. up_before p f (omega (arith, early))))
        ∙ ap (env_of (λ p. is_up script p 0)) (factors_before f early)

    -- Lemmas on the failure assumption.

    change_later : (f : ℕ) → is_change_frame spec (later_by d script) (d + suc f) ≡ is_change_frame spec script (suc f)
    change_later f =
        let next : d + suc f ≡ suc (d + f) = omega arith in
        ap (is_change_frame spec (later_by d script)) next
        ∙ ap (λ (v : Env). not (is_same_env v (env_at spec (later_by d script) (suc (d + f))))) (environment_later f)
        ∙ ap (λ (v : Env). not (is_same_env (env_at spec script f) v)) (ap (env_at spec (later_by d script)) (sym next) ∙ environment_later (suc f))

    same_again : (v w : Env) → v ≡ w → not (is_same_env v w) ≡ false
    same_again v w same = rw (same, equal_numbers w.up, equal_bytes w.factors) refl

    first_ones : (f : ℕ) → f ≤ d → env_at spec (later_by d script) f ≡ env_at spec script 0
    first_ones f early = elim (low_or_high f d) [
      | inl less ↦ environment_before f less
      | inr last ↦ (let here : f ≡ d + 0 = omega (arith, last, early) in ap (env_at spec (later_by d script)) here ∙ environment_later 0)
    ]

    no_change_yet : (f : ℕ) → f ≤ d → changes_upto spec (later_by d script) f ≡ 0
    no_change_yet zero early = refl
    no_change_yet (suc f) early =
        rw (
          no_change_yet f (omega (arith, early)),
          same_again (env_at spec (later_by d script) f) (env_at spec (later_by d script) (suc f)) (first_ones f (omega (arith, early)) ∙ sym (first_ones (suc f) early)),
        ) refl

    changes_later : (f : ℕ) → changes_upto spec (later_by d script) (d + f) ≡ changes_upto spec script f
    changes_later zero = let here : d + 0 ≡ d = omega arith in ap (changes_upto spec (later_by d script)) here ∙ no_change_yet d (omega arith)
    changes_later (suc f) =
        let next : d + suc f ≡ suc (d + f) = omega arith in
        ap (changes_upto spec (later_by d script)) next
        ∙ ap (λ (n : ℕ). n + (if is_change_frame spec (later_by d script) (suc (d + f)) then 1 else 0)) (changes_later f)
        ∙ ap (λ (b : Bool). changes_upto spec script f + (if b then 1 else 0)) (ap (is_change_frame spec (later_by d script)) (sym next) ∙ change_later f)

    few_later : IsWithin spec script → (f : ℕ) → f ≤ d + script.frames
        → changes_upto spec (later_by d script) f ≤ changes_upto spec (later_by d script) (f - spec.window) + spec.changes + 1
    few_later within f inside = elim (low_or_high f d) [
      | inl early ↦ (let none = no_change_yet f (omega (arith, early)) in omega (arith, none))
      | inr after ↦
          let here : f ≡ d + (f - d) = omega (arith, after) in
          let count = ap (changes_upto spec (later_by d script)) here ∙ changes_later (f - d) in
          let few = within.few (f - d) (omega (arith, inside, after)) in
          elim (low_or_high (f - d) spec.window) [
            | inl short ↦
                let none : f - d - spec.window ≡ 0 = omega (arith, short) in
                let few_there = ap (changes_upto spec script) none in
                omega (arith, count, few, few_there)
            | inr long ↦
                let back : f - spec.window ≡ d + (f - d - spec.window) = omega (arith, after, long) in
                let there = ap (changes_upto spec (later_by d script)) back ∙ changes_later (f - d - spec.window) in
                omega (arith, count, few, there)
          ]
    ]

    none_down : (f n : ℕ) → f ≤ d → down_below (later_by d script) f n ≡ 0
    none_down f zero early = refl
    none_down f (suc n) early = rw (none_down f n early, up_before n f early) refl

    scope_later : IsWithin spec script → (f : ℕ) → f ≤ d + script.frames → down_below (later_by d script) f (length spec.procs) ≤ spec.halts
    scope_later within f inside = elim (low_or_high f d) [
      | inl early ↦ (let none = none_down f (length spec.procs) (omega (arith, early)) in omega (arith, none))
      | inr after ↦
          let here : f ≡ d + (f - d) = omega (arith, after) in
          let count : down_below (later_by d script) f (length spec.procs) ≡ down_below script (f - d) (length spec.procs) =
          ap (λ g. down_below (later_by d script) g (length spec.procs)) here
          ∙ count_same (λ p. not (is_up (later_by d script) p (d + (f - d)))) (λ p. not (is_up script p (f - d))) (length spec.procs) (λ p below. ap not (up_later p (f - d))) in
          let scope = within.scope (f - d) (omega (arith, inside, after)) in
          omega (arith, count, scope)
    ]

pub later_scripts_show_the_same : LaterScriptsShowTheSame
later_scripts_show_the_same spec d script fits = record {
  environment = environment_later spec d script;
  commits = commits_later spec d script;
  before = environment_before spec d script fits;
  within = λ within. record { scope = scope_later spec d script fits within; few = few_later spec d script fits within };
}
