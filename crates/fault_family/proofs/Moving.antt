-- The environments and commits of a script in which everything from a frame on comes later.
use Rattle.std.proofs.Common.{◌≡◌, ◌≢◌, ◌∙◌, ℕ, suc, ◌+◌, ◌-◌, ◌<◌, ◌≤◌, Bool, true, false, List, [], ◌∷◌, length, map, arith, ap, refl, sym, nat_lt}
use Rattle.std.specs.Prelude.{◌&&◌, ◌==◌, not, nat_le, if◌then◌else◌}
use Rattle.std.specs.List.{list_all, list_any}
use Rattle.std.proofs.Math.Path.{fun_ext}
use Rattle.std.proofs.lemmas.Bool.Decides.{nat_tests}
use Rattle.scram_types.specs.Bits.{bits_below}
use Rattle.scram_types.specs.declared.rows.Env.{Env}
use Rattle.scram_types.specs.declared.scripts.Change.{Change}
use Rattle.scram_types.specs.declared.scripts.HaltAt.{HaltAt}
use Rattle.scram_types.specs.declared.scripts.RestartAt.{RestartAt}
use Rattle.scram_types.specs.Scripts.{ScriptParts}
use Rattle.scram_types.specs.Specification.{Each, Parts}
use Rattle.fault_script.specs.Environments.{env_at}
use Rattle.fault_script.specs.Times.{commits, factors_at, halts_before_mark, is_halt_in, is_over, is_restart_between, is_up, restarted, value_after, words}
use Rattle.fault_script.proofs.Halts.{up_by_lists}
use Rattle.fault_family.specs.Rests.{later_from, later_frame}
use Rattle.fault_family.proofs.Mapped.{any_mapped}

-- Lemmas on the order of frames that `later_frame` moves.

module _ (b d : ℕ) where
  le_moved : (x f : ℕ) → b ≤ f → nat_le (later_frame b d x) (d + f) ≡ nat_le x f
  le_moved x f after = by_side (nat_lt x b) refl
    where
      by_side : (early : Bool) → nat_lt x b ≡ early → nat_le (if early then x else d + x) (d + f) ≡ nat_le x f
      by_side true is = grind (arith, nat_tests, is, after)
      by_side false is = grind (arith, nat_tests)

  lt_moved : (x f : ℕ) → b ≤ f → nat_lt (later_frame b d x) (d + f) ≡ nat_lt x f
  lt_moved x f after = by_side (nat_lt x b) refl
    where
      by_side : (early : Bool) → nat_lt x b ≡ early → nat_lt (if early then x else d + x) (d + f) ≡ nat_lt x f
      by_side true is = grind (arith, nat_tests, is, after)
      by_side false is = grind (arith, nat_tests)

  equal_moved : (x f : ℕ) → b ≤ f → (later_frame b d x == d + f) ≡ (x == f)
  equal_moved x f after = by_side (nat_lt x b) refl
    where
      by_side : (early : Bool) → nat_lt x b ≡ early → ((if early then x else d + x) == d + f) ≡ (x == f)
      by_side true is = grind (arith, nat_tests, is, after)
      by_side false is = grind (arith, nat_tests)

  both_moved : (x y : ℕ) → nat_lt (later_frame b d x) (later_frame b d y) ≡ nat_lt x y
  both_moved x y = by_side (nat_lt x b) (nat_lt y b) refl refl
    where
      by_side : (early other : Bool) → nat_lt x b ≡ early → nat_lt y b ≡ other → nat_lt (if early then x else d + x) (if other then y else d + y) ≡ nat_lt x y
      by_side true true is also = refl
      by_side true false is also = grind (arith, nat_tests, is, also)
      by_side false true is also = grind (arith, nat_tests, is, also)
      by_side false false is also = grind (arith, nat_tests)

  -- Frame `later_frame b d x` is at most a frame `g` of the rest if and only if `x` is before frame `b`.
  le_resting : (x g : ℕ) → 1 ≤ b → b ≤ g → g < d + b → nat_le (later_frame b d x) g ≡ nat_le x (b - 1)
  le_resting x g some after before = by_side (nat_lt x b) refl
    where
      by_side : (early : Bool) → nat_lt x b ≡ early → nat_le (if early then x else d + x) g ≡ nat_le x (b - 1)
      by_side true is = grind (arith, nat_tests, is, after, some)
      by_side false is = grind (arith, nat_tests, is, before, after, some)

  -- Frame `later_frame b d x` is at most a frame before `b` if and only if `x` is at most that frame.
  le_before : (x f : ℕ) → f < b → nat_le (later_frame b d x) f ≡ nat_le x f
  le_before x f early = by_side (nat_lt x b) refl
    where
      by_side : (other : Bool) → nat_lt x b ≡ other → nat_le (if other then x else d + x) f ≡ nat_le x f
      by_side true is = refl
      by_side false is = grind (arith, nat_tests, is, early)

module _ (spec : Parts) (b d : ℕ) (script : ScriptParts) where
  -- Lemmas on a frame of the script and a frame of the later script up to which the same changes occur.
  values_where : (x f g : ℕ) → ((frame : ℕ) → nat_le (later_frame b d frame) g ≡ nat_le frame f) → (changes : List Change) (value : ℕ)
      → value_after (map (λ (change : Change). record { frame = later_frame b d change.frame; factor = change.factor; value = change.value }) changes) x g value ≡ value_after changes x f value
  values_where x f g same [] value = refl
  values_where x f g same (change ∷ changes) value =
      values_where x f g same changes (if change.factor.0 == x && nat_le (later_frame b d change.frame) g then change.value else value)
      ∙ ap (λ (come : Bool). value_after changes x f (if change.factor.0 == x && come then change.value else value)) (same change.frame)

  factors_where : (f g : ℕ) → ((frame : ℕ) → nat_le (later_frame b d frame) g ≡ nat_le frame f) → factors_at (later_from b d script) g ≡ factors_at script f
  factors_where f g same =
      rw (
        values_where 0 f g same script.changes 0,
        values_where 1 f g same script.changes 0,
        values_where 2 f g same script.changes 0,
        values_where 3 f g same script.changes 0,
        values_where 4 f g same script.changes 0,
        values_where 5 f g same script.changes 0,
      ) refl

  restarted_where : (f g : ℕ) → ((frame : ℕ) → nat_le (later_frame b d frame) g ≡ nat_le frame f) → (p h : ℕ) → restarted (later_from b d script) p (later_frame b d h) g ≡ restarted script p h f
  restarted_where f g same p h =
      any_mapped (is_restart_between p h f) (is_restart_between p (later_frame b d h) g) (λ (restart : RestartAt). record { proc = restart.proc; frame = later_frame b d restart.frame })
      (λ restart. rw (both_moved b d h restart.frame, same restart.frame) refl) script.restarts

  all_where : (tests others : HaltAt → Bool) → (halts : List HaltAt) → Each (λ (halt : HaltAt). others (record { proc = halt.proc; frame = later_frame b d halt.frame; step = halt.step }) ≡ tests halt) halts
      → list_all others (map (λ (halt : HaltAt). record { proc = halt.proc; frame = later_frame b d halt.frame; step = halt.step }) halts) ≡ list_all tests halts
  all_where tests others [] same = refl
  all_where tests others (halt ∷ halts) same = rw (same 0 halt refl, all_where tests others halts (λ i h there. same (suc i) h there)) refl

  any_where : (tests others : HaltAt → Bool) → (halts : List HaltAt) → Each (λ (halt : HaltAt). others (record { proc = halt.proc; frame = later_frame b d halt.frame; step = halt.step }) ≡ tests halt) halts
      → list_any others (map (λ (halt : HaltAt). record { proc = halt.proc; frame = later_frame b d halt.frame; step = halt.step }) halts) ≡ list_any tests halts
  any_where tests others [] same = refl
  any_where tests others (halt ∷ halts) same = rw (same 0 halt refl, any_where tests others halts (λ i h there. same (suc i) h there)) refl

  up_where : (f g : ℕ) → ((frame : ℕ) → nat_le (later_frame b d frame) g ≡ nat_le frame f) → Each (λ (halt : HaltAt). nat_lt (later_frame b d halt.frame) g ≡ nat_lt halt.frame f) script.halts
      → (p : ℕ) → is_up (later_from b d script) p g ≡ is_up script p f
  up_where f g same halted p =
      sym (up_by_lists (later_from b d script) p g)
      ∙ all_where (is_over script p f) (is_over (later_from b d script) p g) script.halts
      (λ i halt there. rw (halted i halt there, restarted_where f g same p halt.frame) refl)
      ∙ up_by_lists script p f

  env_of : (ℕ → Bool) → List ℕ → Env
  env_of up factors = record { up = bits_below up (length spec.procs); factors = factors }

  env_where : (f g : ℕ) → ((frame : ℕ) → nat_le (later_frame b d frame) g ≡ nat_le frame f) → Each (λ (halt : HaltAt). nat_lt (later_frame b d halt.frame) g ≡ nat_lt halt.frame f) script.halts
      → env_at spec (later_from b d script) g ≡ env_at spec script f
  unfolding env_of
  env_where f g same halted =
      ap (λ up. env_of up (factors_at (later_from b d script) g)) (fun_ext (up_where f g same halted))
      ∙ ap (env_of (λ p. is_up script p f)) (factors_where f g same)

  commits_where : (f g : ℕ) → ((frame : ℕ) → nat_le (later_frame b d frame) g ≡ nat_le frame f) → Each (λ (halt : HaltAt). nat_lt (later_frame b d halt.frame) g ≡ nat_lt halt.frame f) script.halts
      → Each (λ (halt : HaltAt). (later_frame b d halt.frame == g) ≡ (halt.frame == f)) script.halts → (p : ℕ) → commits spec (later_from b d script) p g ≡ commits spec script p f
  commits_where f g same halted here p =
      ap (λ (up : Bool). up && not (halts_before_mark spec (later_from b d script) p g)) (up_where f g same halted p)
      ∙ ap (λ (early : Bool). is_up script p f && not early)
      (any_where (λ (halt : HaltAt). is_halt_in p f halt && nat_le halt.step (words spec)) (λ (halt : HaltAt). is_halt_in p g halt && nat_le halt.step (words spec)) script.halts
      (λ i halt there. rw (here i halt there) refl))

  -- Lemmas on frames before, in and after the rest.

  lt_before : (x f : ℕ) → f < b → nat_lt (later_frame b d x) f ≡ nat_lt x f
  lt_before x f early = by_side (nat_lt x b) refl
    where
      by_side : (other : Bool) → nat_lt x b ≡ other → nat_lt (if other then x else d + x) f ≡ nat_lt x f
      by_side true is = refl
      by_side false is = grind (arith, nat_tests, is, early)

  equal_before : (x f : ℕ) → f < b → (later_frame b d x == f) ≡ (x == f)
  equal_before x f early = by_side (nat_lt x b) refl
    where
      by_side : (other : Bool) → nat_lt x b ≡ other → ((if other then x else d + x) == f) ≡ (x == f)
      by_side true is = refl
      by_side false is = grind (arith, nat_tests, is, early)

  lt_resting : (x g : ℕ) → 1 ≤ b → b ≤ g → g < d + b → x ≢ b - 1 → nat_lt (later_frame b d x) g ≡ nat_lt x (b - 1)
  lt_resting x g some after before other = by_side (nat_lt x b) refl
    where
      by_side : (early : Bool) → nat_lt x b ≡ early → nat_lt (if early then x else d + x) g ≡ nat_lt x (b - 1)
      by_side true is = grind (arith, nat_tests, is, after, some, other)
      by_side false is = grind (arith, nat_tests, is, before, after, some)

  equal_resting : (x g : ℕ) → 1 ≤ b → b ≤ g → g < d + b → x ≢ b - 1 → (later_frame b d x == g) ≡ (x == b - 1)
  equal_resting x g some after before other = by_side (nat_lt x b) refl
    where
      by_side : (early : Bool) → nat_lt x b ≡ early → ((if early then x else d + x) == g) ≡ (x == b - 1)
      by_side true is = grind (arith, nat_tests, is, after, some, other)
      by_side false is = grind (arith, nat_tests, is, before, after, some)

  -- Frame `g` of the later script has the environment and the commits of frame `f` of the script.
  pub record Shows (f g : ℕ) : Type 0 where
    pub env : env_at spec (later_from b d script) g ≡ env_at spec script f
    pub committing : (p : ℕ) → commits spec (later_from b d script) p g ≡ commits spec script p f

  pub shows_before : (f : ℕ) → f < b → Shows f f
  shows_before f early = record {
    env = env_where f f (λ x. le_before b d x f early) (λ i halt there. lt_before halt.frame f early);
    committing = commits_where f f (λ x. le_before b d x f early) (λ i halt there. lt_before halt.frame f early) (λ i halt there. equal_before halt.frame f early);
  }

  pub shows_later : (f : ℕ) → b ≤ f → Shows f (d + f)
  shows_later f after = record {
    env = env_where f (d + f) (λ x. le_moved b d x f after) (λ i halt there. lt_moved b d halt.frame f after);
    committing = commits_where f (d + f) (λ x. le_moved b d x f after) (λ i halt there. lt_moved b d halt.frame f after) (λ i halt there. equal_moved b d halt.frame f after);
  }

  pub shows_resting : 1 ≤ b → Each (λ (halt : HaltAt). halt.frame ≢ b - 1) script.halts → (g : ℕ) → b ≤ g → g < d + b → Shows (b - 1) g
  shows_resting some quiet g after before = record {
    env = env_where (b - 1) g (λ x. le_resting b d x g some after before) (λ i halt there. lt_resting halt.frame g some after before (quiet i halt there));
    committing = commits_where (b - 1) g (λ x. le_resting b d x g some after before) (λ i halt there. lt_resting halt.frame g some after before (quiet i halt there))
        (λ i halt there. equal_resting halt.frame g some after before (quiet i halt there));
  }
