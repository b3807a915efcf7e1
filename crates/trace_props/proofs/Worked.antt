-- A worked mission that meets the premises of `ReconfigurationsAreAssured` and `CalmSettles`. The environment changes
-- in frame 3, and the second configuration runs from frame 6 on.
use Rattle.std.proofs.Common.{rules, ◌≡◌, ℕ, true, zero, suc, ◌+◌, ◌<◌, ◌≤◌, List, [], ◌∷◌, refl, ap, arith, subst}
use Rattle.std.specs.Prelude.{IsSome, Option, Some, None, option_and_then, replicate, slice_get, slice_index_or}
use Rattle.std.proofs.lemmas.Option.{same_Some, slice_get_within}
use Rattle.scram_types.specs.declared.orders.Act.{Act}
use Rattle.scram_types.specs.declared.orders.Act.TheVariants as act
use Rattle.scram_types.specs.declared.scripts.Change.{Change}
use Rattle.scram_types.specs.declared.specification.AppSpec.{AppSpec}
use Rattle.scram_types.specs.declared.specification.Conf.{Conf}
use Rattle.scram_types.specs.declared.specification.Factor.{Factor}
use Rattle.scram_types.specs.declared.specification.Place.{Place}
use Rattle.scram_types.specs.declared.specification.Proc.{Proc}
use Rattle.scram_types.specs.Names.{is_name}
use Rattle.scram_types.specs.Scripts.{ScriptParts}
use Rattle.scram_types.specs.Specification.{Each, HasValueNames, IsAppSpec, IsBound, IsChoice, IsConf, IsFactor, IsModeSpec, IsPlace, IsProc, IsSpec, IsWant, mode_in, modes_of_kind, place_in}
use Rattle.fault_script.specs.Fits.{Fits, IsChange}
use Rattle.fault_script.proofs.Assuming.{leaves_nowhere}
use Rattle.fault_script.proofs.SmallSpec.{differ_none, differ_one, differ_two, each_none, each_one, each_two}
use Rattle.coverage_check.specs.Missions.{IsMission, mission_of}
use Rattle.coverage_check.proofs.Accepting.{accepts_iff_unrefused}
use Rattle.coverage_check.proofs.Examples.{bound, first_rule, other_rule}
use Rattle.frame_model.specs.Flights.{reports_of, row_at, rows_of}
use Rattle.frame_model.specs.Runs.{act_at, running}
use Rattle.trace_props.specs.Properties.{IsCalm}
use Rattle.trace_props.proofs.Examples.{mode, monitor, moved, placed, spec}
use Rattle.scram_types.specs.Lookups.{env_in}

each_more : {A : Type 0} (P : A → Type 0) (x : A) (xs : List A) → P x → Each P xs → Each P (x ∷ xs)
each_more P x xs here rest zero y e = subst P (same_Some x y e) here
each_more P x xs here rest (suc i) y e = rest i y e

none_placed : (n a : ℕ) (place : Place) → option_and_then (λ (p : Option Place). p) (slice_get (replicate n None) a) ≡ Some place → ⊥
none_placed zero a place e = cc
none_placed (suc n) zero place e = cc
none_placed (suc n) (suc a) place e = none_placed n a place e

names_apart : (m n : ℕ) → (m ≡ n → ⊥) → ◌≡◌ {A = List ℕ} (m ∷ []) (n ∷ []) → ⊥
names_apart m n apart same = apart (ap (λ (t : List ℕ). slice_index_or t 0 0) same)

is_mode : (m : ℕ) → 1 ≤ m → m ≤ 3 → IsModeSpec 2 (mode m)
unfolding modes_of_kind
is_mode m low high = record {
  on = low;
  of_kind = high;
  load = omega arith;
  halt = record { least = omega arith; most = omega arith };
  prepare = record { least = omega arith; most = omega arith };
  init = record { least = omega arith; most = omega arith };
}

is_bound : (i j : ℕ) → i < 2 → j < 2 → IsBound spec.confs (bound i j 8)
is_bound i j low high = record { from = low; to = high; least = omega arith; most = omega arith }

is_placed : (m : ℕ) → (listed : IsSome (mode_in monitor.modes m)) → IsConf spec.procs spec.apps (placed m)
is_placed m listed = record { width = refl; places = places }
  where
    places : (a : ℕ) (place : Place) → place_in (placed m) a ≡ Some place → IsPlace spec.procs spec.apps a place
    places zero place e =
        subst (IsPlace spec.procs spec.apps 0) (same_Some (record { mode = record { 0 = m }; proc = record { 0 = 0 } }) place e)
        (record { on = omega arith; app = monitor; there = refl; listed = listed })
    places (suc a) place e = absurd (none_placed 7 a place e)

sound : IsSpec spec
sound = record {
  names = record {
    procs = each_one (λ (p : Proc). is_name p.name ≡ true) _ refl;
    apps = each_one (λ (a : AppSpec). is_name a.name ≡ true) monitor refl;
    confs = each_two (λ (c : Conf). is_name c.name ≡ true) (placed 1) (placed 2) refl refl;
    factors = each_one (λ (x : Factor). is_name x.name ≡ true) _ refl;
    values = each_one HasValueNames _ (each_two (λ (name : List ℕ). is_name name ≡ true) (97 ∷ []) (98 ∷ []) refl refl);
    demands = each_none _;
  };
  procs_count = record { enough = omega arith; few = omega arith };
  procs_differ = differ_one (λ (p : Proc). p.name) _;
  procs = each_one IsProc _ (record { capacity = omega arith });
  apps_count = record { enough = omega arith; few = omega arith };
  apps_differ = differ_one (λ (a : AppSpec). a.name) monitor;
  apps = each_one (IsAppSpec (monitor ∷ [])) monitor (record {
    kind = omega arith;
    rank = omega arith;
    few_needs = omega arith;
    needs = each_none _;
    count = record { enough = omega arith; few = omega arith };
    modes = each_two (IsModeSpec 2) (mode 1) (mode 2) (is_mode 1 (omega arith) (omega arith)) (is_mode 2 (omega arith) (omega arith));
  });
  confs_count = record { enough = omega arith; few = omega arith };
  confs_differ = differ_two (λ (c : Conf). c.name) (placed 1) (placed 2) (names_apart 97 98 (λ e. omega (arith, e)));
  confs = each_two (IsConf spec.procs spec.apps) (placed 1) (placed 2) (is_placed 1 (search rules)) (is_placed 2 (search rules));
  factors_count = omega arith;
  factors_differ = differ_one (λ (x : Factor). x.name) _;
  factors = each_one IsFactor _ (record { count = record { enough = omega arith; few = omega arith }; differ = differ_two (λ (name : List ℕ). name) (97 ∷ []) (98 ∷ []) (names_apart 97 98 (λ e. omega (arith, e))) });
  rules_count = omega arith;
  rules = each_two (IsChoice spec.procs spec.confs spec.factors) first_rule other_rule
      (record { from = search rules; few = omega arith; wants = each_one (IsWant spec.factors) _ (record { factor = _; there = refl; value = omega arith }); up = omega arith; to = omega arith })
      (record { from = search rules; few = omega arith; wants = each_none _; up = omega arith; to = omega arith });
  bounds_count = omega arith;
  bounds = each_more (IsBound spec.confs) (bound 0 0 8) (bound 0 1 8 ∷ bound 1 0 8 ∷ bound 1 1 8 ∷ []) (is_bound 0 0 (omega arith) (omega arith)) (each_more (IsBound spec.confs) (bound 0 1 8) (bound 1 0 8 ∷ bound 1 1 8 ∷ []) (is_bound 0 1 (omega arith) (omega arith))
      (each_two (IsBound spec.confs) (bound 1 0 8) (bound 1 1 8) (is_bound 1 0 (omega arith) (omega arith)) (is_bound 1 1 (omega arith) (omega arith))));
  start = omega arith;
  goal = record { lowest = search rules; highest = search rules; first = search rules; last = search rules };
  invariants_count = omega arith;
  invariants = each_none _;
  preconditions_count = omega arith;
  preconditions = each_none _;
  demands_count = omega arith;
  demands_differ = differ_none _;
  demands = each_none _;
  halts = omega arith;
  changes = omega arith;
  window_least = omega arith;
  window_most = omega arith;
}

abbrev change : Change
change = record { frame = 3; factor = record { 0 = 0 }; value = 1 }

abbrev script : ScriptParts
script = record { frames = 12; changes = change ∷ []; halts = []; restarts = [] }

no_next : (i : ℕ) (x : Change) → slice_get (change ∷ []) (i + 1) ≡ Some x → ⊥
no_next i x e = let inside = slice_get_within (change ∷ []) (i + 1) x e in omega arith

no_item : {A : Type 0} (i : ℕ) (x : A) → slice_get [] i ≡ Some x → ⊥
no_item {A} i x e = let inside = slice_get_within {A = A} [] i x e in omega arith

fits : Fits spec script
fits = record {
  frames = omega arith;
  changes_count = omega arith;
  changes = each_one (IsChange spec 12) change (record { least = omega arith; most = omega arith; factor = _; there = refl; value = omega arith });
  changes_ordered = λ i x y e k. absurd (no_next i y k);
  halts_count = omega arith;
  halts = each_none _;
  halts_ordered = λ i x y e k. absurd (no_item i x e);
  restarts_count = omega arith;
  restarts = each_none _;
  restarts_ordered = λ i x y e k. absurd (no_item i x e);
  restarts_once = λ i j x y less e k. absurd (no_item i x e);
  restarts_late = each_none _;
  halts_twice = λ i j k x y z less more e f g. absurd (no_item i x e);
  halts_again = λ i j x y less e k. absurd (no_item i x e);
}

is_mission : IsMission (mission_of spec script)
is_mission = record {
  accepts = (accepts_iff_unrefused spec sound).accepted refl;
  fits = fits;
  within = (leaves_nowhere spec script).within refl;
}

-- The mission has one reconfiguration, which begins in frame 3 and ends in frame 6.
moves_once : reports_of spec script ≡ moved 1 3 6 ∷ []
moves_once = refl

-- The mission's last row is calm and runs the chosen configuration. The greatest bound is 8, and the environment is
-- the same from frame 3 on.
settled_last : running spec (row_at spec script 11).acts ≡ Some (record { 0 = 1 })
settled_last = refl

same_from : (f : ℕ) → 11 ≤ f + 8 → f ≤ 11 → env_in (rows_of spec script) f ≡ Some (row_at spec script 11).env
same_from zero late early = absurd (omega arith)
same_from (suc zero) late early = absurd (omega arith)
same_from (suc (suc zero)) late early = absurd (omega arith)
same_from (suc (suc (suc zero))) late early = refl
same_from (suc (suc (suc (suc zero)))) late early = refl
same_from (suc (suc (suc (suc (suc zero))))) late early = refl
same_from (suc (suc (suc (suc (suc (suc zero)))))) late early = refl
same_from (suc (suc (suc (suc (suc (suc (suc zero))))))) late early = refl
same_from (suc (suc (suc (suc (suc (suc (suc (suc zero)))))))) late early = refl
same_from (suc (suc (suc (suc (suc (suc (suc (suc (suc zero))))))))) late early = refl
same_from (suc (suc (suc (suc (suc (suc (suc (suc (suc (suc zero)))))))))) late early = refl
same_from (suc (suc (suc (suc (suc (suc (suc (suc (suc (suc (suc zero))))))))))) late early = refl
same_from (suc (suc (suc (suc (suc (suc (suc (suc (suc (suc (suc (suc f)))))))))))) late early = absurd (omega arith)

abbrev last_acts : List Act
last_acts = act.Ran (record { 0 = 2 }) (record { 0 = 0 }) ∷ replicate 7 act.Off

ran_last : (row_at spec script 11).acts ≡ last_acts
ran_last = refl

none_lost_in : (a : ℕ) → act_at last_acts a ≡ act.Lost → ⊥
none_lost_in zero e = cc
none_lost_in (suc zero) e = cc
none_lost_in (suc (suc zero)) e = cc
none_lost_in (suc (suc (suc zero))) e = cc
none_lost_in (suc (suc (suc (suc zero)))) e = cc
none_lost_in (suc (suc (suc (suc (suc zero))))) e = cc
none_lost_in (suc (suc (suc (suc (suc (suc zero)))))) e = cc
none_lost_in (suc (suc (suc (suc (suc (suc (suc zero))))))) e = cc
none_lost_in (suc (suc (suc (suc (suc (suc (suc (suc a)))))))) e = cc

none_lost : (a : ℕ) → act_at (row_at spec script 11).acts a ≡ act.Lost → ⊥
none_lost a e = none_lost_in a (subst (λ (acts : List Act). act_at acts a ≡ act.Lost) ran_last e)

last_is_calm : IsCalm spec (rows_of spec script) 11 (row_at spec script 11)
last_is_calm = record { there = refl; late = omega arith; still = same_from; whole = none_lost }
