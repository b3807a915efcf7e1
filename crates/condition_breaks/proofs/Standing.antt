-- If a condition does not hold somewhere, the condition's list contains a place that represents this failure.
use Rattle.std.proofs.Common.{ℕ, zero, suc, ◌<◌, ◌≡◌, ◌∙◌, Bool, true, false, List, [], ◌∷◌, ◌++◌, arith, length, refl, subst, sym}
use mathlib.Core.Logic.{inl, inr}
use Rattle.std.specs.Prelude.{◌&&◌, Option, Some, None, option_map, slice_get, if◌then◌else◌}
use Rattle.std.specs.Option.{option_map_or, option_to_list}
use Rattle.std.proofs.lemmas.Option.{slice_get_within}
use Rattle.scram_types.specs.declared.rows.Env.{Env}
use Rattle.scram_types.specs.declared.ids.ConfId.{ConfId}
use Rattle.scram_types.specs.declared.demands.Demand.{Demand}
use Rattle.scram_types.specs.declared.specification.Invariant.{Invariant}
use Rattle.scram_types.specs.declared.specification.Precondition.{Precondition}
use Rattle.scram_types.specs.Lookups.{app_id, conf_id, proc_id}
use Rattle.scram_types.specs.Searches.{first_below}
use Rattle.scram_types.specs.Specification.{Parts}
use Rattle.scram_types.proofs.Booleans.{and_true}
use Rattle.scram_types.proofs.Items.{first_part}
use Rattle.scram_types.proofs.Naturals.{below_or_at}
use Rattle.scram_types.proofs.Options.{none_or_some, some_none}
use Rattle.scram_types.proofs.Searches.{below_none}
use Rattle.choice_table.specs.Numbering.{environments, is_number_in_scope, numbered}
use Rattle.coverage_check.specs.Choosing.{first_unmet_env, is_unmet, leaves_start, number_of_requirement}
use Rattle.coverage_check.specs.Demands.{first_missed_env}
use Rattle.coverage_check.specs.Form.{has_too_many_states, is_empty, is_overloaded, is_same}
use Rattle.coverage_check.specs.Holding.{breaks_entering, breaks_from}
use Rattle.coverage_check.specs.Search.{first_passing_env, passing_env_at, shown_if}
use Rattle.coverage_check.specs.Showing.{shown_at}
use Rattle.coverage_check.specs.Timing.{has_short_window, lacks_bound}
use Rattle.coverage_check.specs.declared.choosing.Requirement.{Requirement}
use Rattle.coverage_check.specs.declared.choosing.Requirement.TheVariants as requirement
use Rattle.coverage_check.specs.declared.shown.Other.TheVariants as other
use Rattle.coverage_check.proofs.Showing.{is_shown}
use Rattle.cube_cover.specs.Demands.{misses}
use Rattle.condition_breaks.specs.declared.breaks.Break.{Break}
use Rattle.condition_breaks.specs.declared.breaks.Break.TheVariants as broken
use Rattle.condition_breaks.specs.declared.breaks.Unheld.{Unheld}
use Rattle.condition_breaks.specs.declared.breaks.Way.{Way}
use Rattle.condition_breaks.specs.Breaks.{bound_break, bound_breaks_from, breaks, demand_break, demand_break_of, demand_breaks_in, invariant_break, load_break, load_breaks_in, need_break, need_breaks_in, need_breaks_of, precondition_break, shape_break, unentered_of, unheld, unheld_of, unmet_break, unmet_breaks}
use Rattle.condition_breaks.specs.Complete.{HasPlace, HasEach, NoneIsLeftOut}
use Rattle.condition_breaks.specs.Form.{first_twin, is_need_off}
use Rattle.condition_breaks.specs.Lists.{gathered_below, one_if}
use Rattle.condition_breaks.specs.Ranges.{all_ways, first_unheld, hull_of, interval, range_on}
use Rattle.condition_breaks.proofs.WayRanges.{unheld_shown}

last_part : (xs ys : List Break) (i : ℕ) (place : Break) → slice_get ys i ≡ Some place → HasPlace (xs ++ ys) place
last_part [] ys i place there = (i, there)
last_part (x ∷ xs) ys i place there = let more = last_part xs ys i place there in (suc more.0, more.1)

in_first : (xs ys : List Break) (place : Break) → HasPlace xs place → HasPlace (xs ++ ys) place
in_first xs ys place stands = (stands.0, first_part xs ys stands.0 place stands.1)

in_gathered : (items : ℕ → List Break) (n k : ℕ) (place : Break) → k < n → HasPlace (items k) place → HasPlace (gathered_below items n) place
in_gathered items zero k place less stands = absurd (omega (arith, less))
in_gathered items (suc n) k place less stands = elim (below_or_at k n less) [
  | inl lower ↦ in_first (gathered_below items n) (items n) place (in_gathered items n k place lower stands)
  | inr same ↦ (let here = subst (λ (m : ℕ). HasPlace (items m) place) same stands in last_part (gathered_below items n) (items n) here.0 place here.1)
]

in_one : (b : Bool) (place : Break) → b ≡ true → HasPlace (one_if b place) place
in_one true place e = (0, refl)
in_one false place e = absurd (cc)

in_mapped : {A : Type 0} (f : A → Break) (o : Option A) (x : A) → o ≡ Some x → HasPlace (option_to_list (option_map f o)) (f x)
in_mapped f o x e = rw e (0, refl)

-- If `answer` is not `None` for some number below `n`, the search `first_below answer n` finds a value.
some_below : {A : Type 0} (answer : ℕ → Option A) (n k : ℕ) (x : A) → k < n → answer k ≡ Some x → (y : A) × (first_below answer n ≡ Some y)
some_below answer n k x less here = elim (none_or_some (first_below answer n)) [
  | inl none ↦ some_none x (sym here ∙ below_none answer n k none less)
  | inr found ↦ found
]

module _ (spec : Parts) where
  passes_somewhere : (test : Env → Bool) (n : ℕ) → n < environments spec → is_number_in_scope spec n ≡ true → test (numbered spec n) ≡ true → (v : Env) × (first_passing_env spec test ≡ Some v)
  passes_somewhere test n less scope passes =
      some_below (passing_env_at spec test) (environments spec) n (numbered spec n) less
      (is_shown (is_number_in_scope spec n && test (numbered spec n)) (numbered spec n) (and_true (is_number_in_scope spec n) (test (numbered spec n)) scope passes))

  shape_break_of : (c : ℕ) → Bool → List Break
  shape_break_of c empty =
      if empty then broken.NothingOn (conf_id c) ∷ [] else option_to_list (option_map (λ (d : ConfId). broken.SameAgain (conf_id c) d) (first_twin spec c))

  empty_stands : (c : ℕ) → is_empty spec (conf_id c) ≡ true → HasPlace (shape_break spec c) (broken.NothingOn (conf_id c))
  unfolding shape_break_of
  empty_stands c e = subst (λ (empty : Bool). HasPlace (shape_break_of c empty) (broken.NothingOn (conf_id c))) (sym e) (0, refl)

  twin_stands : (c d : ℕ) → d < c → is_empty spec (conf_id c) ≡ false → is_same spec (conf_id c) (conf_id d) ≡ true
      → (twin : ConfId) × HasPlace (shape_break spec c) (broken.SameAgain (conf_id c) twin)
  unfolding shape_break_of
  twin_stands c d less full same =
      let twin = some_below (λ n. shown_if (is_same spec (conf_id c) (conf_id n)) (conf_id n)) c d (conf_id d) less (is_shown (is_same spec (conf_id c) (conf_id d)) (conf_id d) same) in (
        twin.0,
        subst (λ (empty : Bool). HasPlace (shape_break_of c empty) (broken.SameAgain (conf_id c) twin.0)) (sym full)
            (in_mapped (λ (one : ConfId). broken.SameAgain (conf_id c) one) (first_twin spec c) twin.0 twin.1),
      )

  unmet_stands : (asked : Requirement) (c n : ℕ) → c < length spec.confs → n < environments spec → is_number_in_scope spec n ≡ true
      → is_unmet spec asked (conf_id c) (numbered spec n) ≡ true → (v : Env) × HasPlace (unmet_breaks spec asked) (broken.Unmet asked (conf_id c) v)
  unmet_stands asked c n inside less scope unmet =
      let first = passes_somewhere (is_unmet spec asked (conf_id c)) n less scope unmet in (
        first.0,
        in_gathered (unmet_break spec asked) (length spec.confs) c (broken.Unmet asked (conf_id c) first.0) inside
            (in_mapped (λ (v : Env). broken.Unmet asked (conf_id c) v) (first_unmet_env spec asked (conf_id c)) first.0 first.1),
      )

  by_number : (asked : Requirement) (place : Break) → HasPlace (unmet_breaks spec asked) place → HasPlace (breaks spec (number_of_requirement asked)) place
  by_number requirement.HasRule place stands = stands
  by_number requirement.CanRun place stands = stands
  by_number requirement.Stays place stands = stands

  mapped_some : {A B : Type 0} (f : A → B) (o : Option A) (y : B) → option_map f o ≡ Some y → (x : A) × (o ≡ Some x)
  mapped_some f None y e = some_none y (sym e)
  mapped_some f (Some x) y e = (x, refl)

  unheld_stands : (k i : ℕ) (inv : Invariant) → slice_get spec.invariants k ≡ Some inv → i < length spec.confs → breaks_from spec inv (conf_id i) ≡ true
      → (found : Unheld) × (found.invariant ≡ k) × HasPlace (breaks spec 11) (broken.Unheld found)
  unheld_stands k i inv there inside breaks =
      let shown = some_below (λ n. shown_if (breaks_from spec inv (conf_id n)) (shown_at 11 n (other.Item k))) (length spec.confs) i (shown_at 11 i (other.Item k)) inside
      (is_shown (breaks_from spec inv (conf_id i)) (shown_at 11 i (other.Item k)) breaks) in
      let way = mapped_some (λ (taken : Way). shown_at 11 (taken.from).0 (other.Item k)) (first_unheld spec inv (all_ways spec)) shown.0
      (unheld_shown spec inv (λ (c : ConfId). shown_at 11 c.0 (other.Item k)) ∙ shown.1) in
      let found : Unheld = record { invariant = k; way = way.0; needed = hull_of spec inv (interval (range_on spec inv way.0)) (all_ways spec) } in (
        found,
        refl,
        in_gathered (invariant_break spec) (length spec.invariants) k (broken.Unheld found) (slice_get_within spec.invariants k inv there)
            (subst (λ (o : Option Invariant). HasPlace (option_to_list (option_map_or (unheld_of spec k) o None)) (broken.Unheld found)) (sym there)
            (in_mapped (unheld spec k inv) (first_unheld spec inv (all_ways spec)) way.0 way.1)),
      )

  in_shown : (b : Bool) (place : Break) → b ≡ true → HasPlace (option_to_list (shown_if b place)) place
  in_shown true place e = (0, refl)
  in_shown false place e = absurd (cc)

  precondition_stands : (k : ℕ) (pre : Precondition) → slice_get spec.preconditions k ≡ Some pre → breaks_entering spec pre ≡ true
      → HasPlace (breaks spec 12) (broken.PreconditionMissed k)
  precondition_stands k pre there breaks =
      in_gathered (precondition_break spec) (length spec.preconditions) k (broken.PreconditionMissed k) (slice_get_within spec.preconditions k pre there)
      (subst (λ (o : Option Precondition). HasPlace (option_to_list (option_map_or (unentered_of spec k) o None)) (broken.PreconditionMissed k)) (sym there)
      (in_shown (breaks_entering spec pre) (broken.PreconditionMissed k) breaks))

  demand_stands : (c k n : ℕ) (demand : Demand) → c < length spec.confs → slice_get spec.demands k ≡ Some demand → n < environments spec
      → is_number_in_scope spec n ≡ true → misses spec demand (conf_id c) (numbered spec n) ≡ true → (v : Env) × HasPlace (breaks spec 13) (broken.DemandMissed (conf_id c) k v)
  demand_stands c k n demand inside there less scope missed =
      let first = passes_somewhere (misses spec demand (conf_id c)) n less scope missed in (
        first.0,
        in_gathered (demand_breaks_in spec) (length spec.confs) c (broken.DemandMissed (conf_id c) k first.0) inside
            (in_gathered (demand_break spec c) (length spec.demands) k (broken.DemandMissed (conf_id c) k first.0) (slice_get_within spec.demands k demand there)
            (subst (λ (o : Option Demand). HasPlace (option_map_or (demand_break_of spec c k) o []) (broken.DemandMissed (conf_id c) k first.0)) (sym there)
            (in_mapped (λ (v : Env). broken.DemandMissed (conf_id c) k v) (first_missed_env spec demand (conf_id c)) first.0 first.1))),
      )

  pub has_each : HasEach spec
  has_each = record {
    needs = λ c a b inside there known off.
        in_gathered (need_breaks_in spec) (length spec.confs) c (broken.NeedOff (conf_id c) (app_id a) (app_id b)) inside
        (in_gathered (need_breaks_of spec c) (length spec.apps) a (broken.NeedOff (conf_id c) (app_id a) (app_id b)) there
        (in_gathered (need_break spec c a) (length spec.apps) b (broken.NeedOff (conf_id c) (app_id a) (app_id b)) known
        (in_one (is_need_off spec (conf_id c) a b) (broken.NeedOff (conf_id c) (app_id a) (app_id b)) off)));
    states = in_one (has_too_many_states spec) broken.ManyStates;
    empty = λ c inside e. in_gathered (shape_break spec) (length spec.confs) c (broken.NothingOn (conf_id c)) inside (empty_stands c e);
    twins = λ c d inside less full same.
        (let twin = twin_stands c d less full same in
        (twin.0, in_gathered (shape_break spec) (length spec.confs) c (broken.SameAgain (conf_id c) twin.0) inside twin.1));
    loads = λ c p inside there over.
        in_gathered (load_breaks_in spec) (length spec.confs) c (broken.Overloaded (conf_id c) (proc_id p)) inside
        (in_gathered (load_break spec c) (length spec.procs) p (broken.Overloaded (conf_id c) (proc_id p)) there
        (in_one (is_overloaded spec (conf_id c) p) (broken.Overloaded (conf_id c) (proc_id p)) over));
    unmet = λ asked c n inside less scope missed.
        (let place = unmet_stands asked c n inside less scope missed in (place.0, by_number asked (broken.Unmet asked (conf_id c) place.0) place.1));
    start = in_one (leaves_start spec) broken.StartLeft;
    bounds = λ i j inside there lacks.
        in_gathered (bound_breaks_from spec) (length spec.confs) i (broken.BoundLacking (conf_id i) (conf_id j)) inside
        (in_gathered (bound_break spec i) (length spec.confs) j (broken.BoundLacking (conf_id i) (conf_id j)) there
        (in_one (lacks_bound spec (conf_id i) j) (broken.BoundLacking (conf_id i) (conf_id j)) lacks));
    window = in_one (has_short_window spec) broken.WindowShort;
    invariants = unheld_stands;
    preconditions = precondition_stands;
    demands = demand_stands;
  }

pub none_is_left_out : NoneIsLeftOut
none_is_left_out = has_each
