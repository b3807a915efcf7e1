-- The family of a specification contains exactly the lists of faults that satisfy `IsMember`.
use Rattle.std.proofs.Common.{◌≡◌, ◌∙◌, ℕ, zero, suc, ◌+◌, ◌-◌, ◌<◌, ◌≤◌, true, List, [], ◌∷◌, ◌++◌, length, map, append_assoc, append-nil, arith, ap, refl, sym, subst}
use mathlib.Core.Logic.{inl, inr}
use Rattle.std.specs.Prelude.{◌⊎◌, Some, None, Option, flat_map, is_none, slice_get, if◌then◌else◌}
use Rattle.std.specs.Option.{option_map_or}
use Rattle.std.proofs.lemmas.Option.{same_Some, slice_get_within}
use Rattle.scram_types.specs.declared.specification.Factor.{Factor}
use Rattle.scram_types.specs.Lookups.{factor_id, proc_id}
use Rattle.scram_types.specs.Specification.{Parts}
use Rattle.coverage_check.specs.Timing.{greatest_bound}
use Rattle.fault_script.proofs.Assuming.{leaves_nowhere}
use Rattle.fault_script.specs.declared.assumption.Outside.{Outside}
use Rattle.fault_script.specs.Assumption.{IsWithin, first_outside}
use Rattle.fault_script.specs.Orders.{last_of}
use Rattle.fault_script.specs.Times.{words}
use Rattle.fault_family.specs.declared.faults.Fault.{Fault}
use Rattle.fault_family.specs.declared.faults.FaultKind.{FaultKind}
use Rattle.fault_family.specs.declared.faults.FaultKind.TheVariants.{Change, Halt, Restart}
use Rattle.fault_family.specs.Families.{extended, may_follow}
use Rattle.fault_family.specs.Laws.{Contains, FamiliesHaveMembers, Follow, IsChangeKind, IsKind, IsNear}
use Rattle.fault_family.specs.NextFaults.{candidates, factor_changes, faults_in, frames_after, frames_allowed_after, gaps, proc_halts, kinds_of, numbers_below, restarts_of, factor_value_count}
use Rattle.fault_family.specs.Scripts.{is_within, script_of_faults}
use Rattle.fault_family.proofs.Joined.{in_part_stands, listed_stands, mapped_stands, stands_in_part, stands_left, stands_listed, stands_mapped, stands_one, stands_part, stands_right, stands_where}

module _ (spec : Parts) where
  -- Lemmas on kinds of fault.

  values_by : (found : Option Factor) (value : ℕ) → value < option_map_or (λ (factor : Factor). length factor.values) found 0 → (factor : Factor) × (found ≡ Some factor) × (value < length factor.values)
  values_by None value below = absurd (omega (arith, below))
  values_by (Some factor) value below = (factor, refl, below)

  some_values : (found : Option Factor) (factor : Factor) (value : ℕ) → found ≡ Some factor → value < length factor.values → value < option_map_or (λ (factor : Factor). length factor.values) found 0
  some_values found factor value is below = rw is below

  change_kind : (x value : ℕ) → value < factor_value_count spec x → IsChangeKind spec x value
  change_kind x value below = let found = values_by (slice_get spec.factors x) value below in record { is = found.0; there = found.1; below = found.2 }

  is_change : (kind : FaultKind) → Contains (flat_map (factor_changes spec) (numbers_below (length spec.factors))) kind → IsKind spec kind
  is_change kind stands =
      let part = stands_in_part (factor_changes spec) (numbers_below (length spec.factors)) kind stands in
      let it = stands_listed (λ value. Change (factor_id part.0) value) (factor_value_count spec part.0) kind part.2 in
      subst (IsKind spec) it.2 (change_kind part.0 it.0 it.1)

  is_halt_of : (p : ℕ) → p < length spec.procs → (kind : FaultKind) (i : ℕ) → slice_get (proc_halts spec p) i ≡ Some kind → IsKind spec kind
  is_halt_of p below kind zero there = subst (IsKind spec) (same_Some (Halt (proc_id p) 0) kind there) (record { there = below; moment = inl refl })
  is_halt_of p below kind (suc zero) there = subst (IsKind spec) (same_Some (Halt (proc_id p) (words spec + 1)) kind there) (record { there = below; moment = inr refl })
  is_halt_of p below kind (suc (suc i)) there = absurd cc

  is_halt : (kind : FaultKind) → Contains (flat_map (proc_halts spec) (numbers_below (length spec.procs))) kind → IsKind spec kind
  is_halt kind stands =
      let part = stands_in_part (proc_halts spec) (numbers_below (length spec.procs)) kind stands in
      let p = stands_listed (λ k. k) (length spec.procs) part.0 part.1 in
      is_halt_of part.0 (subst (λ k. k < length spec.procs) p.2 p.1) kind part.2.0 part.2.1

  is_restart : (kind : FaultKind) → Contains (restarts_of spec) kind → IsKind spec kind
  is_restart kind stands =
      let it = stands_listed (λ p. Restart (proc_id p)) (length spec.procs) kind stands in
      subst (IsKind spec) it.2 it.1

  is_kind : (kind : FaultKind) → Contains (kinds_of spec) kind → IsKind spec kind
  is_kind kind stands = elim (stands_part (flat_map (factor_changes spec) (numbers_below (length spec.factors)) ++ flat_map (proc_halts spec) (numbers_below (length spec.procs))) (restarts_of spec) kind stands) [
    | inl earlier ↦ elim (stands_part (flat_map (factor_changes spec) (numbers_below (length spec.factors))) (flat_map (proc_halts spec) (numbers_below (length spec.procs))) kind earlier) [
      | inl change ↦ is_change kind change
      | inr halt ↦ is_halt kind halt
    ]
    | inr restart ↦ is_restart kind restart
  ]

  kind_is : (kind : FaultKind) → IsKind spec kind → Contains (kinds_of spec) kind
  kind_is (Change factor value) is =
      let changes = flat_map (factor_changes spec) (numbers_below (length spec.factors)) in
      let halts = flat_map (proc_halts spec) (numbers_below (length spec.procs)) in
      stands_left (changes ++ halts) (restarts_of spec) (Change factor value)
      (stands_left changes halts (Change factor value)
      (in_part_stands (factor_changes spec) (numbers_below (length spec.factors)) factor.0 (Change factor value)
      (listed_stands (λ k. k) (length spec.factors) factor.0 (slice_get_within spec.factors factor.0 is.is is.there))
      (listed_stands (λ number. Change (factor_id factor.0) number) (factor_value_count spec factor.0) value (some_values (slice_get spec.factors factor.0) is.is value is.there is.below))))
  kind_is (Halt proc step) is =
      let changes = flat_map (factor_changes spec) (numbers_below (length spec.factors)) in
      let halts = flat_map (proc_halts spec) (numbers_below (length spec.procs)) in
      stands_left (changes ++ halts) (restarts_of spec) (Halt proc step)
      (stands_right changes halts (Halt proc step)
      (in_part_stands (proc_halts spec) (numbers_below (length spec.procs)) proc.0 (Halt proc step)
      (listed_stands (λ k. k) (length spec.procs) proc.0 is.there)
      (elim is.moment [
        | inl first ↦ (0, ap (λ n. Some (Halt proc n)) (sym first))
        | inr after ↦ (1, ap (λ n. Some (Halt proc n)) (sym after))
      ])))
  kind_is (Restart proc) is =
      stands_right (flat_map (factor_changes spec) (numbers_below (length spec.factors)) ++ flat_map (proc_halts spec) (numbers_below (length spec.procs))) (restarts_of spec) (Restart proc)
      (listed_stands (λ p. Restart (proc_id p)) (length spec.procs) proc.0 is)

  -- Lemmas on frames.

  gap_is : (gap : ℕ) → Contains (gaps spec) gap → (gap ≤ greatest_bound spec.bounds + 1) ⊎ (gap ≡ spec.window + 1)
  gap_is gap stands = elim (stands_part (numbers_below (greatest_bound spec.bounds + 2)) ((spec.window + 1) ∷ []) gap stands) [
    | inl near ↦ inl (let it = stands_listed (λ k. k) (greatest_bound spec.bounds + 2) gap near in let below = it.1 in let same = it.2 in omega (arith, below, same))
    | inr far ↦ inr (sym (stands_one (spec.window + 1) gap far))
  ]

  near_gap_stands : (gap : ℕ) → gap ≤ greatest_bound spec.bounds + 1 → Contains (gaps spec) gap
  near_gap_stands gap near = stands_left (numbers_below (greatest_bound spec.bounds + 2)) ((spec.window + 1) ∷ []) gap (listed_stands (λ k. k) (greatest_bound spec.bounds + 2) gap (omega (arith, near)))

  far_gap_stands : Contains (gaps spec) (spec.window + 1)
  far_gap_stands = stands_right (numbers_below (greatest_bound spec.bounds + 2)) ((spec.window + 1) ∷ []) (spec.window + 1) (0, refl)

  is_near : (last : Option Fault) (frame : ℕ) → Contains (frames_allowed_after spec last) frame → IsNear spec last frame
  is_near None frame stands = sym (stands_one 1 frame stands)
  is_near (Some last) frame stands =
      let found = stands_mapped (λ gap. last.frame + gap) (gaps spec) frame stands in
      let at = found.2 in
      elim (gap_is found.0 found.1) [
        | inl near ↦ inl (omega (arith, at, near), omega (arith, at, near))
        | inr far ↦ inr (omega (arith, at, far))
      ]

  near_is : (last : Option Fault) (frame : ℕ) → IsNear spec last frame → Contains (frames_allowed_after spec last) frame
  near_is None frame is = (0, ap Some (sym is))
  near_is (Some last) frame (inl near) =
      let gap = frame - last.frame in
      let low = near.0 in
      let high = near.1 in
      let back : last.frame + (frame - last.frame) ≡ frame = omega (arith, low) in
      subst (Contains (map (λ gap. last.frame + gap) (gaps spec))) back
      (mapped_stands (λ gap. last.frame + gap) (gaps spec) (frame - last.frame) (near_gap_stands (frame - last.frame) (omega (arith, low, high))))
  near_is (Some last) frame (inr far) =
      subst (Contains (map (λ gap. last.frame + gap) (gaps spec))) (sym far) (mapped_stands (λ gap. last.frame + gap) (gaps spec) (spec.window + 1) far_gap_stands)

  -- A fault is a candidate if and only if its kind is one of the specification's and its frame is one of the allowed
  -- frames.

  is_candidate : (before : List Fault) (fault : Fault) → Contains (candidates spec before) fault → IsKind spec fault.kind × IsNear spec (last_of before) fault.frame
  is_candidate before fault stands =
      let part = stands_in_part (faults_in spec) (frames_after spec before) fault stands in
      let it = stands_mapped (λ (kind : FaultKind). record { frame = part.0; kind = kind }) (kinds_of spec) fault part.2 in
      (subst (λ (f : Fault). IsKind spec f.kind) it.2 (is_kind it.0 it.1), subst (λ (f : Fault). IsNear spec (last_of before) f.frame) it.2 (is_near (last_of before) part.0 part.1))

  candidate_stands : (before : List Fault) (fault : Fault) → IsKind spec fault.kind → IsNear spec (last_of before) fault.frame → Contains (candidates spec before) fault
  candidate_stands before fault kind near =
      in_part_stands (faults_in spec) (frames_after spec before) fault.frame fault (near_is (last_of before) fault.frame near)
      (mapped_stands (λ (kind : FaultKind). record { frame = fault.frame; kind = kind }) (kinds_of spec) fault.kind (kind_is fault.kind kind))

  -- Lemmas on the scripts that begin with given faults.

  none_is : (o : Option Outside) → is_none o ≡ true → o ≡ None
  none_is None e = refl
  none_is (Some x) e = absurd cc

  within_is : (faults : List Fault) → is_within spec (script_of_faults spec faults) ≡ true → IsWithin spec (script_of_faults spec faults)
  within_is faults is = (leaves_nowhere spec (script_of_faults spec faults)).within (none_is (first_outside spec (script_of_faults spec faults)) is)

  is_within_is : (faults : List Fault) → IsWithin spec (script_of_faults spec faults) → is_within spec (script_of_faults spec faults) ≡ true
  is_within_is faults within = rw ((leaves_nowhere spec (script_of_faults spec faults)).nowhere within) refl

  -- `faults` continues `before` with `more` further faults, each of which may follow the preceding faults. The script
  -- of `faults` keeps the failure assumption.
  pub record GoesOn (more : ℕ) (before faults : List Fault) : Type 0 where
    pub rest : List Fault
    pub parts : before ++ rest ≡ faults
    pub count : length rest ≡ more
    pub follow : Follow spec before rest
    pub within : IsWithin spec (script_of_faults spec faults)

  pub goes_on : (more : ℕ) (before faults : List Fault) → Contains (extended spec more before) faults → GoesOn more before faults
  goes_on zero before faults stands =
      let it = stands_where (is_within spec (script_of_faults spec before)) (before ∷ []) faults stands in
      let same : before ≡ faults = stands_one before faults it.1 in
      record { rest = []; parts = append-nil before ∙ same; count = refl; follow = tt; within = subst (λ (all : List Fault). IsWithin spec (script_of_faults spec all)) same (within_is before it.0) }
  goes_on (suc more) before faults stands =
      let part = stands_in_part (λ (fault : Fault). if may_follow spec before fault then extended spec more (before ++ fault ∷ []) else []) (candidates spec before) faults stands in
      let it = stands_where (may_follow spec before part.0) (extended spec more (before ++ part.0 ∷ [])) faults part.2 in
      let is = is_candidate before part.0 part.1 in
      let on = goes_on more (before ++ part.0 ∷ []) faults it.1 in
      record {
        rest = part.0 ∷ on.rest;
        parts = sym (append_assoc before (part.0 ∷ []) on.rest) ∙ on.parts;
        count = ap suc on.count;
        follow = (record { kind = is.0; near = is.1; follows = it.0 }, on.follow);
        within = on.within;
      }

  stands_on : (more : ℕ) (before rest : List Fault) → length rest ≡ more → Follow spec before rest → IsWithin spec (script_of_faults spec (before ++ rest)) → Contains (extended spec more before) (before ++ rest)
  stands_on zero before [] count follow within =
      let whole : IsWithin spec (script_of_faults spec before) = subst (λ (all : List Fault). IsWithin spec (script_of_faults spec all)) (append-nil before) within in
      rw (append-nil before, is_within_is before whole) (0, refl)
  stands_on zero before (fault ∷ rest) count follow within = absurd cc
  stands_on (suc more) before [] count follow within = absurd cc
  stands_on (suc more) before (fault ∷ rest) count follow within =
      let next = follow.0 in
      let parts : (before ++ fault ∷ []) ++ rest ≡ before ++ fault ∷ rest = append_assoc before (fault ∷ []) rest in
      let behind : Contains (extended spec more (before ++ fault ∷ [])) (before ++ fault ∷ rest) =
      subst (Contains (extended spec more (before ++ fault ∷ []))) parts
      (stands_on more (before ++ fault ∷ []) rest (let n = count in omega (arith, n)) follow.1 (subst (λ (all : List Fault). IsWithin spec (script_of_faults spec all)) (sym parts) within)) in
      in_part_stands (λ (fault : Fault). if may_follow spec before fault then extended spec more (before ++ fault ∷ []) else []) (candidates spec before) fault (before ++ fault ∷ rest)
      (candidate_stands before fault next.kind next.near)
      (rw (next.follows) behind)

pub families_have_members : FamiliesHaveMembers
families_have_members spec count faults = record {
  sound = λ stands.
      let on = goes_on spec count [] faults stands in
      record {
        many = ap length (sym on.parts) ∙ on.count;
        follow = subst (Follow spec []) on.parts on.follow;
        within = on.within;
      };
  complete = λ member. stands_on spec count [] faults member.many member.follow member.within;
}
