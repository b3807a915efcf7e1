-- The completeness of the lists of places.
use Rattle.std.specs.Prelude.{◌≡◌, ℕ, ◌<◌, true, false, List, length, slice_get, Some}
use Rattle.scram_types.specs.declared.rows.Env.{Env}
use Rattle.scram_types.specs.declared.ids.ConfId.{ConfId}
use Rattle.scram_types.specs.declared.demands.Demand.{Demand}
use Rattle.scram_types.specs.declared.specification.Invariant.{Invariant}
use Rattle.scram_types.specs.declared.specification.Precondition.{Precondition}
use Rattle.scram_types.specs.Lookups.{app_id, conf_id, proc_id}
use Rattle.scram_types.specs.Specification.{Parts}
use Rattle.choice_table.specs.Numbering.{environments, is_number_in_scope, numbered}
use Rattle.coverage_check.specs.Choosing.{is_unmet, leaves_start, number_of_requirement}
use Rattle.coverage_check.specs.Form.{has_too_many_states, is_empty, is_overloaded, is_same}
use Rattle.coverage_check.specs.Holding.{breaks_entering, breaks_from}
use Rattle.coverage_check.specs.Timing.{has_short_window, lacks_bound}
use Rattle.coverage_check.specs.declared.choosing.Requirement.{Requirement}
use Rattle.cube_cover.specs.Demands.{misses}
use Rattle.condition_breaks.specs.declared.breaks.Break.{Break}
use Rattle.condition_breaks.specs.declared.breaks.Break.TheVariants as broken
use Rattle.condition_breaks.specs.declared.breaks.Unheld.{Unheld}
use Rattle.condition_breaks.specs.Breaks.{breaks}
use Rattle.condition_breaks.specs.Form.{is_need_off}

-- The list `found` contains `place`.
abbrev pub HasPlace : List Break → Break → Type 0
HasPlace found place = (i : ℕ) × (slice_get found i ≡ Some place)

-- If a condition does not hold somewhere, the condition's list contains a place that represents this failure. One
-- place of A3 represents all earlier configurations that are the same. One place of A5, A6, A7 or A13 represents all
-- environments in which the condition does not hold. One place of A11 represents all configurations from which the
-- invariant may be broken.
pub record HasEach (spec : Parts) : Type 0 where
  pub needs : (c a b : ℕ) → c < length spec.confs → a < length spec.apps → b < length spec.apps → is_need_off spec (conf_id c) a b ≡ true
      → HasPlace (breaks spec 1) (broken.NeedOff (conf_id c) (app_id a) (app_id b))
  pub states : has_too_many_states spec ≡ true → HasPlace (breaks spec 2) broken.ManyStates
  pub empty : (c : ℕ) → c < length spec.confs → is_empty spec (conf_id c) ≡ true → HasPlace (breaks spec 3) (broken.NothingOn (conf_id c))
  pub twins : (c d : ℕ) → c < length spec.confs → d < c → is_empty spec (conf_id c) ≡ false → is_same spec (conf_id c) (conf_id d) ≡ true
      → (twin : ConfId) × HasPlace (breaks spec 3) (broken.SameAgain (conf_id c) twin)
  pub loads : (c p : ℕ) → c < length spec.confs → p < length spec.procs → is_overloaded spec (conf_id c) p ≡ true
      → HasPlace (breaks spec 4) (broken.Overloaded (conf_id c) (proc_id p))
  pub unmet : (asked : Requirement) (c n : ℕ) → c < length spec.confs → n < environments spec → is_number_in_scope spec n ≡ true
      → is_unmet spec asked (conf_id c) (numbered spec n) ≡ true
      → (v : Env) × HasPlace (breaks spec (number_of_requirement asked)) (broken.Unmet asked (conf_id c) v)
  pub start : leaves_start spec ≡ true → HasPlace (breaks spec 8) broken.StartLeft
  pub bounds : (i j : ℕ) → i < length spec.confs → j < length spec.confs → lacks_bound spec (conf_id i) j ≡ true
      → HasPlace (breaks spec 9) (broken.BoundLacking (conf_id i) (conf_id j))
  pub window : has_short_window spec ≡ true → HasPlace (breaks spec 10) broken.WindowShort
  pub invariants : (k i : ℕ) (inv : Invariant) → slice_get spec.invariants k ≡ Some inv → i < length spec.confs → breaks_from spec inv (conf_id i) ≡ true
      → (found : Unheld) × (found.invariant ≡ k) × HasPlace (breaks spec 11) (broken.Unheld found)
  pub preconditions : (k : ℕ) (pre : Precondition) → slice_get spec.preconditions k ≡ Some pre → breaks_entering spec pre ≡ true
      → HasPlace (breaks spec 12) (broken.PreconditionMissed k)
  pub demands : (c k n : ℕ) (demand : Demand) → c < length spec.confs → slice_get spec.demands k ≡ Some demand → n < environments spec
      → is_number_in_scope spec n ≡ true → misses spec demand (conf_id c) (numbered spec n) ≡ true
      → (v : Env) × HasPlace (breaks spec 13) (broken.DemandMissed (conf_id c) k v)

-- The lists of places are complete for every specification.
abbrev pub NoneIsLeftOut : Type 0
NoneIsLeftOut = (spec : Parts) → HasEach spec
