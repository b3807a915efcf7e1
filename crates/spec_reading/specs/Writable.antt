-- The properties that a specification must have, in addition to its invariant, to be written as a document.
use Rattle.std.specs.Prelude.{◌≤ℤ◌, ℕ, ℤ, Bool, List, map, is_some, slice_get}
use Rattle.scram_types.specs.declared.ids.AppId.{AppId}
use Rattle.scram_types.specs.declared.specification.AppSpec.{AppSpec}
use Rattle.scram_types.specs.declared.specification.Want.{Want}
use Rattle.scram_types.specs.declared.specification.Choice.{Choice}
use Rattle.scram_types.specs.declared.specification.Bound.{Bound}
use Rattle.scram_types.specs.declared.demands.Demand.{Demand}
use Rattle.scram_types.specs.declared.specification.Invariant.{Invariant}
use Rattle.scram_types.specs.declared.specification.Precondition.{Precondition}
use Rattle.scram_types.specs.Specification.{Parts, Each, bound_in}
use Rattle.dep_order.specs.Ranks.{IsRanking}
use Rattle.spec_reading.specs.Choices.{wants_factor}
use Rattle.spec_reading.specs.TableFacts.{IsVariable}
use Rattle.spec_reading.specs.Kept.{IsWritableApp, NoDuplicates, rank_of}

-- Whether an entry of `done` requires a value of the same factor as `want`.
abbrev pub lists_want : List Want → Want → Bool
lists_want done want = wants_factor done want.factor.0

-- Whether an entry of `done` is a bound for the same pair of configurations as `bound`.
abbrev pub lists_pair : List Bound → Bound → Bool
lists_pair done bound = is_some (bound_in done bound.from.0 bound.to.0)

-- An interval is not empty, and its variable has a name.
pub record IsWritableInterval (apps : List AppSpec) (app : AppId) (variable : ℕ) (least greatest : ℤ) : Type 0 where
  pub named : IsVariable (slice_get apps app.0) variable
  pub in_order : least ≤ℤ greatest

-- No list names an item twice, each application has the rank that its needs determine, and each interval is not empty
-- and belongs to a variable that has a name.
pub record IsWritable (spec : Parts) : Type 0 where
  pub apps : Each IsWritableApp spec.apps
  pub ranks : IsRanking spec.apps (map rank_of spec.apps)
  pub rules : Each (λ (rule : Choice). NoDuplicates lists_want rule.wants) spec.rules
  pub bounds : NoDuplicates lists_pair spec.bounds
  pub invariants : Each (λ (inv : Invariant). IsWritableInterval spec.apps inv.app inv.variable inv.least inv.greatest) spec.invariants
  pub preconditions : Each (λ (pre : Precondition). IsWritableInterval spec.apps pre.app pre.variable pre.least pre.greatest) spec.preconditions
  pub demands : Each (λ (demand : Demand). NoDuplicates lists_want demand.wants) spec.demands
