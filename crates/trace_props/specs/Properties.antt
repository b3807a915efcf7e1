-- The six properties of rows and reports. SP1 to SP5 are properties of the reconfigurations that are read off the rows.
-- SP6 is a property of calm rows.
use Rattle.std.specs.Prelude.{◌≡◌, ◌≢◌, ◌⊎◌, ℕ, suc, ◌<◌, ◌≤◌, ◌+◌, Bool, true, not, List, length, slice_get, Option, Some, None}
use Rattle.scram_types.specs.declared.ids.ConfId.{ConfId}
use Rattle.scram_types.specs.declared.rows.Env.{Env}
use Rattle.scram_types.specs.declared.rows.Report.{Report}
use Rattle.scram_types.specs.declared.rows.Row.{Row}
use Rattle.scram_types.specs.declared.orders.Act.TheVariants as act
use Rattle.scram_types.specs.declared.specification.Invariant.{Invariant}
use Rattle.scram_types.specs.declared.specification.Policy.TheVariants.{Settle}
use Rattle.scram_types.specs.declared.specification.Precondition.{Precondition}
use Rattle.scram_types.specs.Numbers.{word}
use Rattle.scram_types.specs.Specification.{Each, Parts, bound_in, greatest_bound_in}
use Rattle.scram_types.specs.Lookups.{env_before, env_in}
use Rattle.choice_table.specs.Choices.{choose, has_source}
use Rattle.choice_table.specs.Demands.{has_demand_in, meets_all}
use Rattle.app_model.specs.Areas.{Between}
use Rattle.coverage_check.specs.Timing.{greatest_bound}
use Rattle.frame_model.specs.Readings.{reports}
use Rattle.frame_model.specs.Runs.{act_at, running}
use Rattle.frame_model.specs.States.{area_at}

-- Row `f` exists, and its environment differs from the environment of the preceding row.
pub record ChangesIn (spec : Parts) (rows : List Row) (f : ℕ) : Type 0 where
  pub inside : f < length rows
  pub differ : env_in rows f ≢ env_before spec rows f

-- SP1: the reports are exactly the reconfigurations that are read off the rows.
abbrev pub HoldsSp1 : Parts → List Row → List Report → Type 0
HoldsSp1 spec rows told = told ≡ reports spec rows

-- Configuration `j` was chosen from the source in the environment of some row from the begin to the end.
pub record IsChosen (spec : Parts) (rows : List Row) (r : Report) (j : ConfId) : Type 0 where
  pub frame : ℕ
  pub from : r.begin ≤ frame
  pub up_to : frame ≤ r.end
  pub seen : Env
  pub stands : env_in rows frame ≡ Some seen
  pub chosen : choose spec r.from seen ≡ j

-- SP2 of a reconfiguration: its target was chosen during the reconfiguration. An unfinished reconfiguration has no
-- target.
abbrev pub KeepsSp2 : Parts → List Row → Report → Type 0
KeepsSp2 spec rows r = (j : ConfId) → r.to ≡ Some j → IsChosen spec rows r j

-- The bound on a reconfiguration, or `None` if no bound is given. An unfinished reconfiguration has the greatest
-- bound that is given from its source.
abbrev pub bound_on : Parts → ConfId → Option ConfId → Option ℕ
bound_on spec from None = greatest_bound_in spec.bounds from.0
bound_on spec from (Some j) = bound_in spec.bounds from.0 j.0

-- SP3 of a reconfiguration: a bound is given, and the reconfiguration takes no longer than the bound. An unfinished
-- reconfiguration counts up to the last row.
pub record KeepsSp3 (spec : Parts) (r : Report) : Type 0 where
  pub bound : ℕ
  pub given : bound_on spec r.from r.to ≡ Some bound
  pub in_time : r.end ≤ r.begin + bound

-- A row keeps an invariant: the variable of the invariant is within the interval of the invariant.
abbrev pub InvariantHolds : Invariant → Row → Type 0
InvariantHolds inv row = Between (inv.least, inv.greatest) (word (area_at row.areas inv.app.0) inv.variable)

-- A row meets a precondition: the variable of the precondition is within the interval of the precondition.
abbrev pub PreconditionHolds : Precondition → Row → Type 0
PreconditionHolds pre row = Between (pre.least, pre.greatest) (word (area_at row.areas pre.app.0) pre.variable)

-- SP4 of a reconfiguration: the invariants for the source hold in the rows of the reconfiguration, from the begin to
-- the end or to the last row. In addition, the preconditions of the target hold in the row before the end.
pub record KeepsSp4 (spec : Parts) (rows : List Row) (r : Report) : Type 0 where
  pub throughout : Each (λ (inv : Invariant). has_source inv.from r.from ≡ true → (f : ℕ) (row : Row) → r.begin ≤ f → f ≤ r.end
      → slice_get rows f ≡ Some row → InvariantHolds inv row) spec.invariants
  pub ready : Each (λ (pre : Precondition). r.to ≡ Some pre.conf → (f : ℕ) (row : Row) → suc f ≡ r.end
      → slice_get rows f ≡ Some row → PreconditionHolds pre row) spec.preconditions

-- The policy is `Settle`, and another reconfiguration ended in the row before the begin of `r`. The environment
-- changed during that reconfiguration after its begin.
pub record FollowsAnother (spec : Parts) (rows : List Row) (r : Report) : Type 0 where
  pub settles : spec.policy ≡ Settle
  pub before : Report
  pub place : ℕ
  pub there : slice_get (reports spec rows) place ≡ Some before
  pub last : suc before.end ≡ r.begin
  pub change : ℕ
  pub after : before.begin < change
  pub up_to : change ≤ before.end
  pub changes : ChangesIn spec rows change

-- SP5 of a reconfiguration: the environment changes in the begin or in the row after the begin. Under `Settle`, a
-- change during the reconfiguration just before may also be the cause. A begin in the last row is exempt.
abbrev pub KeepsSp5 : Parts → List Row → Report → Type 0
KeepsSp5 spec rows r = suc r.begin < length rows → ChangesIn spec rows r.begin ⊎ ChangesIn spec rows (suc r.begin) ⊎ FollowsAnother spec rows r

-- SP2: each reconfiguration that is read off the rows has a target that was chosen during it, or is unfinished.
abbrev pub HoldsSp2 : Parts → List Row → Type 0
HoldsSp2 spec rows = Each (KeepsSp2 spec rows) (reports spec rows)

-- SP3: a bound is given for each reconfiguration that is read off the rows, and the reconfiguration takes no longer
-- than the bound.
abbrev pub HoldsSp3 : Parts → List Row → Type 0
HoldsSp3 spec rows = Each (KeepsSp3 spec) (reports spec rows)

-- SP4: each reconfiguration that is read off the rows keeps its invariants and meets its target's preconditions.
abbrev pub HoldsSp4 : Parts → List Row → Type 0
HoldsSp4 spec rows = Each (KeepsSp4 spec rows) (reports spec rows)

-- SP5: each reconfiguration that is read off the rows has a change of the environment as its cause, or begins in the
-- last row.
abbrev pub HoldsSp5 : Parts → List Row → Type 0
HoldsSp5 spec rows = Each (KeepsSp5 spec rows) (reports spec rows)

-- No application is lost in a row.
abbrev pub LosesNone : Row → Type 0
LosesNone row = (a : ℕ) → act_at row.acts a ≢ act.Lost

-- Row `t` is calm: its environment has held for the greatest bound, and no application is lost in the row.
pub record IsCalm (spec : Parts) (rows : List Row) (t : ℕ) (row : Row) : Type 0 where
  pub there : slice_get rows t ≡ Some row
  pub late : greatest_bound spec.bounds ≤ t
  pub still : (f : ℕ) → t ≤ f + greatest_bound spec.bounds → f ≤ t → env_in rows f ≡ Some row.env
  pub whole : LosesNone row

-- Whether the running configuration meets each demand that matches the environment and applies to the configuration. If
-- no configuration runs, whether no demand matches the environment.
abbrev pub satisfies : Parts → Env → Option ConfId → Bool
satisfies spec v None = not (has_demand_in spec v)
satisfies spec v (Some c) = meets_all spec c v

-- Whether a row satisfies the demands, by `satisfies` for its environment and for the configuration that runs in it.
abbrev pub is_satisfied : Parts → Row → Bool
is_satisfied spec row = satisfies spec row.env (running spec row.acts)

-- SP6: each calm row satisfies the demands.
abbrev pub HoldsSp6 : Parts → List Row → Type 0
HoldsSp6 spec rows = (t : ℕ) (row : Row) → IsCalm spec rows t row → is_satisfied spec row ≡ true

-- The properties SP1 to SP6 hold.
pub record HoldsAll (spec : Parts) (rows : List Row) (told : List Report) : Type 0 where
  pub sp1 : HoldsSp1 spec rows told
  pub sp2 : HoldsSp2 spec rows
  pub sp3 : HoldsSp3 spec rows
  pub sp4 : HoldsSp4 spec rows
  pub sp5 : HoldsSp5 spec rows
  pub sp6 : HoldsSp6 spec rows
