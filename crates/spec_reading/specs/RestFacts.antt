-- Facts about the parts of a document other than its processors, applications, configurations and factors.
use Rattle.std.specs.Prelude.{◌≤◌, List, length}
use Rattle.scram_types.specs.declared.specification.Proc.{Proc}
use Rattle.scram_types.specs.declared.specification.AppSpec.{AppSpec}
use Rattle.scram_types.specs.declared.specification.Conf.{Conf}
use Rattle.scram_types.specs.declared.specification.Factor.{Factor}
use Rattle.scram_types.specs.Specification.{IsGoal, IsIn}
use Rattle.spec_reading.specs.declared.documents.Assumption.{Assumption}
use Rattle.spec_reading.specs.declared.documents.LimitParts.{LimitParts}
use Rattle.spec_reading.specs.declared.documents.Rest.{Rest}
use Rattle.spec_reading.specs.declared.documents.TableParts.{TableParts}
use Rattle.scram_doc.specs.Lists.{AllAfter}
use Rattle.spec_reading.specs.TableFacts.{FitsChoice, IsNewBound, FitsInvariant, FitsPrecondition, IsNewDemand}

-- A failure assumption is within its limits.
pub record FitsAssumption (assumed : Assumption) : Type 0 where
  pub halts : assumed.halts ≤ 8
  pub changes : assumed.changes ≤ 16
  pub window_least : 1 ≤ assumed.window
  pub window_most : assumed.window ≤ 1000

-- The choice table, the bounds, the start and the goal are within their limits, and refer only to these processors,
-- configurations and factors.
pub record FitsTableParts (procs : List Proc) (confs : List Conf) (factors : List Factor) (parts : TableParts) : Type 0 where
  pub few_rules : length parts.rules ≤ 64
  pub rules : AllAfter (λ _. FitsChoice procs confs factors) parts.rules
  pub few_bounds : length parts.bounds ≤ 144
  pub bounds : AllAfter (IsNewBound confs) parts.bounds
  pub start : IsIn confs parts.start
  pub goal : IsGoal parts.goal

-- The invariants, the preconditions and the failure assumption are within their limits, and refer only to these
-- applications and configurations.
pub record FitsLimitParts (apps : List AppSpec) (confs : List Conf) (parts : LimitParts) : Type 0 where
  pub few_invariants : length parts.invariants ≤ 64
  pub invariants : AllAfter (λ _. FitsInvariant apps confs) parts.invariants
  pub few_preconditions : length parts.preconditions ≤ 64
  pub preconditions : AllAfter (λ _. FitsPrecondition apps confs) parts.preconditions
  pub assumed : FitsAssumption parts.assumed

-- Each part in `rest` is within its limits, and refers only to these processors, applications, configurations and
-- factors.
pub record FitsRest (procs : List Proc) (apps : List AppSpec) (confs : List Conf) (factors : List Factor) (rest : Rest) : Type 0 where
  pub table : FitsTableParts procs confs factors rest.table
  pub limits : FitsLimitParts apps confs rest.limits
  pub few_demands : length rest.demands ≤ 64
  pub demands : AllAfter (IsNewDemand procs apps confs factors) rest.demands
