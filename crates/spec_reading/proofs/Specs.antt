-- Parts of a document that satisfy `AreNames` and `FitsRest` form a specification.
use Rattle.std.proofs.Common.{◌≡◌, ◌∙◌, ◌≤◌, ◌==◌, ℕ, false, List, arith, ap, sym, subst, take}
use mathlib.Core.Logic.{inl, inr}
use Rattle.std.specs.Prelude.{IsSome, Option, Some, is_some, slice_get}
use Rattle.std.proofs.lemmas.Int.{ints}
use Rattle.scram_types.specs.declared.specification.Proc.{Proc}
use Rattle.scram_types.specs.declared.specification.AppSpec.{AppSpec}
use Rattle.scram_types.specs.declared.specification.Conf.{Conf}
use Rattle.scram_types.specs.declared.specification.Factor.{Factor}
use Rattle.scram_types.specs.declared.specification.Choice.{Choice}
use Rattle.scram_types.specs.declared.demands.Demand.{Demand}
use Rattle.scram_types.specs.declared.specification.Invariant.{Invariant}
use Rattle.scram_types.specs.declared.specification.Precondition.{Precondition}
use Rattle.scram_types.specs.Specification.{Parts, IsSpec, IsProc, IsConf, IsFactor, IsChoice, IsBound, IsDemand, IsInvariant, IsOn, IsPrecondition, mode_in}
use Rattle.kind_table.proofs.Spelling.{variable_number_below}
use Rattle.spec_reading.specs.Names.{name_of_proc, name_of_conf, name_of_demand, name_of_factor}
use Rattle.spec_reading.specs.Numbering.{itself}
use Rattle.scram_doc.specs.Lists.{AllAfter}
use Rattle.spec_reading.specs.Facts.{IsNewProc, IsNewFactor}
use Rattle.spec_reading.specs.TableFacts.{IsNewConf, IsNewDemand, IsNewWant, FitsChoice, IsNewBound, FitsInvariant, FitsPrecondition, IsVariable, ListsModes}
use Rattle.spec_reading.specs.Vocabulary.{Names, AreNames}
use Rattle.spec_reading.specs.Documents.{with_rest}
use Rattle.spec_reading.specs.Writable.{IsWritable}
use Rattle.spec_reading.specs.RestFacts.{FitsRest}
use Rattle.spec_reading.specs.declared.documents.Rest.{Rest}
use Rattle.scram_types.specs.ModeLists.{is_among}
use Rattle.spec_reading.proofs.Distinct.{compare, each_of, early, new_differ}
use Rattle.scram_types.specs.declared.ids.Mode.{Mode}
use Rattle.scram_types.specs.Bits.{has_bit}
use Rattle.scram_types.proofs.Booleans.{not_true, true_false}
use Rattle.scram_types.proofs.Items.{any_is}
use Rattle.scram_types.proofs.Naturals.{equal_test}
use Rattle.scram_types.proofs.Options.{same_some}

variable_below : (found : Option AppSpec) (variable : ℕ) → IsVariable found variable → variable ≤ 7
variable_below found variable is =
    omega (arith, variable_number_below is.app.kind.0 is.text variable is.named)

factor_fits : (done : List Factor) (factor : Factor) → IsNewFactor done factor → IsFactor factor
factor_fits done factor fits = record { count = fits.count; differ = new_differ itself factor.values (λ i x e. (fits.values i x e).new) }

-- If no mode of a list is among the modes before it, the modes of the list differ.
modes_differ : (modes : List Mode) → AllAfter (λ (done : List Mode) (mode : Mode). is_among done mode.0 ≡ false) modes
    → (i j : ℕ) (m n : Mode) → slice_get modes i ≡ Some m → slice_get modes j ≡ Some n → m.0 ≡ n.0 → i ≡ j
modes_differ modes new i j m n there too same = elim (compare i j) [
  | inl below ↦ absurd (stands (take j modes) i m n.0 (early i j Mode modes m below there) same (new j n too))
  | inr rest ↦ elim rest [
    | inl is ↦ is
    | inr above ↦ absurd (stands (take i modes) j n m.0 (early j i Mode modes n above too) (sym same) (new i m there))
  ]
]
  where
    stands : (done : List Mode) (k : ℕ) (mode : Mode) (number : ℕ) → slice_get done k ≡ Some mode → mode.0 ≡ number → is_among done number ≡ false → ⊥
    stands done k mode number here is none =
        true_false (is_among done number) (any_is (λ (listed : Mode). listed.0 == number) done k mode here (equal_test mode.0 number is)) none

choice_fits : (procs : List Proc) (confs : List Conf) (factors : List Factor) (rule : Choice) → FitsChoice procs confs factors rule → IsChoice procs confs factors rule
choice_fits procs confs factors rule fits = record {
  from = fits.from;
  few = fits.few;
  wants = each_of (IsNewWant factors) _ rule.wants (λ done want f. f.is) fits.wants;
  up = fits.up;
  to = fits.to;
}

invariant_fits : (apps : List AppSpec) (confs : List Conf) (inv : Invariant) → FitsInvariant apps confs inv → IsInvariant apps confs inv
invariant_fits apps confs inv fits = let i = fits.interval in record {
  from = fits.from;
  interval = record {
    there = i.there;
    is_variable = variable_below (slice_get apps inv.app.0) inv.variable i.is_variable;
    low_least = i.ends_fit.low_least;
    low_most = omega (arith, ints, i.ends_fit.in_order, i.ends_fit.high_most);
    high_least = omega (arith, ints, i.ends_fit.in_order, i.ends_fit.low_least);
    high_most = i.ends_fit.high_most;
  };
}

precondition_fits : (apps : List AppSpec) (confs : List Conf) (pre : Precondition) → FitsPrecondition apps confs pre → IsPrecondition apps confs pre
precondition_fits apps confs pre fits = let i = fits.interval in record {
  conf = fits.conf;
  interval = record {
    there = i.there;
    is_variable = variable_below (slice_get apps pre.app.0) pre.variable i.is_variable;
    low_least = i.ends_fit.low_least;
    low_most = omega (arith, ints, i.ends_fit.in_order, i.ends_fit.high_most);
    high_least = omega (arith, ints, i.ends_fit.in_order, i.ends_fit.low_least);
    high_most = i.ends_fit.high_most;
  };
}

modes_fit : (apps : List AppSpec) (a : ℕ) (modes : List Mode) → ListsModes (slice_get apps a) modes → IsOn apps a modes
modes_fit apps a modes lists = record {
  app = lists.app;
  there = lists.there;
  few = lists.few;
  listed = λ i mode e. let is = (lists.each i mode e).listed in
      subst (λ (app : AppSpec). IsSome (mode_in app.modes mode.0)) (same_some is.app lists.app (sym is.there ∙ lists.there)) is.listed;
  differ = modes_differ modes (λ i mode e. (lists.each i mode e).new);
}

demand_fits : (procs : List Proc) (apps : List AppSpec) (confs : List Conf) (factors : List Factor) (done : List Demand) (demand : Demand) → IsNewDemand procs apps confs factors done demand
    → IsDemand procs apps confs factors demand
demand_fits procs apps confs factors done demand fits = let asked = fits.asked in record {
  from = fits.from;
  few = fits.few;
  wants = each_of (IsNewWant factors) _ demand.wants (λ done want f. f.is) fits.wants;
  up = asked.up;
  down = asked.down;
  apart = λ p is. not_true (has_bit demand.down p) (λ also. true_false (has_bit demand.up p) is (asked.down_apart p also));
  to = asked.to;
  width = asked.width;
  on = λ a modes e. modes_fit apps a modes (asked.on a modes e);
  off = asked.off;
  one = asked.off_apart;
}

-- If `rest` fits the items `names`, and `names` equals the valid items `own`, then `own` and `rest` form a
-- specification that can be written.
module _ (names own : Names) (rest : Rest) (same : names ≡ own) (named : AreNames own.procs own.apps own.confs own.factors) (reads : FitsRest names.procs names.apps names.confs names.factors rest) where
  abbrev spec : Parts
  spec = with_rest own rest

  fits : FitsRest own.procs own.apps own.confs own.factors rest
  fits = subst (λ (z : Names). FitsRest z.procs z.apps z.confs z.factors rest) same reads

  pub joined_fits : IsSpec (with_rest own rest)
  joined_fits = record {
    names = record {
      procs = λ i x e. (named.procs_fit i x e).name.spelled;
      apps = named.apps_fit.spelled;
      confs = λ i x e. (named.confs_fit i x e).name.spelled;
      factors = λ i x e. (named.factors_fit i x e).name.spelled;
      values = λ i x e j y f. ((named.factors_fit i x e).values j y f).spelled;
      demands = λ i x e. (fits.demands i x e).name.spelled;
    };
    procs_count = named.procs_count;
    procs_differ = new_differ name_of_proc own.procs (λ i x e. (named.procs_fit i x e).name.new);
    procs = each_of IsNewProc IsProc own.procs (λ done x f. f.is) named.procs_fit;
    apps_count = named.apps_fit.count;
    apps_differ = named.apps_fit.differ;
    apps = named.apps_fit.each;
    confs_count = named.confs_count;
    confs_differ = new_differ name_of_conf own.confs (λ i x e. (named.confs_fit i x e).name.new);
    confs = each_of (IsNewConf own.procs own.apps) (IsConf own.procs own.apps) own.confs (λ done x f. record { width = f.width; places = f.places }) named.confs_fit;
    factors_count = named.factors_count.few;
    factors_differ = new_differ name_of_factor own.factors (λ i x e. (named.factors_fit i x e).name.new);
    factors = each_of IsNewFactor IsFactor own.factors factor_fits named.factors_fit;
    rules_count = fits.table.few_rules;
    rules = each_of (λ _. FitsChoice own.procs own.confs own.factors) (IsChoice own.procs own.confs own.factors) spec.rules (λ done x f. choice_fits own.procs own.confs own.factors x f) fits.table.rules;
    bounds_count = fits.table.few_bounds;
    bounds = each_of (IsNewBound own.confs) (IsBound own.confs) spec.bounds (λ done x f. f.is) fits.table.bounds;
    start = fits.table.start;
    goal = fits.table.goal;
    invariants_count = fits.limits.few_invariants;
    invariants = each_of (λ _. FitsInvariant own.apps own.confs) (IsInvariant own.apps own.confs) spec.invariants (λ done x f. invariant_fits own.apps own.confs x f) fits.limits.invariants;
    preconditions_count = fits.limits.few_preconditions;
    preconditions = each_of (λ _. FitsPrecondition own.apps own.confs) (IsPrecondition own.apps own.confs) spec.preconditions (λ done x f. precondition_fits own.apps own.confs x f) fits.limits.preconditions;
    demands_count = fits.few_demands;
    demands_differ = new_differ name_of_demand spec.demands (λ i x e. (fits.demands i x e).name.new);
    demands = each_of (IsNewDemand own.procs own.apps own.confs own.factors) (IsDemand own.procs own.apps own.confs own.factors) spec.demands
        (demand_fits own.procs own.apps own.confs own.factors) fits.demands;
    halts = fits.limits.assumed.halts;
    changes = fits.limits.assumed.changes;
    window_least = fits.limits.assumed.window_least;
    window_most = fits.limits.assumed.window_most;
  }

  pub joined_writable : IsWritable (with_rest own rest)
  joined_writable = record {
    apps = named.apps_fit.writable;
    ranks = named.apps_fit.ranks;
    rules = λ i x e j y f. ((fits.table.rules i x e).wants j y f).new;
    bounds = λ i x e. ap (λ (o : Option ℕ). is_some o) (fits.table.bounds i x e).new;
    invariants = λ i x e. record { named = (fits.limits.invariants i x e).interval.is_variable; in_order = (fits.limits.invariants i x e).interval.ends_fit.in_order };
    preconditions = λ i x e. record { named = (fits.limits.preconditions i x e).interval.is_variable; in_order = (fits.limits.preconditions i x e).interval.ends_fit.in_order };
    demands = λ i x e j y f. ((fits.demands i x e).wants j y f).new;
  }
