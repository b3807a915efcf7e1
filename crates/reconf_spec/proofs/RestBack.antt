-- Rules, bounds and intervals are read back as they were written.
use Rattle.std.proofs.Common.{◌≡◌, ◌<◌, ◌^◌, ℕ, Bool, true, false, List, arith, refl, ◌∙◌, sym, subst}
use Rattle.std.specs.Prelude.{Option, Some, None, Ok, ℤ, pos, negsuc, ◌≤ℤ◌, codes, slice_get, is_some}
use Rattle.std.specs.Str.{bytes_eq}
use Rattle.std.proofs.lemmas.Bool.{lt-ltb}
use Rattle.std.proofs.lemmas.Int.{ints}
use Rattle.std.proofs.lemmas.Option.{slice_get_within}
use Rattle.std.proofs.lemmas.Slice.Eq.{bytes_eq-Decides}
use Rattle.serde_json.specs.Data.{string}
use Rattle.serde_json.specs.Find.{as_i64, of_integer}
use Rattle.scram_doc.specs.Paths.{member_path}
use Rattle.scram_doc.specs.Values.{int_within}
use Rattle.scram_types.specs.declared.rows.Goal.{Goal}
use Rattle.scram_types.specs.declared.ids.AppId.{AppId}
use Rattle.scram_types.specs.declared.ids.ConfId.{ConfId}
use Rattle.scram_types.specs.declared.specification.AppSpec.{AppSpec}
use Rattle.scram_types.specs.declared.specification.Bound.{Bound}
use Rattle.scram_types.specs.declared.specification.Choice.{Choice}
use Rattle.scram_types.specs.declared.specification.Conf.{Conf}
use Rattle.scram_types.specs.declared.specification.Factor.{Factor}
use Rattle.scram_types.specs.declared.specification.Invariant.{Invariant}
use Rattle.scram_types.specs.declared.specification.Precondition.{Precondition}
use Rattle.scram_types.specs.declared.specification.Want.{Want}
use Rattle.scram_types.specs.Names.{is_name}
use Rattle.scram_types.specs.Numbers.{minus}
use Rattle.scram_types.specs.Specification.{Each, IsBound, IsChoice, IsFactor, IsGoal, IsInIfNamed, IsInterval, IsInvariant, IsPrecondition, IsSpec, IsWant, NamesDiffer, Parts, bound_in}
use Rattle.kind_table.specs.Names.{variable_names, number_in}
use Rattle.kind_table.proofs.Spelling.{all_names_agree}
use Rattle.spec_reading.specs.declared.rule.TheConstants.{UNKNOWN_PROCESSOR}
use Rattle.spec_reading.specs.Names.{name_of_app, name_of_conf, name_of_factor, name_of_proc}
use Rattle.spec_reading.specs.Bounds.{read_bound, read_bounds}
use Rattle.spec_reading.specs.Choices.{read_choice, read_choices, wants_factor, source_named, read_want}
use Rattle.spec_reading.specs.Documents.{read_goal}
use Rattle.scram_doc.specs.Lists.{AllAfter}
use Rattle.spec_reading.specs.TableFacts.{IsVariable}
use Rattle.spec_reading.specs.Numbering.{itself}
use Rattle.spec_reading.specs.Intervals.{read_interval, read_invariant, read_invariants, read_precondition, read_preconditions}
use Rattle.reconf_spec.specs.Texts.{bound_data, choice_data, goal_data, invariant_data, name_of_item, precondition_data, source_name, name_of_kind_variable, name_of_variable, want_data}
use Rattle.scram_doc.specs.Canonical.{integer_data, list_data}
use Rattle.spec_reading.specs.Writable.{IsWritableInterval, lists_pair, lists_want}
use Rattle.reconf_spec.proofs.Lookups.{number_back}
use Rattle.scram_types.proofs.Integers.{int_is}
use Rattle.scram_types.proofs.Items.{some_item}
use Rattle.scram_doc.proofs.ReadBack.{list_back, whole_back}
use Rattle.reconf_spec.proofs.Sets.{all_free, set_back}

-- The name of a configuration is not `*`.
no_star_by : (b : Bool) (text : List ℕ) → (b ≡ true → text ≡ codes "*") → is_name text ≡ true → b ≡ false
no_star_by true text same named = absurd (let wrong : false ≡ true = subst (λ (t : List ℕ). is_name t ≡ true) (same refl) named in cc)
no_star_by false text same named = refl

no_star : (text : List ℕ) → is_name text ≡ true → bytes_eq text (codes "*") ≡ false
no_star text named = no_star_by (bytes_eq text (codes "*")) text (λ e. (bytes_eq-Decides text (codes "*")).0 e) named

abbrev pub AreNamed : List Conf → Type 0
AreNamed confs = Each (λ (conf : Conf). is_name conf.name ≡ true) confs

source_back : (confs : List Conf) (at : List ℕ) (from : Option ConfId) → NamesDiffer name_of_conf confs → AreNamed confs → IsInIfNamed confs from → source_named confs at (source_name confs from) ≡ Ok from
source_back confs at None differ named there = refl
source_back confs at (Some c) differ named there = some_item confs c.0 there (λ conf is.
    let found = number_back name_of_conf confs c.0 differ there in
    let text : name_of_item name_of_conf confs c.0 ≡ conf.name = rw (is) refl in
    let other : bytes_eq (name_of_item name_of_conf confs c.0) (codes "*") ≡ false = rw (text) (no_star conf.name (named c.0 conf is)) in
    rw (other, found) refl)

pub record NewWant (factors : List Factor) (done : List Want) (want : Want) : Type 0 where
  pub new : wants_factor done want.factor.0 ≡ false
  pub is : IsWant factors want

pub want_back : (factors : List Factor) → NamesDiffer name_of_factor factors → Each IsFactor factors → (at : List ℕ) (done : List Want) (want : Want) → NewWant factors done want
    → read_want factors at done (want_data factors want) ≡ Ok want
want_back factors differ each at done want fits =
    let is = fits.is in
    let found = number_back name_of_factor factors want.factor.0 differ (slice_get_within factors want.factor.0 is.factor is.there) in
    let value = number_back itself is.factor.values want.value (each want.factor.0 is.factor is.there).differ is.value in
    rw (found, fits.new, is.there, value) refl

record WritableChoice (spec : Parts) (rule : Choice) : Type 0 where
  is : IsChoice spec.procs spec.confs spec.factors rule
  wants : AllAfter (λ (done : List Want) (want : Want). lists_want done want ≡ false) rule.wants

choice_back : (spec : Parts) → IsSpec spec → AreNamed spec.confs → (at : List ℕ) (done : List Choice) (rule : Choice) → WritableChoice spec rule
    → read_choice spec.procs spec.confs spec.factors at done (choice_data spec rule) ≡ Ok rule
choice_back spec is named at done rule fits =
    let wants = list_back (NewWant spec.factors) (read_want spec.factors) (want_data spec.factors) (want_back spec.factors is.factors_differ is.factors) 0 6 (member_path at (codes "when")) rule.wants (omega arith) fits.is.few
    (λ i x e. record { new = fits.wants i x e; is = fits.is.wants i x e }) in
    rw (
      source_back spec.confs (member_path at (codes "from")) rule.from is.confs_differ named fits.is.from,
      wants,
      set_back name_of_proc spec.procs UNKNOWN_PROCESSOR 0 8 (member_path at (codes "up")) rule.up is.procs_count.few is.procs_differ fits.is.up (all_free rule.up),
      number_back name_of_conf spec.confs rule.to.0 is.confs_differ fits.is.to,
    ) refl

pub choices_back : (spec : Parts) → IsSpec spec → AreNamed spec.confs → Each (λ (rule : Choice). AllAfter (λ (done : List Want) (want : Want). lists_want done want ≡ false) rule.wants) spec.rules → (at : List ℕ)
    → read_choices spec.procs spec.confs spec.factors at (list_data (choice_data spec) spec.rules) ≡ Ok spec.rules
choices_back spec is named wants at =
    list_back (λ _. WritableChoice spec) (read_choice spec.procs spec.confs spec.factors) (choice_data spec) (choice_back spec is named) 0 64 at spec.rules (omega arith) is.rules_count
    (λ i x e. record { is = is.rules i x e; wants = wants i x e })

record NewBound (confs : List Conf) (done : List Bound) (bound : Bound) : Type 0 where
  new : is_some (bound_in done bound.from.0 bound.to.0) ≡ false
  is : IsBound confs bound

bound_back : (confs : List Conf) → NamesDiffer name_of_conf confs → (at : List ℕ) (done : List Bound) (bound : Bound) → NewBound confs done bound → read_bound confs at done (bound_data confs bound) ≡ Ok bound
bound_back confs differ at done bound fits =
    let most = fits.is.most in
    rw (
      number_back name_of_conf confs bound.from.0 differ fits.is.from,
      number_back name_of_conf confs bound.to.0 differ fits.is.to,
      fits.new,
      whole_back 1 1001 bound.frames fits.is.least (omega (arith, most)),
    ) refl

pub bounds_back : (spec : Parts) → IsSpec spec → AllAfter (λ (done : List Bound) (bound : Bound). lists_pair done bound ≡ false) spec.bounds → (at : List ℕ)
    → read_bounds spec.confs at (list_data (bound_data spec.confs) spec.bounds) ≡ Ok spec.bounds
bounds_back spec is new at =
    list_back (NewBound spec.confs) (read_bound spec.confs) (bound_data spec.confs) (bound_back spec.confs is.confs_differ) 0 144 at spec.bounds (omega arith) is.bounds_count
    (λ i x e. record { new = new i x e; is = is.bounds i x e })

-- An integer that is at most 1,000,000,000 is read back as it was written.
number_small : (n : ℤ) → n ≤ℤ pos 1000000000 → as_i64 (of_integer n) ≡ Some n
number_small (pos n) small = let below : n < 2 ^ 63 = omega (arith, ints, small) in rw (lt-ltb n (2 ^ 63) below) refl
number_small (negsuc n) small = refl

within : (low high n : ℤ) → low ≤ℤ n → n ≤ℤ high → int_within low high n ≡ Some n
within low high n least most = rw (int_is low n least, int_is n high most) refl

pub goal_back : (at : List ℕ) (goal : Goal) → IsGoal goal → read_goal at (goal_data goal) ≡ Ok goal
goal_back at goal is =
    let low = is.highest in
    let far = is.last in
    rw (
      number_small goal.altitude (omega (arith, ints, low)),
      within (pos 0) (pos 40000) goal.altitude is.lowest is.highest,
      number_small goal.heading (omega (arith, ints, far)),
      within (pos 0) (pos 3599) goal.heading is.first is.last,
    ) refl

some_same : (x y : AppSpec) → Some x ≡ Some y → x ≡ y
some_same x y e = cc

variable_back : (apps : List AppSpec) (app : AppSpec) (a variable : ℕ) → slice_get apps a ≡ Some app → app.kind.0 < 6 → IsVariable (slice_get apps a) variable
    → number_in (variable_names app.kind.0) (name_of_kind_variable app.kind.0 variable) ≡ Some variable
variable_back apps app a variable there below is =
    let agree = (all_names_agree.each app.kind.0 below).variables in
    let same : is.app ≡ app = some_same is.app app (sym is.there ∙ there) in
    let named : number_in (variable_names app.kind.0) is.text ≡ Some variable = subst (λ (x : AppSpec). number_in (variable_names x.kind.0) is.text ≡ Some variable) same is.named in
    rw (agree.spelled variable is.text named) named

-- The common part of invariants and preconditions is read back as it was written.
interval_back : (spec : Parts) → IsSpec spec → (at : List ℕ) (app : AppId) (variable : ℕ) (least greatest : ℤ) → IsInterval spec.apps app variable least greatest → IsWritableInterval spec.apps app variable least greatest
    → read_interval spec.apps at (string (name_of_item name_of_app spec.apps app.0)) (string (name_of_variable spec.apps app.0 variable)) (integer_data least) (integer_data greatest)
    ≡ Ok (record { app = app; variable = variable; ends = record { least = least; greatest = greatest } })
interval_back spec is at app variable least greatest fits writable = some_item spec.apps app.0 fits.there (λ found there.
    rw (
      number_back name_of_app spec.apps app.0 is.apps_differ fits.there,
      there,
      variable_back spec.apps found app.0 variable there (is.apps app.0 found there).kind writable.named,
      number_small least fits.low_most,
      within (minus 1000000000) (pos 1000000000) least fits.low_least fits.low_most,
      number_small greatest fits.high_most,
      within (minus 1000000000) (pos 1000000000) greatest fits.high_least fits.high_most,
      int_is least greatest writable.in_order,
    ) refl)

record WritableInvariant (spec : Parts) (inv : Invariant) : Type 0 where
  is : IsInvariant spec.apps spec.confs inv
  writable : IsWritableInterval spec.apps inv.app inv.variable inv.least inv.greatest

invariant_back : (spec : Parts) → IsSpec spec → AreNamed spec.confs → (at : List ℕ) (done : List Invariant) (inv : Invariant) → WritableInvariant spec inv
    → read_invariant spec.apps spec.confs at done (invariant_data spec inv) ≡ Ok inv
invariant_back spec is named at done inv fits =
    rw (
      source_back spec.confs (member_path at (codes "from")) inv.from is.confs_differ named fits.is.from,
      interval_back spec is at inv.app inv.variable inv.least inv.greatest fits.is.interval fits.writable,
    ) refl

pub invariants_back : (spec : Parts) → IsSpec spec → AreNamed spec.confs → Each (λ (inv : Invariant). IsWritableInterval spec.apps inv.app inv.variable inv.least inv.greatest) spec.invariants → (at : List ℕ)
    → read_invariants spec.apps spec.confs at (list_data (invariant_data spec) spec.invariants) ≡ Ok spec.invariants
invariants_back spec is named writable at =
    list_back (λ _. WritableInvariant spec) (read_invariant spec.apps spec.confs) (invariant_data spec) (invariant_back spec is named) 0 64 at spec.invariants (omega arith) is.invariants_count
    (λ i x e. record { is = is.invariants i x e; writable = writable i x e })

record WritablePrecondition (spec : Parts) (pre : Precondition) : Type 0 where
  is : IsPrecondition spec.apps spec.confs pre
  writable : IsWritableInterval spec.apps pre.app pre.variable pre.least pre.greatest

precondition_back : (spec : Parts) → IsSpec spec → (at : List ℕ) (done : List Precondition) (pre : Precondition) → WritablePrecondition spec pre
    → read_precondition spec.apps spec.confs at done (precondition_data spec pre) ≡ Ok pre
precondition_back spec is at done pre fits =
    rw (
      number_back name_of_conf spec.confs pre.conf.0 is.confs_differ fits.is.conf,
      interval_back spec is at pre.app pre.variable pre.least pre.greatest fits.is.interval fits.writable,
    ) refl

pub preconditions_back : (spec : Parts) → IsSpec spec → Each (λ (pre : Precondition). IsWritableInterval spec.apps pre.app pre.variable pre.least pre.greatest) spec.preconditions → (at : List ℕ)
    → read_preconditions spec.apps spec.confs at (list_data (precondition_data spec) spec.preconditions) ≡ Ok spec.preconditions
preconditions_back spec is writable at =
    list_back (λ _. WritablePrecondition spec) (read_precondition spec.apps spec.confs) (precondition_data spec) (precondition_back spec is) 0 64 at spec.preconditions (omega arith) is.preconditions_count
    (λ i x e. record { is = is.preconditions i x e; writable = writable i x e })
