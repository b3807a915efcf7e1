-- A specification as plain data, and the invariant of every specification.
use Rattle.std.specs.Prelude.{◌≡◌, ℕ, ℤ, pos, true, false, ◌==◌, ◌&&◌, ◌^◌, ◌<◌, ◌≤◌, ◌≤ℤ◌, nat_lt, List, [], ◌∷◌, length, slice_get, slice_index_or, Option, Some, None, IsSome, IfSome, IsTrue, option_and_then, if◌then◌else◌}
use Rattle.scram_types.specs.Bits.{has_bit}
use Rattle.scram_types.specs.Names.{is_name}
use Rattle.scram_types.specs.Numbers.{minus}
use Rattle.scram_types.specs.declared.ids.AppId.{AppId}
use Rattle.scram_types.specs.declared.ids.ConfId.{ConfId}
use Rattle.scram_types.specs.declared.ids.Mode.{Mode}
use Rattle.scram_types.specs.declared.rows.Goal.{Goal}
use Rattle.scram_types.specs.declared.specification.Proc.{Proc}
use Rattle.scram_types.specs.declared.specification.ModeSpec.{ModeSpec}
use Rattle.scram_types.specs.declared.specification.AppSpec.{AppSpec}
use Rattle.scram_types.specs.declared.specification.Place.{Place}
use Rattle.scram_types.specs.declared.specification.Conf.{Conf}
use Rattle.scram_types.specs.declared.specification.Factor.{Factor}
use Rattle.scram_types.specs.declared.specification.Want.{Want}
use Rattle.scram_types.specs.declared.specification.Choice.{Choice}
use Rattle.scram_types.specs.declared.specification.Bound.{Bound}
use Rattle.scram_types.specs.declared.specification.Invariant.{Invariant}
use Rattle.scram_types.specs.declared.specification.Precondition.{Precondition}
use Rattle.scram_types.specs.declared.specification.Policy.{Policy}
use Rattle.scram_types.specs.declared.demands.Demand.{Demand}

-- A specification, as contracts see it.
pub record Parts : Type 0 where
  pub procs : List Proc
  pub apps : List AppSpec
  pub confs : List Conf
  pub factors : List Factor
  pub rules : List Choice
  pub bounds : List Bound
  pub start : ConfId
  pub goal : Goal
  pub invariants : List Invariant
  pub preconditions : List Precondition
  pub policy : Policy
  pub demands : List Demand
  pub halts : ℕ
  pub changes : ℕ
  pub window : ℕ

-- The place of application `a` in a configuration, or `None` if `a` is off or does not exist.
abbrev pub place_in : Conf → ℕ → Option Place
place_in conf a = option_and_then (λ (place : Option Place). place) (slice_get conf.places a)

-- The modes that a demand allows for application `a`: the empty list if any mode will do, or `None` if the demand
-- does not require `a` to be on or `a` does not exist.
abbrev pub modes_on : Demand → ℕ → Option (List Mode)
modes_on demand a = option_and_then (λ (modes : Option (List Mode)). modes) (slice_get demand.on a)

-- The costs of mode `mode`, from the first entry of the list for it, or `None` if the list has no such entry.
abbrev pub mode_in : List ModeSpec → ℕ → Option ModeSpec
mode_in [] mode = None
mode_in (listed ∷ modes) mode = if listed.mode.0 == mode then Some listed else mode_in modes mode

-- The first bound of the list, in frames, on a reconfiguration from configuration `from` to configuration `to`, or
-- `None` if the list has no such bound.
abbrev pub bound_in : List Bound → ℕ → ℕ → Option ℕ
bound_in [] from to = None
bound_in (bound ∷ bounds) from to =
    if bound.from.0 == from && bound.to.0 == to then Some bound.frames else bound_in bounds from to

-- The maximum of the bound `frames` and the greatest bound so far, or `frames` if there is no bound so far.
abbrev pub greater_of : Option ℕ → ℕ → ℕ
greater_of (Some most) frames = if nat_lt most frames then frames else most
greater_of None frames = frames

-- The maximum of `greatest` and the bounds of the list whose source is configuration `from`. It is `None` if
-- `greatest` is `None` and the list has no such bound. `greatest` is the greatest of the preceding bounds, or `None`
-- if there are none.
abbrev pub greatest_bound_from : Option ℕ → List Bound → ℕ → Option ℕ
greatest_bound_from greatest [] from = greatest
greatest_bound_from greatest (bound ∷ bounds) from =
    greatest_bound_from (if bound.from.0 == from then Some (greater_of greatest bound.frames) else greatest) bounds from

-- The greatest bound of the list, in frames, whose source is configuration `from`, or `None` if the list has no such
-- bound.
abbrev pub greatest_bound_in : List Bound → ℕ → Option ℕ
greatest_bound_in bounds from = greatest_bound_from None bounds from

-- The number of modes of kind `kind`, or 0 if there is no such kind. The modes are numbered from 1.
unfoldable pub modes_of_kind : ℕ → ℕ
modes_of_kind kind = slice_index_or (2 ∷ 2 ∷ 3 ∷ 2 ∷ 2 ∷ 3 ∷ []) kind 0

-- The list has at least `low` and at most `high` items.
pub record HasLength {A : Type 0} (low high : ℕ) (xs : List A) : Type 0 where
  pub enough : low ≤ length xs
  pub few : length xs ≤ high

-- Each item of the list satisfies the property.
abbrev pub Each : {A : Type 0} → (A → Type 0) → List A → Type 0
Each {A} Fact xs = (i : ℕ) (x : A) → slice_get xs i ≡ Some x → Fact x

-- No two items of the list have the same name.
abbrev pub NamesDiffer : {A : Type 0} → (A → List ℕ) → List A → Type 0
NamesDiffer {A} name xs =
    (i j : ℕ) (x y : A) → slice_get xs i ≡ Some x → slice_get xs j ≡ Some y → name x ≡ name y → i ≡ j

-- The name of each item of the list is a valid name.
abbrev pub AreSpelled : {A : Type 0} → (A → List ℕ) → List A → Type 0
AreSpelled {A} name xs = Each (λ (x : A). IsTrue (is_name (name x))) xs

-- The name of each value of the factor is a valid name.
abbrev pub HasValueNames : Factor → Type 0
HasValueNames factor = AreSpelled (λ (value : List ℕ). value) factor.values

-- Each name in the specification is a valid name.
pub record HasNames (spec : Parts) : Type 0 where
  pub procs : AreSpelled (λ (proc : Proc). proc.name) spec.procs
  pub apps : AreSpelled (λ (app : AppSpec). app.name) spec.apps
  pub confs : AreSpelled (λ (conf : Conf). conf.name) spec.confs
  pub factors : AreSpelled (λ (factor : Factor). factor.name) spec.factors
  pub values : Each HasValueNames spec.factors
  pub demands : AreSpelled (λ (demand : Demand). demand.name) spec.demands

-- The capacity of the processor is at most 1,000,000 load units.
pub record IsProc (proc : Proc) : Type 0 where
  pub capacity : proc.capacity ≤ 1000000

-- The phase takes 1 to 16 frames.
pub record IsPhase (frames : ℕ) : Type 0 where
  pub least : 1 ≤ frames
  pub most : frames ≤ 16

-- The listed mode is a mode of the kind, and its load and the lengths of its phases are within their ranges.
pub record IsModeSpec (kind : ℕ) (listed : ModeSpec) : Type 0 where
  pub on : 1 ≤ listed.mode.0
  pub of_kind : listed.mode.0 ≤ modes_of_kind kind
  pub load : listed.load ≤ 1000000
  pub halt : IsPhase listed.halt
  pub prepare : IsPhase listed.prepare
  pub init : IsPhase listed.init

-- The needed application exists, and its rank is lower than the rank of the application that needs it.
pub record IsNeeded (apps : List AppSpec) (app : AppSpec) (needed : AppId) : Type 0 where
  pub lower : AppSpec
  pub there : slice_get apps needed.0 ≡ Some lower
  pub falls : lower.rank < app.rank

-- The application has one of the six kinds and a rank below 8. It lists one to three valid modes. It needs at most
-- eight applications, each of lower rank.
pub record IsAppSpec (apps : List AppSpec) (app : AppSpec) : Type 0 where
  pub kind : app.kind.0 < 6
  pub rank : app.rank < 8
  pub few_needs : length app.needs ≤ 8
  pub needs : Each (IsNeeded apps app) app.needs
  pub count : HasLength 1 3 app.modes
  pub modes : Each (IsModeSpec app.kind.0) app.modes

-- The place of application `a` is on a processor that exists and in a mode that `a` lists.
pub record IsPlace (procs : List Proc) (apps : List AppSpec) (a : ℕ) (place : Place) : Type 0 where
  pub on : place.proc.0 < length procs
  pub app : AppSpec
  pub there : slice_get apps a ≡ Some app
  pub listed : IsSome (mode_in app.modes place.mode.0)

-- The configuration has eight entries, each either `None` or a valid place.
pub record IsConf (procs : List Proc) (apps : List AppSpec) (conf : Conf) : Type 0 where
  pub width : length conf.places ≡ 8
  pub places : (a : ℕ) (place : Place) → place_in conf a ≡ Some place → IsPlace procs apps a place

-- The factor has two to four values, and no two of its values have the same name.
pub record IsFactor (factor : Factor) : Type 0 where
  pub count : HasLength 2 4 factor.values
  pub differ : NamesDiffer (λ (name : List ℕ). name) factor.values

-- The configuration `c` exists.
abbrev pub IsIn : List Conf → ConfId → Type 0
IsIn confs c = c.0 < length confs

-- The configuration `c` exists, or `c` is `None`.
abbrev pub IsInIfNamed : List Conf → Option ConfId → Type 0
IsInIfNamed confs c = IfSome c (IsIn confs)

-- The factor of the requirement exists, and the required value is one of the factor's values.
pub record IsWant (factors : List Factor) (want : Want) : Type 0 where
  pub factor : Factor
  pub there : slice_get factors want.factor.0 ≡ Some factor
  pub value : want.value < length factor.values

-- The rule of the choice table has at most six requirements, and refers only to configurations, values and processors
-- that exist.
pub record IsChoice (procs : List Proc) (confs : List Conf) (factors : List Factor) (rule : Choice) : Type 0 where
  pub from : IsInIfNamed confs rule.from
  pub few : length rule.wants ≤ 6
  pub wants : Each (IsWant factors) rule.wants
  pub up : rule.up < 2 ^ length procs
  pub to : IsIn confs rule.to

-- The bound is between configurations that exist and is 1 to 1,000 frames.
pub record IsBound (confs : List Conf) (bound : Bound) : Type 0 where
  pub from : IsIn confs bound.from
  pub to : IsIn confs bound.to
  pub least : 1 ≤ bound.frames
  pub most : bound.frames ≤ 1000

-- The altitude of the goal is 0 to 40,000 feet, and its heading is 0 to 3,599 tenths of a degree.
pub record IsGoal (goal : Goal) : Type 0 where
  pub lowest : pos 0 ≤ℤ goal.altitude
  pub highest : goal.altitude ≤ℤ pos 40000
  pub first : pos 0 ≤ℤ goal.heading
  pub last : goal.heading ≤ℤ pos 3599

-- The interval is for one of the eight variables of an application that exists, and its ends are within 1,000,000,000
-- of 0.
pub record IsInterval (apps : List AppSpec) (app : AppId) (variable : ℕ) (low high : ℤ) : Type 0 where
  pub there : app.0 < length apps
  pub is_variable : variable ≤ 7
  pub low_least : minus 1000000000 ≤ℤ low
  pub low_most : low ≤ℤ pos 1000000000
  pub high_least : minus 1000000000 ≤ℤ high
  pub high_most : high ≤ℤ pos 1000000000

-- The invariant is for one configuration that exists or for every configuration, and its interval is valid.
pub record IsInvariant (apps : List AppSpec) (confs : List Conf) (inv : Invariant) : Type 0 where
  pub from : IsInIfNamed confs inv.from
  pub interval : IsInterval apps inv.app inv.variable inv.least inv.greatest

-- The precondition is for a configuration that exists, and its interval is valid.
pub record IsPrecondition (apps : List AppSpec) (confs : List Conf) (pre : Precondition) : Type 0 where
  pub conf : IsIn confs pre.conf
  pub interval : IsInterval apps pre.app pre.variable pre.least pre.greatest

-- Application `a`, which a demand requires to be on, exists and lists each mode that the demand allows. There are at
-- most three such modes, and no mode is listed twice.
pub record IsOn (apps : List AppSpec) (a : ℕ) (modes : List Mode) : Type 0 where
  pub app : AppSpec
  pub there : slice_get apps a ≡ Some app
  pub few : length modes ≤ 3
  pub listed : Each (λ (mode : Mode). IsSome (mode_in app.modes mode.0)) modes
  pub differ : (i j : ℕ) (m n : Mode) → slice_get modes i ≡ Some m → slice_get modes j ≡ Some n → m.0 ≡ n.0 → i ≡ j

-- The demand has at most six requirements, and refers only to configurations, values, processors and applications
-- that exist. It does not require a processor to be both up and down, or an application to be both on and off.
pub record IsDemand (procs : List Proc) (apps : List AppSpec) (confs : List Conf) (factors : List Factor) (demand : Demand) : Type 0 where
  pub from : demand.from < 2 ^ length confs
  pub few : length demand.wants ≤ 6
  pub wants : Each (IsWant factors) demand.wants
  pub up : demand.up < 2 ^ length procs
  pub down : demand.down < 2 ^ length procs
  pub apart : (p : ℕ) → has_bit demand.up p ≡ true → has_bit demand.down p ≡ false
  pub to : demand.to < 2 ^ length confs
  pub width : length demand.on ≡ 8
  pub on : (a : ℕ) (modes : List Mode) → modes_on demand a ≡ Some modes → IsOn apps a modes
  pub off : demand.off < 2 ^ length apps
  pub one : (a : ℕ) → has_bit demand.off a ≡ true → modes_on demand a ≡ None

-- The invariant of every specification: each name is valid and differs from the other names of its class, each count
-- and number is within its limits, and each reference is to something that the specification defines.
pub record IsSpec (spec : Parts) : Type 0 where
  pub names : HasNames spec
  pub procs_count : HasLength 1 8 spec.procs
  pub procs_differ : NamesDiffer (λ (proc : Proc). proc.name) spec.procs
  pub procs : Each IsProc spec.procs
  pub apps_count : HasLength 1 8 spec.apps
  pub apps_differ : NamesDiffer (λ (app : AppSpec). app.name) spec.apps
  pub apps : Each (IsAppSpec spec.apps) spec.apps
  pub confs_count : HasLength 1 12 spec.confs
  pub confs_differ : NamesDiffer (λ (conf : Conf). conf.name) spec.confs
  pub confs : Each (IsConf spec.procs spec.apps) spec.confs
  pub factors_count : length spec.factors ≤ 6
  pub factors_differ : NamesDiffer (λ (factor : Factor). factor.name) spec.factors
  pub factors : Each IsFactor spec.factors
  pub rules_count : length spec.rules ≤ 64
  pub rules : Each (IsChoice spec.procs spec.confs spec.factors) spec.rules
  pub bounds_count : length spec.bounds ≤ 144
  pub bounds : Each (IsBound spec.confs) spec.bounds
  pub start : IsIn spec.confs spec.start
  pub goal : IsGoal spec.goal
  pub invariants_count : length spec.invariants ≤ 64
  pub invariants : Each (IsInvariant spec.apps spec.confs) spec.invariants
  pub preconditions_count : length spec.preconditions ≤ 64
  pub preconditions : Each (IsPrecondition spec.apps spec.confs) spec.preconditions
  pub demands_count : length spec.demands ≤ 64
  pub demands_differ : NamesDiffer (λ (demand : Demand). demand.name) spec.demands
  pub demands : Each (IsDemand spec.procs spec.apps spec.confs spec.factors) spec.demands
  pub halts : spec.halts ≤ 8
  pub changes : spec.changes ≤ 16
  pub window_least : 1 ≤ spec.window
  pub window_most : spec.window ≤ 1000
