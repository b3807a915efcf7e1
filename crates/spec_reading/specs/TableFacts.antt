-- Facts about configurations, rules, bounds and intervals as they are read.
use Rattle.std.specs.Prelude.{◌≡◌, ◌<◌, ◌≤◌, ◌≤ℤ◌, ◌^◌, ℕ, pos, false, true, List, [], ◌∷◌, ◌++◌, length, set, slice_get, Option, Some, None, IsSome}
use Rattle.scram_types.specs.declared.specification.Proc.{Proc}
use Rattle.scram_types.specs.declared.specification.AppSpec.{AppSpec}
use Rattle.scram_types.specs.declared.specification.Place.{Place}
use Rattle.scram_types.specs.declared.specification.Conf.{Conf}
use Rattle.scram_types.specs.declared.specification.Factor.{Factor}
use Rattle.scram_types.specs.declared.specification.Want.{Want}
use Rattle.scram_types.specs.declared.specification.Choice.{Choice}
use Rattle.scram_types.specs.declared.specification.Bound.{Bound}
use Rattle.scram_types.specs.declared.specification.Invariant.{Invariant}
use Rattle.scram_types.specs.declared.specification.Precondition.{Precondition}
use Rattle.scram_types.specs.declared.ids.Mode.{Mode}
use Rattle.scram_types.specs.declared.demands.Demand.{Demand}
use Rattle.scram_types.specs.Bits.{has_bit}
use Rattle.scram_types.specs.ModeLists.{is_among}
use Rattle.scram_types.specs.Specification.{IsPlace, IsWant, IsBound, IsIn, IsInIfNamed, mode_in, bound_in}
use Rattle.scram_types.specs.Numbers.{minus}
use Rattle.kind_table.specs.Names.{variable_names, number_in}
use Rattle.spec_reading.specs.declared.demands.Requirements.{Requirements}
use Rattle.spec_reading.specs.declared.intervals.Ends.{Ends}
use Rattle.spec_reading.specs.declared.intervals.Interval.{Interval}
use Rattle.scram_doc.specs.Lists.{AllAfter}
use Rattle.spec_reading.specs.Names.{name_of_conf, name_of_demand}
use Rattle.spec_reading.specs.Choices.{wants_factor}
use Rattle.spec_reading.specs.Configurations.{given}
use Rattle.spec_reading.specs.Facts.{IsFresh}

-- There is an application, and it lists the mode.
pub record ListsMode (found : Option AppSpec) (mode : ℕ) : Type 0 where
  pub app : AppSpec
  pub there : found ≡ Some app
  pub listed : IsSome (mode_in app.modes mode)

-- The list `more` is the list `places` with a valid place for one application.
pub record IsPlacedAfter (procs : List Proc) (apps : List AppSpec) (places more : List (Option Place)) : Type 0 where
  pub app : ℕ
  pub place : Place
  pub is : IsPlace procs apps app place
  pub set : more ≡ set places app (Some place)

-- Each place is on a processor that exists, and in a mode that its application lists.
abbrev pub ArePlaces : List Proc → List AppSpec → List (Option Place) → Type 0
ArePlaces procs apps places = (a : ℕ) (place : Place) → given places a ≡ Some place → IsPlace procs apps a place

-- Each place of the configuration is valid, and no configuration before it has its name.
pub record IsNewConf (procs : List Proc) (apps : List AppSpec) (done : List Conf) (conf : Conf) : Type 0 where
  pub name : IsFresh name_of_conf done conf.name
  pub width : length conf.places ≡ 8
  pub places : ArePlaces procs apps conf.places

-- The required value exists, and no required value before it is of the same factor.
pub record IsNewWant (factors : List Factor) (done : List Want) (want : Want) : Type 0 where
  pub new : wants_factor done want.factor.0 ≡ false
  pub is : IsWant factors want

-- Each item that the rule refers to exists. The rule has at most six required values, each of a different factor.
pub record FitsChoice (procs : List Proc) (confs : List Conf) (factors : List Factor) (rule : Choice) : Type 0 where
  pub from : IsInIfNamed confs rule.from
  pub few : length rule.wants ≤ 6
  pub wants : AllAfter (IsNewWant factors) rule.wants
  pub up : rule.up < 2 ^ length procs
  pub to : IsIn confs rule.to

-- The bound is valid, and no bound before it is for the same pair of configurations.
pub record IsNewBound (confs : List Conf) (done : List Bound) (bound : Bound) : Type 0 where
  pub new : bound_in done bound.from.0 bound.to.0 ≡ None
  pub is : IsBound confs bound

-- There is a factor, and it has a value of this number.
pub record HasValue (found : Option Factor) (value : ℕ) : Type 0 where
  pub factor : Factor
  pub there : found ≡ Some factor
  pub below : value < length factor.values

-- There is an application, and its kind has a variable of this number.
pub record IsVariable (found : Option AppSpec) (variable : ℕ) : Type 0 where
  pub app : AppSpec
  pub there : found ≡ Some app
  pub text : List ℕ
  pub named : number_in (variable_names app.kind.0) text ≡ Some variable

-- The interval between the ends is not empty, and it is within the limits.
pub record FitsEnds (ends : Ends) : Type 0 where
  pub low_least : minus 1000000000 ≤ℤ ends.least
  pub in_order : ends.least ≤ℤ ends.greatest
  pub high_most : ends.greatest ≤ℤ pos 1000000000

-- The interval is not empty, and it is for a variable that the application's kind has.
pub record FitsInterval (apps : List AppSpec) (interval : Interval) : Type 0 where
  pub there : interval.app.0 < length apps
  pub is_variable : IsVariable (slice_get apps interval.app.0) interval.variable
  pub ends_fit : FitsEnds interval.ends

-- Each item that the invariant refers to exists, and its interval is valid.
pub record FitsInvariant (apps : List AppSpec) (confs : List Conf) (inv : Invariant) : Type 0 where
  pub from : IsInIfNamed confs inv.from
  pub interval : FitsInterval apps (record { app = inv.app; variable = inv.variable; ends = record { least = inv.least; greatest = inv.greatest } })

-- Each item that the precondition refers to exists, and its interval is valid.
pub record FitsPrecondition (apps : List AppSpec) (confs : List Conf) (pre : Precondition) : Type 0 where
  pub conf : IsIn confs pre.conf
  pub interval : FitsInterval apps (record { app = pre.app; variable = pre.variable; ends = record { least = pre.least; greatest = pre.greatest } })

-- No number is in both sets.
abbrev pub IsApart : ℕ → ℕ → Type 0
IsApart set other = (n : ℕ) → has_bit set n ≡ true → has_bit other n ≡ false

-- The application lists the mode, and the mode is not among the modes before it.
pub record IsNewOn (found : Option AppSpec) (done : List Mode) (mode : Mode) : Type 0 where
  pub listed : ListsMode found mode.0
  pub new : is_among done mode.0 ≡ false

-- The list `more` is the list `modes` with one mode appended. The application lists this mode, and the mode is not in
-- `modes`.
pub record HasMoreModes (found : Option AppSpec) (modes more : List Mode) : Type 0 where
  pub mode : Mode
  pub new : IsNewOn found modes mode
  pub behind : more ≡ modes ++ mode ∷ []

-- There is an application, and it lists each of at most three different modes.
pub record ListsModes (found : Option AppSpec) (modes : List Mode) : Type 0 where
  pub app : AppSpec
  pub there : found ≡ Some app
  pub few : length modes ≤ 3
  pub each : AllAfter (IsNewOn found) modes

-- Each application that must be on exists and lists the modes that are allowed for it.
abbrev pub AreOn : List AppSpec → List (Option (List Mode)) → Type 0
AreOn apps on = (a : ℕ) (modes : List Mode) → given on a ≡ Some modes → ListsModes (slice_get apps a) modes

-- The list `on` has the modes of each application that must be on. `more` is `on` with the modes of one application,
-- which lists them.
pub record IsOnAfter (apps : List AppSpec) (on more : List (Option (List Mode))) : Type 0 where
  pub app : ℕ
  pub modes : List Mode
  pub lists : ListsModes (slice_get apps app) modes
  pub set : more ≡ set on app (Some modes)

-- Each item that the requirements refer to exists. No processor is required to be both up and down, and no
-- application is required to be both on and off.
pub record FitsRequirements (procs : List Proc) (apps : List AppSpec) (confs : List Conf) (asked : Requirements) : Type 0 where
  pub up : asked.up < 2 ^ length procs
  pub down : asked.down < 2 ^ length procs
  pub down_apart : IsApart asked.down asked.up
  pub to : asked.to < 2 ^ length confs
  pub width : length asked.on ≡ 8
  pub on : AreOn apps asked.on
  pub off : asked.off < 2 ^ length apps
  pub off_apart : (a : ℕ) → has_bit asked.off a ≡ true → given asked.on a ≡ None

-- Each item that the demand refers to exists, and no demand before it has its name.
pub record IsNewDemand (procs : List Proc) (apps : List AppSpec) (confs : List Conf) (factors : List Factor) (done : List Demand)
    (demand : Demand) : Type 0 where
  pub name : IsFresh name_of_demand done demand.name
  pub from : demand.from < 2 ^ length confs
  pub few : length demand.wants ≤ 6
  pub wants : AllAfter (IsNewWant factors) demand.wants
  pub asked : FitsRequirements procs apps confs (record { up = demand.up; down = demand.down; to = demand.to; on = demand.on; off = demand.off })
