-- Definitions for the areas of a course: the act that wrote an area last, the laws of areas, invariants and
-- preconditions.
use Rattle.std.specs.Prelude.{◌≡◌, ℕ, zero, suc, ◌<◌, ◌≤◌, ◌⊎◌, Bool, true, List, ℤ, Option, Some, None}
use Rattle.trace_props.proofs.Plans.{Plan, IsAcceptedPlan, IsPlanTarget}
use Rattle.trace_props.proofs.Courses.{Course, CourseReading.Leaving, CourseReport, course_reading_before, course_report_at, IsCourseWithin}
use Rattle.scram_types.specs.declared.specification.Place.{Place}
use Rattle.trace_props.proofs.CourseRows.{CourseAct, CourseAct.Ran, CourseAct.Halted, CourseAct.Held, CourseAct.Prepared, CourseAct.Initialised, CourseAct.WasOff, CourseAct.Lost, Build, course_acts_at, IsBuilt, IsRun}

abbrev pub CourseArea : Type 0
CourseArea = List ℤ

-- The act that wrote an area last. A start area counts as initialised.
pub data Written : Type 0 where
  DidRun : Place → Written
  DidHalt : Place → Written
  DidPrepare : Place → Written
  DidInit : Place → Written
  Zeros : Written

abbrev pub written_after : CourseAct → Written → Written
written_after (Ran p) w = DidRun p
written_after (Halted k n p) w = DidHalt p
written_after Held w = w
written_after (Prepared k n p) w = DidPrepare p
written_after (Initialised k n p) w = DidInit p
written_after WasOff w = Zeros
written_after Lost w = w

abbrev pub opening_written : Option Place → Written
opening_written None = Zeros
opening_written (Some p) = DidInit p

abbrev pub written_by : (ℕ → CourseAct) → Written → ℕ → Written
written_by acts w zero = w
written_by acts w (suc f) = written_after (acts f) (written_by acts w f)

-- The laws of areas. `lies a w v` is `true` if area `v` of application `a` lies in the ranges of its writer `w`.
-- `initialised a p v` is `true` if area `v` of application `a` lies in the ranges after a whole initialisation at
-- `p`.
pub record AreaLaws : Type 0 where
  pub lies : ℕ → Written → CourseArea → Bool
  pub initialised : ℕ → Place → CourseArea → Bool

abbrev pub IsAreaFilled : AreaLaws → ℕ → CourseAct → CourseArea → CourseArea → Type 0
IsAreaFilled laws a (Ran p) old new = laws.lies a (DidRun p) new ≡ true
IsAreaFilled laws a (Halted k n p) old new = laws.lies a (DidHalt p) new ≡ true
IsAreaFilled laws a Held old new = new ≡ old
IsAreaFilled laws a (Prepared k n p) old new = laws.lies a (DidPrepare p) new ≡ true
IsAreaFilled laws a (Initialised k n p) old new = (laws.lies a (DidInit p) new ≡ true) × (suc k ≡ n → laws.initialised a p new ≡ true)
IsAreaFilled laws a WasOff old new = laws.lies a Zeros new ≡ true
IsAreaFilled laws a Lost old new = new ≡ old

-- The start areas lie in the ranges of their first writers, and each act fills its area as the laws require. `area f
-- a` is the area of application `a` after `f` frames.
pub record AreAreasFilled (plan : Plan) (build : Build) (course : Course) (commits : ℕ → ℕ → Bool) (laws : AreaLaws) (area : ℕ → ℕ → CourseArea) : Type 0 where
  pub opens : (a : ℕ) → a < build.apps → laws.lies a (opening_written (build.place plan.start a)) (area 0 a) ≡ true
  pub writes : (f a : ℕ) → f < course.frames → a < build.apps → IsAreaFilled laws a (course_acts_at plan build course commits f a) (area f a) (area (suc f) a)

pub record CourseInvariant : Type 0 where
  pub source : Option ℕ
  pub app : ℕ
  pub holds : CourseArea → Bool

pub record CoursePrecondition : Type 0 where
  pub conf : ℕ
  pub app : ℕ
  pub holds : CourseArea → Bool

abbrev pub SpeaksOfSource : Option ℕ → ℕ → Type 0
SpeaksOfSource None i = Unit {0}
SpeaksOfSource (Some c) i = c ≡ i

-- Application `a` has the place `o` in some possible target of `i`.
abbrev pub IsPlacedInTarget : Plan → Build → ℕ → ℕ → Option Place → Type 0
IsPlacedInTarget plan build i a o = (j : ℕ) × IsPlanTarget plan i j × (build.place j a ≡ o)

abbrev pub IsPlacedInEither : Plan → Build → ℕ → ℕ → Option Place → Type 0
IsPlacedInEither plan build i a o = (build.place i a ≡ o) ⊎ IsPlacedInTarget plan build i a o

-- The ranges of writer `w` are among the ranges that an invariant for source `i` has to hold.
abbrev pub IsListed : Plan → Build → ℕ → ℕ → Written → Type 0
IsListed plan build i a (DidRun p) = IsPlacedInEither plan build i a (Some p)
IsListed plan build i a (DidHalt p) = IsPlacedInEither plan build i a (Some p)
IsListed plan build i a (DidPrepare p) = IsPlacedInTarget plan build i a (Some p)
IsListed plan build i a (DidInit p) = IsPlacedInEither plan build i a (Some p)
IsListed plan build i a Zeros = IsPlacedInEither plan build i a None

-- The invariant's interval holds each listed range.
pub record HoldsListedRanges (plan : Plan) (build : Build) (laws : AreaLaws) (inv : CourseInvariant) : Type 0 where
  pub app_in : inv.app < build.apps
  pub holds_listed : (i : ℕ) (w : Written) (v : CourseArea) → i < plan.configurations → SpeaksOfSource inv.source i → IsListed plan build i inv.app w → laws.lies inv.app w v ≡ true → inv.holds v ≡ true

-- The precondition's interval holds the range after a whole initialisation, or zeros if the application is off.
pub record HoldsInitialisedRange (build : Build) (laws : AreaLaws) (pre : CoursePrecondition) : Type 0 where
  pub app_in : pre.app < build.apps
  pub holds_on : (p : Place) (v : CourseArea) → build.place pre.conf pre.app ≡ Some p → laws.initialised pre.app p v ≡ true → pre.holds v ≡ true
  pub holds_off : (v : CourseArea) → build.place pre.conf pre.app ≡ None → laws.lies pre.app Zeros v ≡ true → pre.holds v ≡ true

-- SP4 over a course: reconfigurations keep their invariants and meet the preconditions of their targets.
pub record AreasKept (plan : Plan) (build : Build) (course : Course) (laws : AreaLaws) (area : ℕ → ℕ → CourseArea) : Type 0 where
  pub throughout : (f : ℕ) (r : CourseReport) (inv : CourseInvariant) (g : ℕ) → f < course.frames → course_report_at plan course f ≡ Some r → HoldsListedRanges plan build laws inv → SpeaksOfSource inv.source r.from
      → r.begin ≤ g → g ≤ r.end → inv.holds (area (suc g) inv.app) ≡ true
  pub cut_off : (c s : ℕ) (inv : CourseInvariant) (g : ℕ) → course_reading_before plan course course.frames ≡ Leaving c s → HoldsListedRanges plan build laws inv → SpeaksOfSource inv.source c
      → s ≤ g → g < course.frames → inv.holds (area (suc g) inv.app) ≡ true
  pub ready : (f : ℕ) (r : CourseReport) (pre : CoursePrecondition) → f < course.frames → course_report_at plan course f ≡ Some r → HoldsInitialisedRange build laws pre → pre.conf ≡ r.to → pre.holds (area r.end pre.app) ≡ true

abbrev pub KeepsAreas : Type 0
KeepsAreas = (plan : Plan) (build : Build) (course : Course) (commits : ℕ → ℕ → Bool) (laws : AreaLaws) (area : ℕ → ℕ → CourseArea)
    → IsAcceptedPlan plan → IsBuilt plan build → IsCourseWithin plan course → IsRun plan build course commits → AreAreasFilled plan build course commits laws area → AreasKept plan build course laws area
