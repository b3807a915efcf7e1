-- The laws of the family of fault scripts: its members and their order.
use Rattle.std.specs.Prelude.{◌≡◌, ◌⊎◌, ℕ, ◌+◌, ◌<◌, ◌≤◌, true, List, [], ◌∷◌, ◌++◌, length, slice_get, Option, Some, None, ⊤}
use Rattle.scram_types.specs.declared.specification.Factor.{Factor}
use Rattle.scram_types.specs.Specification.{IsSpec, Parts}
use Rattle.coverage_check.specs.Acceptance.{Accepts}
use Rattle.coverage_check.specs.Timing.{greatest_bound}
use Rattle.fault_script.specs.Assumption.{IsWithin}
use Rattle.fault_script.specs.Fits.{EachLater, Fits}
use Rattle.fault_script.specs.Orders.{last_of}
use Rattle.fault_script.specs.Times.{words}
use Rattle.fault_family.specs.declared.faults.Fault.{Fault}
use Rattle.fault_family.specs.declared.faults.FaultKind.{FaultKind}
use Rattle.fault_family.specs.declared.faults.FaultKind.TheVariants.{Change, Halt, Restart}
use Rattle.fault_family.specs.Families.{family, may_follow}
use Rattle.fault_family.specs.Faults.{precedes}
use Rattle.fault_family.specs.Scripts.{script_of_faults}

-- The factor exists and has a value with index `value`.
pub record IsChangeKind (spec : Parts) (factor value : ℕ) : Type 0 where
  pub is : Factor
  pub there : slice_get spec.factors factor ≡ Some is
  pub below : value < length is.values

-- The processor exists, and the halt comes before all stores or after the mark.
pub record IsHaltKind (spec : Parts) (proc step : ℕ) : Type 0 where
  pub there : proc < length spec.procs
  pub moment : (step ≡ 0) ⊎ (step ≡ words spec + 1)

-- The kind of fault is one of the specification's: a change of a factor to one of its values, a halt of a processor, or
-- a restart of a processor. The halt comes before all stores of a frame or after the mark.
abbrev pub IsKind : Parts → FaultKind → Type 0
IsKind spec (Change factor value) = IsChangeKind spec factor.0 value
IsKind spec (Halt proc step) = IsHaltKind spec proc.0 step
IsKind spec (Restart proc) = proc.0 < length spec.procs

-- A fault may come in frame `frame` after an optional last fault. Without a last fault, the frame is 1. Otherwise the
-- number of frames from the last fault to `frame` is at most the greatest bound plus one, or equals the window plus
-- one.
abbrev pub IsNear : Parts → Option Fault → ℕ → Type 0
IsNear spec None frame = frame ≡ 1
IsNear spec (Some last) frame =
    ((last.frame ≤ frame) × (frame ≤ last.frame + greatest_bound spec.bounds + 1)) ⊎ (frame ≡ last.frame + (spec.window + 1))

-- A fault may be the next after a list of faults. Its kind is one of the specification's, its frame is one of the
-- allowed frames, and it may follow the list.
pub record IsNextFault (spec : Parts) (before : List Fault) (fault : Fault) : Type 0 where
  pub kind : IsKind spec fault.kind
  pub near : IsNear spec (last_of before) fault.frame
  pub follows : may_follow spec before fault ≡ true

-- Each fault of the second list may be the next after the first list and the faults of the second list that precede
-- it.
abbrev pub Follow : Parts → List Fault → List Fault → Type 0
Follow spec before [] = ⊤
Follow spec before (fault ∷ faults) = IsNextFault spec before fault × Follow spec (before ++ fault ∷ []) faults

-- The list of faults is a member of the family. It contains `count` faults, each of which may be the next after the
-- preceding faults. The script of the faults keeps the failure assumption.
pub record IsMember (spec : Parts) (count : ℕ) (faults : List Fault) : Type 0 where
  pub many : length faults ≡ count
  pub follow : Follow spec [] faults
  pub within : IsWithin spec (script_of_faults spec faults)

-- A list contains an element.
abbrev pub Contains : {A : Type 0} → List A → A → Type 0
Contains {A} xs x = (i : ℕ) × (slice_get xs i ≡ Some x)

-- The family contains a list of faults if and only if the list satisfies `IsMember`.
pub record HasMembers (spec : Parts) (count : ℕ) (faults : List Fault) : Type 0 where
  pub sound : Contains (family spec count) faults → IsMember spec count faults
  pub complete : IsMember spec count faults → Contains (family spec count) faults

-- For each specification and each number of faults, the family contains exactly the lists of faults that satisfy
-- `IsMember`.
abbrev pub FamiliesHaveMembers : Type 0
FamiliesHaveMembers = (spec : Parts) (count : ℕ) (faults : List Fault) → HasMembers spec count faults

-- The script of a member with at most three faults fits the specification.
abbrev pub MembersFit : Type 0
MembersFit = (spec : Parts) (count : ℕ) (faults : List Fault) → IsSpec spec → count ≤ 3 → IsMember spec count faults
    → Fits spec (script_of_faults spec faults)

-- The first list of faults comes before the second. At the first position at which the lists differ, the fault of the
-- first list precedes the fault of the second list.
pub data ComesFirst : List Fault → List Fault → Type 0 where
  here : (fault next : Fault) (faults others : List Fault) → precedes fault next ≡ true → ComesFirst (fault ∷ faults) (next ∷ others)
  further : (fault : Fault) (faults others : List Fault) → ComesFirst faults others → ComesFirst (fault ∷ faults) (fault ∷ others)

-- The lists of faults are in order, and no list occurs twice.
pub record AreInOrder (all : List (List Fault)) : Type 0 where
  pub ordered : EachLater ComesFirst all
  pub once : EachLater (λ (faults others : List Fault). faults ≡ others → ⊥) all

-- The members of the family of an accepted specification are in order.
abbrev pub FamiliesAreOrdered : Type 0
FamiliesAreOrdered = (spec : Parts) (count : ℕ) → IsSpec spec → Accepts spec → AreInOrder (family spec count)
