-- The scripts that fit a specification.
use Rattle.std.specs.Prelude.{◌≡◌, ◌⊎◌, ℕ, ◌+◌, ◌<◌, ◌≤◌, List, length, slice_get, Some}
use Rattle.scram_types.specs.declared.limits.TheConstants.{MAX_CHANGES, MAX_FRAMES}
use Rattle.scram_types.specs.declared.scripts.Change.{Change}
use Rattle.scram_types.specs.declared.scripts.HaltAt.{HaltAt}
use Rattle.scram_types.specs.declared.scripts.RestartAt.{RestartAt}
use Rattle.scram_types.specs.declared.specification.Factor.{Factor}
use Rattle.scram_types.specs.Scripts.{ScriptParts}
use Rattle.scram_types.specs.Specification.{Each, Parts}
use Rattle.fault_script.specs.Times.{words}

-- A change is in a frame after frame 0 and before frame `frames`. Its factor exists and has a value with the index
-- that the change sets.
pub record IsChange (spec : Parts) (frames : ℕ) (change : Change) : Type 0 where
  pub least : 1 ≤ change.frame
  pub most : change.frame < frames
  pub factor : Factor
  pub there : slice_get spec.factors change.factor.0 ≡ Some factor
  pub value : change.value < length factor.values

-- A halt is of a processor that exists, in a frame of the script. Its step is a number of stores, at most the number
-- of words of an image, or one more for a halt after the mark.
pub record IsHalt (spec : Parts) (frames : ℕ) (halt : HaltAt) : Type 0 where
  pub proc : halt.proc.0 < length spec.procs
  pub frame : halt.frame < frames
  pub step : halt.step ≤ words spec + 1

-- A restart is of a processor that exists, in frame 2 or a later frame of the script.
pub record IsRestart (spec : Parts) (frames : ℕ) (restart : RestartAt) : Type 0 where
  pub proc : restart.proc.0 < length spec.procs
  pub least : 2 ≤ restart.frame
  pub most : restart.frame < frames

-- A pair of a frame and a number comes before another pair, in the order by frame and then by number.
abbrev pub Before : ℕ → ℕ → ℕ → ℕ → Type 0
Before frame number next_frame next_number = (frame < next_frame) ⊎ ((frame ≡ next_frame) × (number < next_number))

-- A relation holds for each item of a list and the next one.
abbrev pub EachNext : {A : Type 0} → (A → A → Type 0) → List A → Type 0
EachNext {A} R xs = (i : ℕ) (x y : A) → slice_get xs i ≡ Some x → slice_get xs (i + 1) ≡ Some y → R x y

-- A relation holds for each item of a list and each later one.
abbrev pub EachLater : {A : Type 0} → (A → A → Type 0) → List A → Type 0
EachLater {A} R xs = (i j : ℕ) (x y : A) → i < j → slice_get xs i ≡ Some x → slice_get xs j ≡ Some y → R x y

-- One change comes before another, by frame and then by factor.
abbrev pub ChangeBefore : Change → Change → Type 0
ChangeBefore a b = Before a.frame a.factor.0 b.frame b.factor.0

-- One halt comes before another, by frame and then by processor.
abbrev pub HaltBefore : HaltAt → HaltAt → Type 0
HaltBefore a b = Before a.frame a.proc.0 b.frame b.proc.0

-- One restart comes before another, by frame and then by processor.
abbrev pub RestartBefore : RestartAt → RestartAt → Type 0
RestartBefore a b = Before a.frame a.proc.0 b.frame b.proc.0

-- Processor `p` halts two frames or more before frame `f`.
pub record HaltsWellBefore (halts : List HaltAt) (p f : ℕ) : Type 0 where
  pub place : ℕ
  pub halt : HaltAt
  pub there : slice_get halts place ≡ Some halt
  pub proc : halt.proc.0 ≡ p
  pub frame : halt.frame + 2 ≤ f

-- Processor `p` restarts in frame `f` or an earlier one.
pub record RestartsBy (restarts : List RestartAt) (p f : ℕ) : Type 0 where
  pub place : ℕ
  pub restart : RestartAt
  pub there : slice_get restarts place ≡ Some restart
  pub proc : restart.proc.0 ≡ p
  pub frame : restart.frame ≤ f

-- No three halts of a list are of the same processor.
abbrev pub AtMostTwice : List HaltAt → Type 0
AtMostTwice halts = (i j k : ℕ) (x y z : HaltAt) → i < j → j < k
    → slice_get halts i ≡ Some x → slice_get halts j ≡ Some y → slice_get halts k ≡ Some z
    → x.proc.0 ≡ y.proc.0 → x.proc.0 ≡ z.proc.0 → ⊥

-- A script fits a specification. The names in it exist, its numbers and lengths are in range, and its lists are in
-- order. A processor restarts at most once, two frames or more after one of its halts. A processor halts at most
-- twice. Its second halt does not come before its restart.
pub record Fits (spec : Parts) (script : ScriptParts) : Type 0 where
  pub frames : script.frames ≤ MAX_FRAMES
  pub changes_count : length script.changes ≤ MAX_CHANGES
  pub changes : Each (IsChange spec script.frames) script.changes
  pub changes_ordered : EachNext ChangeBefore script.changes
  pub halts_count : length script.halts ≤ 16
  pub halts : Each (IsHalt spec script.frames) script.halts
  pub halts_ordered : EachNext HaltBefore script.halts
  pub restarts_count : length script.restarts ≤ 8
  pub restarts : Each (IsRestart spec script.frames) script.restarts
  pub restarts_ordered : EachNext RestartBefore script.restarts
  pub restarts_once : EachLater (λ (a b : RestartAt). a.proc.0 ≡ b.proc.0 → ⊥) script.restarts
  pub restarts_late : Each (λ (restart : RestartAt). HaltsWellBefore script.halts restart.proc.0 restart.frame) script.restarts
  pub halts_twice : AtMostTwice script.halts
  pub halts_again : EachLater (λ (a b : HaltAt). a.proc.0 ≡ b.proc.0 → RestartsBy script.restarts b.proc.0 b.frame) script.halts
