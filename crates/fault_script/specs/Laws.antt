-- Laws of the environments over time.
use Rattle.std.specs.Prelude.{◌≡◌, ◌⊎◌, ℕ, suc, ◌<◌, ◌≤◌, ◌^◌, true, false, nat_le, [], filter, length, slice_get, Some}
use Rattle.std.specs.Int.{bit_at}
use Rattle.scram_types.specs.declared.scripts.Change.{Change}
use Rattle.scram_types.specs.declared.scripts.HaltAt.{HaltAt}
use Rattle.scram_types.specs.declared.scripts.RestartAt.{RestartAt}
use Rattle.scram_types.specs.declared.specification.Factor.{Factor}
use Rattle.scram_types.specs.Scripts.{ScriptParts}
use Rattle.scram_types.specs.Specification.{IsSpec, Parts}
use Rattle.fault_script.specs.declared.assumption.OutsideKind.TheVariants as kind
use Rattle.fault_script.specs.Assumption.{first_outside}
use Rattle.fault_script.specs.Times.{commits, factor_at, halts_in, is_up, restarted}
use Rattle.fault_script.specs.Environments.{env_at}
use Rattle.fault_script.specs.Fits.{Fits}

-- In a script that fits, a processor that halts in frame `h` is down in the environment of frame `h + 1`.
abbrev pub HaltsShow : Type 0
HaltsShow = (spec : Parts) (script : ScriptParts) → Fits spec script → (p h : ℕ) → halts_in script p h ≡ true
    → (is_up script p (suc h) ≡ false) × (bit_at (env_at spec script (suc h)).up p ≡ 0)

-- In a script that fits, a processor that does not commit a frame is down in the environment of that frame or of the
-- next one.
abbrev pub LossesShow : Type 0
LossesShow = (spec : Parts) (script : ScriptParts) → Fits spec script → (p f : ℕ) → commits spec script p f ≡ false
    → (is_up script p f ≡ false) ⊎ (is_up script p (suc f) ≡ false)

-- A processor is up in frame `f` if and only if it has restarted, up to frame `f`, after each of its halts in an
-- earlier frame.
abbrev pub UpAfterEachHalt : Type 0
UpAfterEachHalt = (script : ScriptParts) (p f : ℕ) →
    (is_up script p f ≡ true → (h : ℕ) → h < f → halts_in script p h ≡ true → restarted script p h f ≡ true)
    × (((h : ℕ) → h < f → halts_in script p h ≡ true → restarted script p h f ≡ true) → is_up script p f ≡ true)

-- A processor's bit in the environment of frame `f` is set if and only if the processor is up, and no bit past the
-- last processor is set. Each factor has one of its values, and the entries past the last factor are zero.
pub record Shows (spec : Parts) (script : ScriptParts) (f : ℕ) : Type 0 where
  pub up : (p : ℕ) → p < length spec.procs → is_up script p f ≡ true → bit_at (env_at spec script f).up p ≡ 1
  pub down : (p : ℕ) → p < length spec.procs → is_up script p f ≡ false → bit_at (env_at spec script f).up p ≡ 0
  pub past : (env_at spec script f).up < 2 ^ length spec.procs
  pub values : (x : ℕ) (factor : Factor) → slice_get spec.factors x ≡ Some factor → factor_at script x f < length factor.values
  pub rest : (x : ℕ) → length spec.factors ≤ x → factor_at script x f ≡ 0

-- In a script that fits, the environment of each frame satisfies `Shows`.
abbrev pub EnvironmentsShow : Type 0
EnvironmentsShow = (spec : Parts) (script : ScriptParts) → IsSpec spec → Fits spec script → (f : ℕ) → Shows spec script f

-- Two scripts have the same entries up to frame `f`.
pub record AgreeUpTo (f : ℕ) (one other : ScriptParts) : Type 0 where
  pub changes : filter (λ (change : Change). nat_le change.frame f) one.changes ≡ filter (λ (change : Change). nat_le change.frame f) other.changes
  pub halts : filter (λ (halt : HaltAt). nat_le halt.frame f) one.halts ≡ filter (λ (halt : HaltAt). nat_le halt.frame f) other.halts
  pub restarts : filter (λ (restart : RestartAt). nat_le restart.frame f) one.restarts ≡ filter (λ (restart : RestartAt). nat_le restart.frame f) other.restarts

-- The environment of frame `f` and the processors that commit it do not depend on the script's entries for later
-- frames.
abbrev pub LaterIsUnseen : Type 0
LaterIsUnseen = (spec : Parts) (one other : ScriptParts) (f : ℕ) → AgreeUpTo f one other
    → (env_at spec one f ≡ env_at spec other f) × ((p : ℕ) → commits spec one p f ≡ commits spec other p f)

-- If the first frame that leaves the failure assumption has the kind `Halts`, a processor halts in that frame. If the
-- script has no restarts, this frame is the frame of the script's halt at index `spec.halts`.
abbrev pub TooManyDownShowsAHalt : Type 0
TooManyDownShowsAHalt = (spec : Parts) (script : ScriptParts) → Fits spec script
    → (f : ℕ) → first_outside spec script ≡ Some (record { frame = f; kind = kind.Halts })
    → ((p : ℕ) × (p < length spec.procs) × (halts_in script p f ≡ true))
    × (script.restarts ≡ [] → (halt : HaltAt) × (slice_get script.halts spec.halts ≡ Some halt) × (halt.frame ≡ f))
