-- Scripts in which everything comes later.
use Rattle.std.specs.Prelude.{◌≡◌, ℕ, ◌+◌, ◌<◌, map}
use Rattle.scram_types.specs.declared.scripts.Change.{Change}
use Rattle.scram_types.specs.declared.scripts.HaltAt.{HaltAt}
use Rattle.scram_types.specs.declared.scripts.RestartAt.{RestartAt}
use Rattle.scram_types.specs.Scripts.{ScriptParts}
use Rattle.scram_types.specs.Specification.{IsSpec, Parts}
use Rattle.scram_types.specs.declared.rows.Report.{Report}
use Rattle.scram_types.specs.declared.orders.KMode.{KMode}
use Rattle.scram_types.specs.declared.orders.KMode.TheVariants.{Stable, Moving}
use Rattle.coverage_check.specs.Acceptance.{Accepts}
use Rattle.frame_model.specs.Flights.{reports_of, row_at}
use Rattle.fault_script.specs.Assumption.{IsWithin}
use Rattle.fault_script.specs.Environments.{env_at}
use Rattle.fault_script.specs.Fits.{Fits}
use Rattle.fault_script.specs.Times.{commits}

-- The script in which everything comes `d` frames later.
abbrev pub later_by : ℕ → ScriptParts → ScriptParts
later_by d script = record {
  frames = d + script.frames;
  changes = map (λ (change : Change). record { frame = d + change.frame; factor = change.factor; value = change.value }) script.changes;
  halts = map (λ (halt : HaltAt). record { proc = halt.proc; frame = d + halt.frame; step = halt.step }) script.halts;
  restarts = map (λ (restart : RestartAt). record { proc = restart.proc; frame = d + restart.frame }) script.restarts;
}

-- The script `later` has the environments and commits of `script`, `d` frames later. Before frame `d`, `later` has
-- the environment of frame 0 of `script`. If `script` keeps the failure assumption, then so does `later`.
pub record ShowsLater (spec : Parts) (d : ℕ) (script later : ScriptParts) : Type 0 where
  pub environment : (f : ℕ) → env_at spec later (d + f) ≡ env_at spec script f
  pub commits : (p f : ℕ) → commits spec later p (d + f) ≡ commits spec script p f
  pub before : (f : ℕ) → f < d → env_at spec later f ≡ env_at spec script 0
  pub within : IsWithin spec script → IsWithin spec later

-- A script in which everything comes some frames later has the same environments and commits, later by that number of
-- frames. The later script keeps the failure assumption if the original script does.
abbrev pub LaterScriptsShowTheSame : Type 0
LaterScriptsShowTheSame = (spec : Parts) (d : ℕ) (script : ScriptParts) → Fits spec script → ShowsLater spec d script (later_by d script)

-- A mode of the kernel, `d` frames later.
abbrev pub mode_later : ℕ → KMode → KMode
mode_later d (Stable c) = Stable c
mode_later d (Moving from halting to since) = Moving from halting to (d + since)

-- The report of a reconfiguration, `d` frames later.
abbrev pub report_later : ℕ → Report → Report
report_later d report = record { from = report.from; to = report.to; begin = d + report.begin; end = d + report.end }

-- The acts and the mode of each row in the flight of `script` come `d` frames later in the flight of `later`, and so
-- do the reconfigurations. Worlds and areas may differ.
pub record HasFlightLater (spec : Parts) (d : ℕ) (script later : ScriptParts) : Type 0 where
  pub acts : (f : ℕ) → (row_at spec later (d + f)).acts ≡ (row_at spec script f).acts
  pub modes : (f : ℕ) → (row_at spec later (d + f)).mode ≡ mode_later d (row_at spec script f).mode
  pub reports : reports_of spec later ≡ map (report_later d) (reports_of spec script)

-- For an accepted specification, a script in which everything comes some frames later has the same flight, later by
-- that number of frames.
abbrev pub LaterScriptsFlyTheSame : Type 0
LaterScriptsFlyTheSame = (spec : Parts) (d : ℕ) (script : ScriptParts) → IsSpec spec → Accepts spec → Fits spec script
    → HasFlightLater spec d script (later_by d script)
