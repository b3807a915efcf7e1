-- Scripts in which everything after a rest of the flight comes later.
use Rattle.std.specs.Prelude.{◌≡◌, ◌≢◌, ℕ, ◌+◌, ◌-◌, ◌<◌, ◌≤◌, true, nat_lt, List, ◌++◌, map, if◌then◌else◌}
use Rattle.scram_types.specs.Searches.{listed_below}
use Rattle.scram_types.specs.declared.rows.Report.{Report}
use Rattle.scram_types.specs.declared.ids.ConfId.{ConfId}
use Rattle.scram_types.specs.declared.scripts.Change.{Change}
use Rattle.scram_types.specs.declared.scripts.HaltAt.{HaltAt}
use Rattle.scram_types.specs.declared.scripts.RestartAt.{RestartAt}
use Rattle.scram_types.specs.Scripts.{ScriptParts}
use Rattle.scram_types.specs.Specification.{Each, Parts}
use Rattle.choice_table.specs.Choices.{choose}
use Rattle.fault_script.specs.Environments.{env_at}
use Rattle.frame_model.specs.declared.phases.Phase.TheVariants.{Running}
use Rattle.frame_model.specs.declared.readings.Reading.TheVariants.{Steady}
use Rattle.frame_model.specs.Flights.{reports_of, row_at}
use Rattle.frame_model.specs.Phases.{phase_at}
use Rattle.frame_model.specs.Readings.{reading_of}
use Rattle.frame_model.specs.Runs.{runs}
use Rattle.fault_family.specs.Shifts.{mode_later, report_later}

-- The frame `frame` itself if it is before frame `b`, or else frame `d + frame`.
abbrev pub later_frame : ℕ → ℕ → ℕ → ℕ
later_frame b d frame = if nat_lt frame b then frame else d + frame

-- The script in which everything from frame `b` on comes `d` frames later.
abbrev pub later_from : ℕ → ℕ → ScriptParts → ScriptParts
later_from b d script = record {
  frames = d + script.frames;
  changes = map (λ (change : Change). record { frame = later_frame b d change.frame; factor = change.factor; value = change.value }) script.changes;
  halts = map (λ (halt : HaltAt). record { proc = halt.proc; frame = later_frame b d halt.frame; step = halt.step }) script.halts;
  restarts = map (λ (restart : RestartAt). record { proc = restart.proc; frame = later_frame b d restart.frame }) script.restarts;
}

-- A flight is at rest in configuration `c` at the start of frame `b`. In frame `b - 1`, the kernel's phase is
-- `Running c`, the row runs `c`, the table chooses `c` from `c`, and no processor halts. The reading of the rows
-- before frame `b` is `Steady c`.
pub record IsAtRest (spec : Parts) (script : ScriptParts) (b : ℕ) (c : ConfId) : Type 0 where
  pub first : 1 ≤ b
  pub inside : b ≤ script.frames
  pub phase : phase_at spec (row_at spec script (b - 1)).mode (b - 1) ≡ Running c
  pub runs : runs spec (row_at spec script (b - 1)).acts c ≡ true
  pub reading : reading_of spec (listed_below (row_at spec script) b) ≡ Steady c
  pub chosen : choose spec c (env_at spec script (b - 1)) ≡ c
  pub quiet : Each (λ (halt : HaltAt). halt.frame ≢ b - 1) script.halts

-- The two lists of reports begin with the same reports. The remaining reports of the second list are those of the
-- first list, `d` frames later.
pub record GoOnLater (d : ℕ) (one other : List Report) : Type 0 where
  pub before : List Report
  pub after : List Report
  pub parts : one ≡ before ++ after
  pub later : other ≡ before ++ map (report_later d) after

-- Before frame `b`, the flights of `script` and `later` have the same rows. From frame `b` on, the acts and the mode
-- of each row of `script` come `d` frames later in the flight of `later`. The remaining reconfigurations also come
-- `d` frames later.
pub record HasFlightFrom (spec : Parts) (b d : ℕ) (script later : ScriptParts) : Type 0 where
  pub rows : (f : ℕ) → f < b → row_at spec later f ≡ row_at spec script f
  pub acts : (f : ℕ) → b ≤ f → (row_at spec later (d + f)).acts ≡ (row_at spec script f).acts
  pub modes : (f : ℕ) → b ≤ f → (row_at spec later (d + f)).mode ≡ mode_later d (row_at spec script f).mode
  pub reports : GoOnLater d (reports_of spec script) (reports_of spec later)

-- If a flight is at rest at the start of frame `b`, everything from frame `b` on may come later. The flight is then
-- the same before frame `b`, and later by that number of frames afterwards.
abbrev pub RestsMayBeLonger : Type 0
RestsMayBeLonger = (spec : Parts) (b d : ℕ) (c : ConfId) (script : ScriptParts) → IsAtRest spec script b c
    → HasFlightFrom spec b d script (later_from b d script)
