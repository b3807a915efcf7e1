-- Laws on the definitions that the contracts of this crate use.
use Rattle.std.specs.Prelude.{◌≡◌, ℕ, suc, ◌+◌, ◌<◌, ℤ, Bool, true, false, not, ◌&&◌, ◌==◌, nat_lt, List, [], ◌∷◌, ◌++◌, All, filter, length, map, Option, Some, None, if◌then◌else◌}
use Rattle.std.specs.List.{list_any}
use Rattle.scram_types.specs.declared.ids.ConfId.{ConfId}
use Rattle.scram_types.specs.declared.ids.ProcId.{ProcId}
use Rattle.scram_types.specs.declared.rows.Env.{Env}
use Rattle.scram_types.specs.declared.rows.Report.{Report}
use Rattle.scram_types.specs.declared.rows.Row.{Row}
use Rattle.scram_types.specs.declared.orders.KMode.{KMode}
use Rattle.scram_types.specs.declared.orders.KMode.TheVariants.{Stable, Moving}
use Rattle.scram_types.specs.declared.scripts.HaltAt.{HaltAt}
use Rattle.scram_types.specs.declared.specification.Policy.TheVariants.{Retarget}
use Rattle.scram_types.specs.Scripts.{ScriptParts}
use Rattle.scram_types.specs.Specification.{Parts}
use Rattle.scram_types.specs.Lookups.{conf_id}
use Rattle.choice_table.specs.Choices.{choose}
use Rattle.fault_script.specs.Laws.{AgreeUpTo}
use Rattle.fault_script.specs.Times.{is_up}
use Rattle.frame_model.specs.declared.readings.Reading.TheVariants.{Steady, Leaving}
use Rattle.frame_model.specs.Decisions.{decision, moving_decision, stable_decision}
use Rattle.frame_model.specs.Flights.{row_at, slot_after, state_after}
use Rattle.frame_model.specs.Phases.{is_running, is_settled, phase_at}
use Rattle.frame_model.specs.Readings.{as_list, ended, ended_in, read_row, reading_after, reading_of, report_of, reports}
use Rattle.frame_model.specs.Runs.{runs}
use Rattle.frame_model.specs.States.{area_at, keeper_at, zeros}

-- An area equals the slot in the image of its keeper, or is zeros if it has no keeper.
abbrev pub IsSlotOfKeeper : Option ProcId → List ℤ → (ℕ → List ℤ) → Type 0
IsSlotOfKeeper None area slot = area ≡ zeros
IsSlotOfKeeper (Some proc) area slot = area ≡ slot proc.0

-- After each frame, the area of each application equals its slot in the image of its keeper, or is zeros if it has no
-- keeper.
abbrev pub AreasAreKept : Type 0
AreasAreKept = (spec : Parts) (script : ScriptParts) (f a : ℕ) → a < 8
    → IsSlotOfKeeper (keeper_at (state_after spec script f).keepers a) (area_at (state_after spec script f).areas a) (λ p. slot_after spec script p f a)

-- If two scripts agree up to frame `f`, they have the same row of frame `f` and the same state after frame `f`.
abbrev pub LaterIsUnseenInRows : Type 0
LaterIsUnseenInRows = (spec : Parts) (one other : ScriptParts) (f : ℕ) → AgreeUpTo f one other
    → (row_at spec one f ≡ row_at spec other f) × (state_after spec one (suc f) ≡ state_after spec other (suc f))

-- Whether processor `p` halts in a frame before frame `f`.
abbrev pub has_halted : ScriptParts → ℕ → ℕ → Bool
has_halted script p f = list_any (λ (halt : HaltAt). halt.proc.0 == p && nat_lt halt.frame f) script.halts

-- In a script without restarts, a processor is up until it has halted.
abbrev pub HaltsLastWithoutRestarts : Type 0
HaltsLastWithoutRestarts = (script : ScriptParts) → script.restarts ≡ [] → (p f : ℕ) → is_up script p f ≡ not (has_halted script p f)

-- The decision at the start of a frame if the target is always the table's choice from the source in the environment
-- of that frame.
abbrev pub choosing_anew : Parts → ℕ → KMode → Bool → Bool → Env → KMode
choosing_anew spec frame (Stable c) settled arrived v = stable_decision spec c frame v
choosing_anew spec frame (Moving from halting to since) settled arrived v =
    if arrived then stable_decision spec to frame v else moving_decision spec frame from halting to since settled (choose spec from v)

-- Under the policy `Retarget`, each decision equals the decision of `choosing_anew`.
abbrev pub RetargetChoosesAnew : Type 0
RetargetChoosesAnew = (spec : Parts) → spec.policy ≡ Retarget → (frame : ℕ) (mode : KMode) (settled arrived : Bool) (v : Env)
    → decision spec frame mode settled arrived v ≡ choosing_anew spec frame mode settled arrived v

-- A reconfiguration is settled if and only if its phase is the last one, in which the target is to run.
abbrev pub SettlesWithItsPhases : Type 0
SettlesWithItsPhases = (spec : Parts) (from : ConfId) (halting : Option ConfId) (to : ConfId) (since f : ℕ)
    → is_settled spec (Moving from halting to since) f ≡ is_running (phase_at spec (Moving from halting to since) f)

-- The row runs configuration `c`.
abbrev pub Runs : Parts → ConfId → Row → Type 0
Runs spec c row = runs spec row.acts c ≡ true

-- The row runs no configuration.
abbrev pub RunsNone : Parts → Row → Type 0
RunsNone spec row = (c : ℕ) → c < length spec.confs → runs spec row.acts (conf_id c) ≡ false

-- The row runs configuration `j`, and no configuration with a smaller number.
pub record RunsFirst (spec : Parts) (j : ConfId) (row : Row) : Type 0 where
  pub inside : j.0 < length spec.confs
  pub here : runs spec row.acts j ≡ true
  pub least : (c : ℕ) → c < j.0 → runs spec row.acts (conf_id c) ≡ false

-- Rules for reading the rows from frame `f` on if configuration `c` runs before these rows.
pub record ReadsAsTold (spec : Parts) (c : ConfId) (f : ℕ) : Type 0 where
  -- If each row runs `c`, no reconfiguration is read.
  pub quiet : (rows : List Row) → All (Runs spec c) rows → (ended_in spec (Steady c) f rows ≡ []) × (reading_after spec (Steady c) f rows ≡ Steady c)
  -- The first row that does not run `c` begins a reconfiguration. It is under way as long as the later rows run no
  -- configuration.
  pub begins : (before : List Row) (left : Row) (between : List Row) → All (Runs spec c) before → runs spec left.acts c ≡ false → All (RunsNone spec) between
      → (ended_in spec (Steady c) f (before ++ (left ∷ between)) ≡ [])
      × (reading_after spec (Steady c) f (before ++ (left ∷ between)) ≡ Leaving c (f + length before))
  -- The first later row that runs some configuration ends the reconfiguration. Reading continues with the
  -- configuration of the smallest number that this row runs.
  pub ends : (before : List Row) (left : Row) (between : List Row) (arrived : Row) (rest : List Row) (j : ConfId) → All (Runs spec c) before
      → runs spec left.acts c ≡ false
      → All (RunsNone spec) between → RunsFirst spec j arrived
      → (e : ℕ) → e ≡ f + length before + 1 + length between
      → (ended_in spec (Steady c) f (before ++ (left ∷ (between ++ (arrived ∷ rest))))
      ≡ record { from = c; to = Some j; begin = f + length before; end = e } ∷ ended_in spec (Steady j) (e + 1) rest)
      × (reading_after spec (Steady c) f (before ++ (left ∷ (between ++ (arrived ∷ rest)))) ≡ reading_after spec (Steady j) (e + 1) rest)

-- For every specification, the readings of rows satisfy `ReadsAsTold` for any configuration and any frame.
abbrev pub ReadsReconfigurations : Type 0
ReadsReconfigurations = (spec : Parts) (c : ConfId) (f : ℕ) → ReadsAsTold spec c f

-- The reading and the ended reconfigurations after a further row follow from those after the preceding rows.
abbrev pub ReadsRowByRow : Type 0
ReadsRowByRow = (spec : Parts) (rows : List Row) (row : Row)
    → (reading_of spec (rows ++ row ∷ []) ≡ read_row spec (reading_of spec rows) (length rows) row.acts)
    × (ended spec (rows ++ row ∷ []) ≡ ended spec rows ++ as_list (report_of spec (reading_of spec rows) (length rows) row.acts))

-- Whether the reconfiguration began before frame `m`.
abbrev pub begins_below : ℕ → Report → Bool
begins_below m report = nat_lt report.begin m

-- The source of a reconfiguration, and the frame in which it began.
abbrev pub beginning : Report → ConfId × ℕ
beginning report = (report.from, report.begin)

-- The later rows of a flight do not change the sources and the first frames of the reconfigurations that began in its
-- first rows.
abbrev pub BeginningsAreRead : Type 0
BeginningsAreRead = (spec : Parts) (front back : List Row)
    → map beginning (filter (begins_below (length front)) (reports spec (front ++ back))) ≡ map beginning (reports spec front)
