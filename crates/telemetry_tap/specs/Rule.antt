-- The rule of the tap's table, and the effects of its steps.
use Rattle.std.specs.Prelude.{◌≡◌, ◌≤◌, ℕ, suc, true, false, [], length, slice_index, Some, IfSome}
use mathlib.Core.Option.{some}
use lib.ListN.{get_elem?}
use Rattle.atomic_table.specs.Table.{Me, State, Step}
use Rattle.coverage_check.specs.Missions.{MissionParts}
use Rattle.telemetry_tap.specs.declared.views.TapView.{TapView}
use Rattle.telemetry_tap.specs.Summaries.{summary_after}
use Rattle.telemetry_tap.specs.Words.{FitsWord, summary_encode}

-- View `v`, with number `j`, satisfies the rule of the tap's table, given that the writer's view has number `writer`
-- and that the writer has published `m` rows. The view's mission is `mission`. A view that writes has number `writer`
-- and has seen `m` rows. A view that only reads has seen at most `m` rows.
pub record IsTapView (mission : MissionParts) (m writer j : ℕ) (v : TapView) : Type 0 where
  pub planned : v.mission ≡ Some mission
  pub writing : v.writes ≡ true → (j ≡ writer) × (v.seen ≡ m)
  pub reading : v.writes ≡ false → v.seen ≤ m

-- Exactly one view is the writer's, and the word is the encoded summary of the rows that the writer has published. No
-- reader has seen more rows than the writer has published.
pub record IsTapState (mission : MissionParts) (s : State (Unit {0}) TapView) : Type 0 where
  pub m : ℕ
  pub writer : ℕ
  pub pen : TapView
  pub within : m ≤ mission.script.frames
  pub long : length s.words ≡ 1
  pub word : slice_index s.words 0 ≡ summary_encode (summary_after mission m)
  pub fits : FitsWord (summary_after mission m)
  pub there : get_elem? s.views writer ≡ some pen
  pub writes : pen.writes ≡ true
  pub each : (j : ℕ) (v : TapView) → get_elem? s.views j ≡ some v → IsTapView mission m writer j v

-- The writer's view before it has published a row.
abbrev pub writer_view : MissionParts → TapView
writer_view mission = record { mission = Some mission; writes = true; seen = 0; loads = 0 }

-- A seat of the table, which has a view and no slots.
abbrev pub TapSeat : Type 0
TapSeat = Me (Unit {0}) TapView

-- The writer's view after it has published one more row.
abbrev pub row_later : TapView → TapView
row_later v = record { mission = v.mission; writes = v.writes; seen = suc v.seen; loads = v.loads }

-- A reader's view after a load that found the summary of `m` rows.
abbrev pub view_loaded : TapView → ℕ → TapView
view_loaded v m = record { mission = v.mission; writes = v.writes; seen = m; loads = suc v.loads }

-- The view of a new reader, which has seen all rows of the writer's view `v`.
abbrev pub reader_view : TapView → TapView
reader_view v = record { mission = v.mission; writes = false; seen = v.seen; loads = 0 }

-- After a store by the writer, the view of its seat has one more published row, and the seat has no slots.
abbrev pub publishes_row : Step (Unit {0}) → TapSeat → ℕ → TapSeat → Type 0
publishes_row s me n after = (after.0 ≡ row_later me.0) × (after.1 ≡ [])

-- A load with view `v` found `n` and left view `w`. The word `n` is the encoded summary of the rows that `w` has seen.
pub record ShowsSummary (mission : MissionParts) (v : TapView) (n : ℕ) (w : TapView) : Type 0 where
  pub same : w ≡ view_loaded v w.seen
  pub low : v.seen ≤ w.seen
  pub within : w.seen ≤ mission.script.frames
  pub word : n ≡ summary_encode (summary_after mission w.seen)
  pub fits : FitsWord (summary_after mission w.seen)

-- A load by a reader finds the summary of at least as many rows as the reader has seen.
abbrev pub reads_summary : Step (Unit {0}) → TapSeat → ℕ → TapSeat → Type 0
reads_summary s me n after = (after.1 ≡ []) × IfSome me.0.mission (λ mission. ShowsSummary mission me.0 n after.0)
