-- Breaks of the properties SP1 to SP6, and the frames in which the properties are broken.
use Rattle.std.specs.Prelude.{◌≡◌, ◌≢◌, ◌⊎◌, ◌↔◌, ℕ, suc, ◌<◌, ◌≤◌, ◌-◌, min, true, false, List, slice_get, Option, Some, None}
use Rattle.scram_types.specs.declared.ids.ConfId.{ConfId}
use Rattle.scram_types.specs.declared.rows.Report.{Report}
use Rattle.scram_types.specs.declared.rows.Row.{Row}
use Rattle.scram_types.specs.declared.specification.Invariant.{Invariant}
use Rattle.scram_types.specs.declared.specification.Precondition.{Precondition}
use Rattle.scram_types.specs.Specification.{Parts}
use Rattle.choice_table.specs.Choices.{has_source}
use Rattle.frame_model.specs.Readings.{reports}
use Rattle.trace_props.specs.declared.breaks.Property.{Property}
use Rattle.trace_props.specs.declared.breaks.Property.TheVariants.{Sp1, Sp2, Sp3, Sp4, Sp5, Sp6}
use Rattle.trace_props.specs.Properties.{HoldsAll, InvariantHolds, IsCalm, is_satisfied, KeepsSp2, KeepsSp3, KeepsSp5, PreconditionHolds}

-- The number with which a property is printed.
abbrev pub property_number : Property → ℕ
property_number Sp1 = 1
property_number Sp2 = 2
property_number Sp3 = 3
property_number Sp4 = 4
property_number Sp5 = 5
property_number Sp6 = 6

-- The negation of a proposition.
abbrev pub Fails : Type 0 → Type 0
Fails Fact = Fact → ⊥

-- The smaller begin of two optional reconfigurations, the begin of the only one present, or `None` if both are
-- absent.
abbrev pub lesser_begin : Option Report → Option Report → Option ℕ
lesser_begin None None = None
lesser_begin (Some one) None = Some one.begin
lesser_begin None (Some other) = Some other.begin
lesser_begin (Some one) (Some other) = Some (min one.begin other.begin)

-- SP1 is broken in `frame`: the reports differ from the reconfigurations that are read off the rows. At the first
-- index at which the two lists differ, `frame` is the smaller begin of the two reconfigurations there. If one list
-- has ended, `frame` is the begin of the reconfiguration in the other list.
pub record BreaksSp1 (told read : List Report) (frame : ℕ) : Type 0 where
  pub place : ℕ
  pub alike : (k : ℕ) → k < place → slice_get told k ≡ slice_get read k
  pub differ : slice_get told place ≢ slice_get read place
  pub began : lesser_begin (slice_get told place) (slice_get read place) ≡ Some frame

-- The last frame of a reconfiguration, given its target and its end. The value is the end, or the frame before the
-- end if there is no target.
abbrev pub last_frame_to : Option ConfId → ℕ → ℕ
last_frame_to None end = end - 1
last_frame_to (Some j) end = end

-- The last frame of a reconfiguration: its end, or the last row if the reconfiguration is unfinished.
abbrev pub last_frame : Report → ℕ
last_frame r = last_frame_to r.to r.end

-- Row `frame` is a row of the reconfiguration, and an invariant for the reconfiguration's source does not hold in it.
pub record BreaksInvariant (spec : Parts) (rows : List Row) (r : Report) (frame : ℕ) : Type 0 where
  pub place : ℕ
  pub inv : Invariant
  pub there : slice_get spec.invariants place ≡ Some inv
  pub speaks : has_source inv.from r.from ≡ true
  pub from : r.begin ≤ frame
  pub up_to : frame ≤ r.end
  pub row : Row
  pub stands : slice_get rows frame ≡ Some row
  pub broken : Fails (InvariantHolds inv row)

-- Row `frame` is the row before the reconfiguration's end, and a precondition of the target does not hold in it.
pub record BreaksPrecondition (spec : Parts) (rows : List Row) (r : Report) (frame : ℕ) : Type 0 where
  pub place : ℕ
  pub pre : Precondition
  pub there : slice_get spec.preconditions place ≡ Some pre
  pub aimed : r.to ≡ Some pre.conf
  pub before_end : suc frame ≡ r.end
  pub row : Row
  pub stands : slice_get rows frame ≡ Some row
  pub broken : Fails (PreconditionHolds pre row)

-- A reconfiguration breaks a property in a frame. The frame is the end for SP2, the last frame for SP3, the broken row
-- for SP4, and the begin for SP5. SP1 and SP6 are not properties of a single reconfiguration.
abbrev pub BreaksIn : Parts → List Row → Report → Property → ℕ → Type 0
BreaksIn spec rows r Sp1 frame = ⊥
BreaksIn spec rows r Sp2 frame = Fails (KeepsSp2 spec rows r) × (frame ≡ r.end)
BreaksIn spec rows r Sp3 frame = Fails (KeepsSp3 spec r) × (frame ≡ last_frame r)
BreaksIn spec rows r Sp4 frame = BreaksInvariant spec rows r frame ⊎ BreaksPrecondition spec rows r frame
BreaksIn spec rows r Sp5 frame = Fails (KeepsSp5 spec rows r) × (frame ≡ r.begin)
BreaksIn spec rows r Sp6 frame = ⊥

-- Some reconfiguration that is read off the rows breaks a property in a frame.
pub record BreaksSomewhere (spec : Parts) (rows : List Row) (property : Property) (frame : ℕ) : Type 0 where
  pub place : ℕ
  pub reconfiguration : Report
  pub there : slice_get (reports spec rows) place ≡ Some reconfiguration
  pub broken : BreaksIn spec rows reconfiguration property frame

-- SP6 is broken in `frame`: the row of the frame is calm and does not satisfy the demands.
pub record BreaksSp6 (spec : Parts) (rows : List Row) (frame : ℕ) : Type 0 where
  pub row : Row
  pub calm : IsCalm spec rows frame row
  pub broken : is_satisfied spec row ≡ false

-- A property is broken in a frame of a trace with the given rows and reports.
abbrev pub BreaksAt : Parts → List Row → List Report → Property → ℕ → Type 0
BreaksAt spec rows told Sp1 frame = BreaksSp1 told (reports spec rows) frame
BreaksAt spec rows told Sp2 frame = BreaksSomewhere spec rows Sp2 frame
BreaksAt spec rows told Sp3 frame = BreaksSomewhere spec rows Sp3 frame
BreaksAt spec rows told Sp4 frame = BreaksSomewhere spec rows Sp4 frame
BreaksAt spec rows told Sp5 frame = BreaksSomewhere spec rows Sp5 frame
BreaksAt spec rows told Sp6 frame = BreaksSp6 spec rows frame

-- The break of `one` in frame `f` does not come after the break of `other` in frame `g`. Frame `f` is earlier than
-- frame `g`, or the frames are equal and the number of `one` is at most the number of `other`.
abbrev pub ComesBefore : Property → ℕ → Property → ℕ → Type 0
ComesBefore one f other g = (f < g) ⊎ ((f ≡ g) × (property_number one ≤ property_number other))

-- A property is broken in a frame, and no other break comes earlier.
pub record IsFirstBreak (spec : Parts) (rows : List Row) (told : List Report) (property : Property) (frame : ℕ) : Type 0 where
  pub broken : BreaksAt spec rows told property frame
  pub first : (other : Property) (g : ℕ) → BreaksAt spec rows told other g → ComesBefore property frame other g

-- All six properties hold if and only if none of them is broken in any frame.
abbrev pub HoldsWhereUnbroken : Type 0
HoldsWhereUnbroken = (spec : Parts) (rows : List Row) (told : List Report)
    → HoldsAll spec rows told ↔ ((property : Property) (frame : ℕ) → Fails (BreaksAt spec rows told property frame))
