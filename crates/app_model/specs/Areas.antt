-- The ranges in which the words of an area lie after an order.
use Rattle.std.specs.Prelude.{ℕ, ℤ, ◌≤ℤ◌, ◌<◌, ◌≤◌, ◌+◌, ◌≡◌, List, Option, Some, None}
use Rattle.scram_types.specs.declared.orders.Order.{Order}
use Rattle.scram_types.specs.declared.orders.Order.TheVariants.{Run, Hold, Halt, Prepare, Init, Off}
use Rattle.scram_types.specs.Numbers.{word}
use Rattle.app_model.specs.declared.seen.Seen.{Seen}
use Rattle.kind_table.specs.Bounds.{during, after_halt, after_init, sane}
use Rattle.app_model.specs.Law.{law}
use Rattle.app_model.specs.Starts.{start_of}

-- The number `x` lies in the range, both ends included.
pub record Between (range : ℤ × ℤ) (x : ℤ) : Type 0 where
  pub least : range.0 ≤ℤ x
  pub greatest : x ≤ℤ range.1

-- Each word of the area lies in its range.
abbrev pub AreaLies : (ℕ → ℤ × ℤ) → List ℤ → Type 0
AreaLies range area = (i : ℕ) → i < 8 → Between (range i) (word area i)

-- The status of an application after an order. The value is `None` for `Hold`, which does not change the area, and
-- for `Off`, which sets the area to zeros.
abbrev pub status_of : Order → Option ℕ
status_of Run = Some 1
status_of (Halt k n) = Some 2
status_of Hold = None
status_of (Prepare k n) = Some 3
status_of (Init k n) = Some 4
status_of Off = None

-- Whatever an application of one of the six kinds sees, its area after an order with a status lies in the ranges of
-- that status in the application's mode.
abbrev pub LawLiesDuring : Type 0
LawLiesDuring = (kind status : ℕ) (order : Order) (seen : Seen) → kind < 6 → status_of order ≡ Some status
    → AreaLies (during kind status seen.mode.0) (law kind order seen)

-- After the last frame of a halt phase the area lies in the ranges after a halt.
abbrev pub LawLiesAfterHalt : Type 0
LawLiesAfterHalt = (kind k n : ℕ) (seen : Seen) → kind < 6 → k + 1 ≡ n
    → AreaLies (after_halt kind seen.mode.0) (law kind (Halt k n) seen)

-- After the last frame of an init phase the area lies in the ranges after an init phase.
abbrev pub LawLiesAfterInit : Type 0
LawLiesAfterInit = (kind k n : ℕ) (seen : Seen) → kind < 6 → k + 1 ≡ n
    → AreaLies (after_init kind seen.mode.0) (law kind (Init k n) seen)

-- In every mode the area that an application begins with lies in the ranges after an init phase.
abbrev pub StartLiesAfterInit : Type 0
StartLiesAfterInit = (kind mode : ℕ) → kind < 6 → AreaLies (after_init kind mode) (start_of kind)

-- The range `inner` lies in the range `outer`.
pub record Inside (inner outer : ℤ × ℤ) : Type 0 where
  pub least : outer.0 ≤ℤ inner.0
  pub greatest : inner.1 ≤ℤ outer.1

-- The range of word `i` after a halt lies in its range during a halt, and the range after an init phase lies in the
-- range during an init phase. The sane range contains the range of every status from 0 to 4.
pub record TablesNarrow (kind mode i : ℕ) : Type 0 where
  pub halt : Inside (after_halt kind mode i) (during kind 2 mode i)
  pub init : Inside (after_init kind mode i) (during kind 4 mode i)
  pub sane : (status : ℕ) → status ≤ 4 → Inside (during kind status mode i) (sane kind i)

-- The ranges of every kind, mode and word are nested as in `TablesNarrow`.
abbrev pub AllTablesNarrow : Type 0
AllTablesNarrow = (kind mode i : ℕ) → kind < 6 → i < 8 → TablesNarrow kind mode i
