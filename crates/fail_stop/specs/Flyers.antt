-- Processors in flight: the effect of a start and of a halt, and the agreement of a processor with its place in the
-- machine.
use Rattle.std.specs.Prelude.{◌≡◌, ℕ, ◌<◌, Bool, true, false, List, length, slice_index_or, Option, Some, None, is_some}
use Rattle.app_model.specs.declared.racks.Rack.{Rack}
use Rattle.fail_stop.specs.declared.flyers.Flyer.{Flyer}
use Rattle.fail_stop.specs.declared.flyers.Unit.{Unit as HeldUnit}
use Rattle.fail_stop.specs.declared.flyers.Unit.TheVariants.{Up, Down}
use Rattle.fail_stop.specs.Events.{Place, frame_of, is_halted}
use Rattle.fail_stop.specs.Flights.{Flight}

-- The number of a unit's processor.
abbrev pub unit_proc : {X : Type 0} {Y : X → Type 0} → HeldUnit X Y → ℕ
unit_proc (Up live) = live.proc.0
unit_proc (Down halted) = halted.proc.0

-- Whether a unit has halted.
abbrev pub is_down : {X : Type 0} {Y : X → Type 0} → HeldUnit X Y → Bool
is_down (Up live) = false
is_down (Down halted) = true

-- The boxes of a unit, or `None` if the unit has halted.
abbrev pub unit_rack : {X : Type 0} {Y : X → Type 0} → HeldUnit X Y → Option (Rack X Y)
unit_rack (Up live) = Some live.rack
unit_rack (Down halted) = None

-- A unit after a start. A halted unit becomes live again with the spare rack, if there is one.
abbrev pub unit_started : {X : Type 0} {Y : X → Type 0} → HeldUnit X Y → Option (Rack X Y) → HeldUnit X Y
unit_started (Up live) spare = Up live
unit_started (Down halted) None = Down halted
unit_started (Down halted) (Some rack) = Up (record { proc = halted.proc; rack = rack })

-- The spare rack after a start, or `None` if the start has used it.
abbrev pub spare_started : {X : Type 0} {Y : X → Type 0} → HeldUnit X Y → Option (Rack X Y) → Option (Rack X Y)
spare_started (Up live) spare = spare
spare_started (Down halted) spare = None

-- A processor after a start.
abbrev pub flyer_started : {X : Type 0} {Y : X → Type 0} → Flyer X Y → Flyer X Y
flyer_started flyer = record { unit = unit_started flyer.unit flyer.spare; spare = spare_started flyer.unit flyer.spare }

-- A unit after a halt in frame `f`.
abbrev pub unit_halted : {X : Type 0} {Y : X → Type 0} → ℕ → HeldUnit X Y → HeldUnit X Y
unit_halted f (Up live) = Down (record { proc = live.proc; frame = f })
unit_halted f (Down halted) = Down halted

-- A processor after a halt in frame `f`.
abbrev pub flyer_halted : {X : Type 0} {Y : X → Type 0} → ℕ → Flyer X Y → Flyer X Y
flyer_halted f flyer = record { unit = unit_halted f flyer.unit; spare = flyer.spare }

-- The frame in which a unit has halted, or 0 if it is live.
abbrev pub unit_frame : {X : Type 0} {Y : X → Type 0} → HeldUnit X Y → ℕ
unit_frame (Up live) = 0
unit_frame (Down halted) = halted.frame

-- The unit belongs to processor `p`, which is at this place. The unit has halted if and only if the place is the
-- place of a halted processor. In that case the unit has halted in the frame of the place.
pub record IsUnitAt {X : Type 0} {Y : X → Type 0} (p : ℕ) (place : Place) (unit : HeldUnit X Y) : Type 0 where
  pub number : unit_proc unit ≡ p
  pub down : is_down unit ≡ is_halted place
  pub frame : is_down unit ≡ true → unit_frame unit ≡ frame_of place

-- If processor `p` has a restart after frame `f`, then the spare rack is present.
abbrev pub HasSpare : {R : Type 0} → Flight → ℕ → ℕ → Option R → Type 0
HasSpare m p f spare = (r : ℕ) → m.restart p ≡ Some r → f < r → is_some spare ≡ true

-- A processor in flight is processor `p` of a flight at this place, with the rack for any restart that is still to
-- come.
pub record IsFlyerAt {X : Type 0} {Y : X → Type 0} (m : Flight) (p : ℕ) (place : Place) (flyer : Flyer X Y) : Type 0 where
  pub unit : IsUnitAt p place flyer.unit
  pub spare : HasSpare m p (frame_of place) flyer.spare

-- A list has eight processors in the order of their numbers, each at its place.
pub record AreFlyersAt {X : Type 0} {Y : X → Type 0} (m : Flight) (at : ℕ → Place) (flyers : List (Flyer X Y)) : Type 0 where
  pub count : length flyers ≡ 8
  pub each : (p : ℕ) (none : Flyer X Y) → p < 8 → IsFlyerAt m p (at p) (slice_index_or flyers p none)
