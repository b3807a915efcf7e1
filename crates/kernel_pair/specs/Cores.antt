-- The kernels and the processors of a flight on two units, related to the state of its pair.
use Rattle.std.specs.Prelude.{◌≡◌, ℕ, List, Option, Some, None, take}
use Rattle.scram_kernel.specs.Kernels.{KernelParts, kernel_after}
use Rattle.fail_stop.specs.declared.flyers.Flyer.{Flyer}
use Rattle.fail_stop.specs.Events.{Place}
use Rattle.fail_stop.specs.Flyers.{AreFlyersAt, flyer_halted}
use Rattle.kernel_pair.specs.declared.events.PairEvent.{PairEvent}
use Rattle.kernel_pair.specs.declared.events.PairEvent.TheVariants.{Fly, Note, Store, Ready, Meet, Release, Stop}
use Rattle.kernel_pair.specs.Laws.{noted_frames}
use Rattle.kernel_pair.specs.Machines.{PairParts, pair_flight, pair_in, unit_in}
use Rattle.kernel_pair.specs.Pairs.{Pair}
use Rattle.frame_model.specs.Flights.{rows_of}
use Rattle.scram_types.specs.declared.rows.Row.{Row}

-- The place of each processor in a state.
abbrev pub places_in : Pair → ℕ → Place
places_in s p = (s.proc p).place

-- The kernel of unit `u` has ended the frames in which the unit has noted every processor.
abbrev pub IsKernelOf : PairParts → ℕ → KernelParts → Type 0
IsKernelOf pair u kernel = kernel ≡ kernel_after pair.spec pair.script (noted_frames (pair_flight pair) (unit_in pair u))

-- The rows of the frames in which unit `u` of the pair has noted every processor.
abbrev pub rows_noted : PairParts → ℕ → List Row
rows_noted pair u = take (noted_frames (pair_flight pair) (unit_in pair u)) (rows_of pair.spec pair.script)

-- `kernel` is the kernel of unit 0, and `other` is the kernel of unit 1. The processors in flight are at the places
-- that they have in the state of the pair.
pub record PairCoreKeeps {X : Type 0} {Y : X → Type 0} (pair : PairParts) (kernel other : KernelParts) (crew : List (Flyer X Y)) : Type 0 where
  pub first : IsKernelOf pair 0 kernel
  pub second : IsKernelOf pair 1 other
  pub flyers : AreFlyersAt (pair_flight pair) (places_in (pair_in pair)) crew

-- A processor in flight after its draft of frame `f`, given the step of its halt in the frame. The processor is
-- unchanged if the step is `None`. Otherwise it has halted.
abbrev pub flyer_after : {X : Type 0} {Y : X → Type 0} → Option ℕ → ℕ → Flyer X Y → Flyer X Y
flyer_after None f flyer = flyer
flyer_after (Some s) f flyer = flyer_halted f flyer

-- The event is `Ready`, `Meet`, `Release` or `Stop`. Such an event of a unit involves neither a processor nor a word.
abbrev pub IsTurn : PairEvent → Type 0
IsTurn (Fly p u) = ⊥
IsTurn (Note u p) = ⊥
IsTurn (Store u i) = ⊥
IsTurn (Ready u) = Unit {0}
IsTurn (Meet u) = Unit {0}
IsTurn (Release u) = Unit {0}
IsTurn (Stop u) = Unit {0}

-- The event is neither a frame of a processor nor a note.
abbrev pub IsQuiet : PairEvent → Type 0
IsQuiet (Fly p u) = ⊥
IsQuiet (Note u p) = ⊥
IsQuiet (Store u i) = Unit {0}
IsQuiet (Ready u) = Unit {0}
IsQuiet (Meet u) = Unit {0}
IsQuiet (Release u) = Unit {0}
IsQuiet (Stop u) = Unit {0}
