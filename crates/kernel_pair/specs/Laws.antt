-- The laws of every pair whose script fits its specification. They hold for any order of events, with or without a halt
-- of one unit.
use Rattle.std.specs.Prelude.{◌≡◌, ◌⊎◌, ℕ, suc, ◌<◌, List, length, Option, None, if◌then◌else◌, nat_le}
use Rattle.scram_types.specs.declared.ids.ProcId.{ProcId}
use Rattle.scram_types.specs.Scripts.{ScriptParts}
use Rattle.scram_types.specs.Specification.{IsSpec, Parts}
use Rattle.bank_words.specs.Marks.{pick}
use Rattle.fault_script.specs.Fits.{Fits}
use Rattle.fault_script.specs.Times.{words as width_of}
use Rattle.frame_model.specs.Storage.{image_bank_after, mark_after}
use Rattle.fail_stop.specs.Flights.{Flight, word_in}
use Rattle.fail_stop.specs.ScriptFlights.{flight_of, image_words_after, kernel_words}
use Rattle.kernel_pair.specs.declared.events.UnitHalt.{UnitHalt}
use Rattle.kernel_pair.specs.declared.events.PairEvent.{PairEvent}
use Rattle.kernel_pair.specs.declared.events.PairEvent.TheVariants.{Fly}
use Rattle.kernel_pair.specs.Pairs.{IsPairNext, IsPairOpening, IsPairOver, IsPairSchedule, KernelUnit, Pair, other_unit}
use Rattle.kernel_pair.specs.Kept.{PairKept}

-- The number of frames in which a unit has noted every processor.
abbrev pub noted_frames : Flight → KernelUnit → ℕ
noted_frames m x = if nat_le m.procs x.step then suc x.frame else x.frame

-- If a unit has released frame `k + 1`, then it has noted every processor in frame `k`. The other unit has noted
-- every processor in frame `k` too, unless the other unit has halted.
abbrev pub BothHaveNoted : Flight → Pair → Type 0
BothHaveNoted m s = (u k : ℕ) → u < 2 → suc k < (s.unit u).release
    → (k < noted_frames m (s.unit u)) × ((s.unit (other_unit u)).stopped ≡ None → k < noted_frames m (s.unit (other_unit u)))

-- The words of unit `u` are the kernel image of frame `f`. For each processor, the bank that a reader in frame `f`
-- picks contains the processor's image as of the start of the frame.
pub record FindsBy (spec : Parts) (script : ScriptParts) (s : Pair) (u f : ℕ) : Type 0 where
  pub kernel : (i : ℕ) → i < 20 → (s.unit u).kernel i ≡ word_in (kernel_words spec script f) i
  pub picked : (q : ℕ) → q < length spec.procs → pick (s.proc q).mark f ≡ image_bank_after spec script q f
  pub held : (q i : ℕ) → q < length spec.procs → i < width_of spec
      → (s.proc q).bank (image_bank_after spec script q f) i ≡ word_in (image_words_after spec script q f) i

-- A processor that may make a frame by the words of a unit finds the words and the images of that frame.
abbrev pub ProcessorsFind : Parts → ScriptParts → Option UnitHalt → Pair → Type 0
ProcessorsFind spec script halt s = (p : ProcId) (u : ℕ) → (next : IsPairNext (flight_of spec script) halt s (Fly p u)) → FindsBy spec script s u next.2.0

-- The mark and the image of processor `p` that unit `x` has noted are those after the unit's frame in the one-thread
-- trace.
pub record HasNoted (spec : Parts) (script : ScriptParts) (x : KernelUnit) (p : ℕ) : Type 0 where
  pub mark : x.marks p ≡ mark_after spec script p (suc x.frame)
  pub image : (i : ℕ) → i < width_of spec → x.images p i ≡ word_in (image_words_after spec script p (suc x.frame)) i

-- The marks and images that each unit has noted are those after the unit's frame in the one-thread trace.
abbrev pub UnitsHaveNoted : Parts → ScriptParts → Pair → Type 0
UnitsHaveNoted spec script s = (u p : ℕ) → u < 2 → p < length spec.procs → p < (s.unit u).step → HasNoted spec script (s.unit u) p

-- Some unit has not halted. If the pair is over, each unit that has not halted has noted all frames.
pub record OneUnitStays (m : Flight) (s : Pair) : Type 0 where
  pub stays : ((s.unit 0).stopped ≡ None) ⊎ ((s.unit 1).stopped ≡ None)
  pub noted_all : IsPairOver m s → (u : ℕ) → u < 2 → (s.unit u).stopped ≡ None → noted_frames m (s.unit u) ≡ m.frames

-- Some processor or some unit has a next event.
abbrev pub HasNext : Flight → Option UnitHalt → Pair → Type 0
HasNext m halt s = (event : PairEvent) × IsPairNext m halt s event

-- The laws of a state of a pair. `BothHaveNoted`, `ProcessorsFind`, `UnitsHaveNoted` and `OneUnitStays` hold. The
-- pair is over, or some processor or some unit has a next event.
pub record PairHolds (spec : Parts) (script : ScriptParts) (halt : Option UnitHalt) (s : Pair) : Type 0 where
  pub both_noted : BothHaveNoted (flight_of spec script) s
  pub found : ProcessorsFind spec script halt s
  pub noted : UnitsHaveNoted spec script s
  pub one_stays : OneUnitStays (flight_of spec script) s
  pub goes_on : IsPairOver (flight_of spec script) s ⊎ HasNext (flight_of spec script) halt s

-- `PairHolds` holds in each state that a schedule reaches from an opening, with or without a halt of one unit.
abbrev pub PairsHold : Type 0
PairsHold = (spec : Parts) (script : ScriptParts) → IsSpec spec → Fits spec script
    → (halt : Option UnitHalt) (first : Pair) (events : List PairEvent) (state : Pair)
    → IsPairOpening (flight_of spec script) first → IsPairSchedule (flight_of spec script) halt first events state → PairHolds spec script halt state

-- The invariant `PairKept` holds in each state that a schedule reaches from an opening, with or without a halt of one
-- unit.
abbrev pub PairsKeep : Type 0
PairsKeep = (spec : Parts) (script : ScriptParts) → Fits spec script → (halt : Option UnitHalt) (first : Pair) (events : List PairEvent) (state : Pair)
    → IsPairOpening (flight_of spec script) first → IsPairSchedule (flight_of spec script) halt first events state → PairKept (flight_of spec script) halt state
