-- The invariant of every state that a schedule of a pair reaches. It relates the words of each actor to the actor's
-- place, and the places of the actors to each other.
use Rattle.std.specs.Prelude.{◌≡◌, ℕ, suc, ◌+◌, ◌*◌, ◌<◌, ◌≤◌, true, Option, Some, None, if◌then◌else◌, nat_lt}
use Rattle.fail_stop.specs.Flights.{Flight, word_in, mark_before, end_before, image_before}
use Rattle.fail_stop.specs.Events.{Place, At, Halted}
use Rattle.fail_stop.specs.Kept.{mark_at, end_at, bank_at, kernel_at, release_at}
use Rattle.kernel_pair.specs.declared.events.UnitHalt.{UnitHalt}
use Rattle.kernel_pair.specs.Pairs.{Processor, KernelUnit, Pair, other_unit, frame_to_make}

-- Processor `p` may be at the beginning of frame `f`. The number `n` of its steps is 0, and `f` is at most the number
-- of frames. The processor is up in frame `f` and is done with the preceding frame.
pub record Waiting (m : Flight) (p f n : ℕ) : Type 0 where
  pub fresh : n ≡ 0
  pub within : f ≤ m.frames
  pub up : m.up p f ≡ true
  pub done : end_before m p f ≡ 2 * f

-- Processor `p` may have halted in frame `h`: it is up and has a halt in that frame.
pub record Down (m : Flight) (p h : ℕ) : Type 0 where
  pub step : ℕ
  pub up : m.up p h ≡ true
  pub halts : m.halt p h ≡ Some step

-- Processor `p` may be at the place. It is at the beginning of a frame (`Waiting`) or has halted in one (`Down`).
abbrev pub IsStanding : Flight → ℕ → Place → Type 0
IsStanding m p (At f n) = Waiting m p f n
IsStanding m p (Halted h) = Down m p h

-- Processor `p` may be at the place of `x`, and the mark, the end word and the banks of `x` agree with this place.
pub record IsProcessor (m : Flight) (p : ℕ) (x : Processor) : Type 0 where
  pub place : IsStanding m p x.place
  pub mark : x.mark ≡ mark_at m p x.place
  pub end : x.end ≡ end_at m p x.place
  pub bank : (b i : ℕ) → b < 2 → i < m.width → x.bank b i ≡ bank_at m p x.place b i

-- The number of frames in which a unit has been ready, if it is in frame `k` after `j` steps.
abbrev pub readies : Flight → ℕ → ℕ → ℕ
readies m k j = if nat_lt (m.procs + 20) j then suc k else k

-- The number of frames in which a unit has met the other unit, if it is in frame `k` after `j` steps.
abbrev pub meetings : Flight → ℕ → ℕ → ℕ
meetings m k j = if nat_lt (m.procs + 21) j then suc k else k

-- The ready word of a unit in frame `k` after `j` steps, given the frame of its halt. It is `2 * t + 1` if the unit
-- has halted in frame `t`. Otherwise it is twice the number of frames in which the unit has been ready.
abbrev pub ready_at : Flight → Option ℕ → ℕ → ℕ → ℕ
ready_at m None k j = 2 * readies m k j
ready_at m (Some t) k j = 2 * t + 1

-- Unit `u` is the unit that the halt names.
pub record IsNamed (halt : Option UnitHalt) (u : ℕ) : Type 0 where
  pub named : UnitHalt
  pub is : halt ≡ Some named
  pub unit : u ≡ named.unit

-- The words of unit `u`, and the marks and images that the unit has noted, agree with the unit's frame and step. The
-- unit has halted only if the halt names it. If the flight has no frame, the unit has made no step.
pub record IsUnit (m : Flight) (halt : Option UnitHalt) (u : ℕ) (x : KernelUnit) : Type 0 where
  pub below : 0 < m.frames → x.frame < m.frames
  pub still : m.frames ≡ 0 → (x.frame ≡ 0) × (x.step ≡ 0)
  pub steps : x.step ≤ m.procs + 22
  pub ending : m.procs < x.step → suc x.frame < m.frames
  pub release : x.release ≡ release_at m x.frame
  pub ready : x.ready ≡ ready_at m x.stopped x.frame x.step
  pub kernel : (i : ℕ) → i < 20 → x.kernel i ≡ kernel_at m x.frame x.step i
  pub stops : (t : ℕ) → x.stopped ≡ Some t → IsNamed halt u
  pub marks : (p : ℕ) → p < m.procs → p < x.step → x.marks p ≡ mark_before m p (suc x.frame)
  pub images : (p i : ℕ) → p < m.procs → p < x.step → i < m.width → x.images p i ≡ word_in (image_before m p (suc x.frame)) i

-- Frame `f` of processor `p` is at least frame `k` of a unit. If the unit has noted `p` within its first `j` steps,
-- then `f` is above `k`.
abbrev pub NotBelow : ℕ → ℕ → ℕ → ℕ → Type 0
NotBelow k j p f = (k ≤ f) × (p < j → k < f)

-- The frame that processor `p` makes next is at least the frame of a unit. If the unit has noted `p`, the processor's
-- frame is above the frame of the unit.
abbrev pub IsAhead : Flight → ℕ → Place → KernelUnit → Type 0
IsAhead m p place x = (f : ℕ) → frame_to_make (m.restart p) place ≡ Some f → NotBelow x.frame x.step p f

-- The number of frames that are past for a processor at a place. A frame in which the processor has halted is past.
abbrev pub frames_past : Place → ℕ
frames_past (At f n) = f
frames_past (Halted h) = suc h

-- Some unit has released every frame that is past for a processor at this place.
pub record IsReached (units : ℕ → KernelUnit) (place : Place) : Type 0 where
  pub unit : ℕ
  pub there : unit < 2
  pub high : frames_past place ≤ suc (units unit).frame

-- Unless unit `y` has halted, the number of frames in which unit `x` has met unit `y` is at most the number of frames
-- in which `y` has been ready.
abbrev pub HasMet : Flight → KernelUnit → KernelUnit → Type 0
HasMet m x y = y.stopped ≡ None → meetings m x.frame x.step ≤ readies m y.frame y.step

-- The invariant of a state of a pair. `IsUnit` holds for each unit, `IsProcessor` and `IsReached` for each processor,
-- `IsAhead` for each processor and each unit, and `HasMet` for each unit and the other unit.
pub record PairKept (m : Flight) (halt : Option UnitHalt) (s : Pair) : Type 0 where
  pub units : (u : ℕ) → u < 2 → IsUnit m halt u (s.unit u)
  pub processors : (p : ℕ) → p < m.procs → IsProcessor m p (s.proc p)
  pub ahead : (u p : ℕ) → u < 2 → p < m.procs → IsAhead m p (s.proc p).place (s.unit u)
  pub reached : (p : ℕ) → p < m.procs → IsReached s.unit (s.proc p).place
  pub met : (u : ℕ) → u < 2 → HasMet m (s.unit u) (s.unit (other_unit u))
