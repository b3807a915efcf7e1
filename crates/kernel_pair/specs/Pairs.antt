-- Pairs of kernel units with their processors: the words of each actor, the next events, and the effect of an event.
use Rattle.std.specs.Prelude.{◌≤◌, ◌≡◌, ◌⊎◌, ℕ, suc, ◌+◌, ◌-◌, ◌*◌, ◌%◌, ◌<◌, Bool, false, ◌&&◌, ◌||◌, List, [], ◌∷◌, Option, Some, None, is_some, if◌then◌else◌, nat_lt, nat_le, nat_eq}
use Rattle.scram_types.specs.Lookups.{proc_id}
use Rattle.fail_stop.specs.Ends.{IsDone}
use Rattle.fail_stop.specs.Events.{Place, At, Halted, after_frame, may_note}
use Rattle.fail_stop.specs.Flights.{Flight, word_in, reaches_mark, end_word_after, stores_by}
use Rattle.kernel_pair.specs.declared.events.UnitHalt.{UnitHalt}
use Rattle.kernel_pair.specs.declared.events.PairEvent.{PairEvent}
use Rattle.kernel_pair.specs.declared.events.PairEvent.TheVariants.{Fly, Note, Store, Ready, Meet, Release, Stop}

-- A processor between two of its frames: its place, its mark, its end word and its banks. `bank b i` is word `i` of
-- bank `b`.
pub record Processor : Type 0 where
  pub place : Place
  pub mark : ℕ
  pub end : ℕ
  pub bank : ℕ → ℕ → ℕ

-- A unit: its frame, the number of steps made in the frame, and the frame of its halt if it has halted. It also has
-- its release word, its ready word, its 20 kernel words, and the marks and the words of the images that it has noted.
pub record KernelUnit : Type 0 where
  pub frame : ℕ
  pub step : ℕ
  pub stopped : Option ℕ
  pub release : ℕ
  pub ready : ℕ
  pub kernel : ℕ → ℕ
  pub marks : ℕ → ℕ
  pub images : ℕ → ℕ → ℕ

-- The processors and the units of a pair.
pub record Pair : Type 0 where
  pub proc : ℕ → Processor
  pub unit : ℕ → KernelUnit

-- The number of the other unit.
abbrev pub other_unit : ℕ → ℕ
other_unit u = 1 - u

-- The frame of a restart if it comes after frame `h`, or `None` if there is no such restart.
abbrev pub restart_past : ℕ → Option ℕ → Option ℕ
restart_past h None = None
restart_past h (Some r) = if nat_lt h r then Some r else None

-- The frame that a processor makes next, or `None` if it has halted for good. If the processor is at the beginning of
-- a frame, it makes that frame. If it has halted, it makes the frame of its restart.
abbrev pub frame_to_make : Option ℕ → Place → Option ℕ
frame_to_make restart (At f n) = Some f
frame_to_make restart (Halted h) = restart_past h restart

-- The processor makes a further frame, and that frame is below the release word.
abbrev pub MakesReleased : Option ℕ → Place → ℕ → Type 0
MakesReleased restart place release = (f : ℕ) × (frame_to_make restart place ≡ Some f) × (f < release)

-- The exclusive upper limit of the number of steps after which a unit may halt in frame `f`. A halt may follow all
-- steps of a frame. In the last frame the halt must come before the last note.
abbrev pub halts_below : Flight → ℕ → ℕ
halts_below m f = if nat_lt (suc f) m.frames then m.procs + 24 else m.procs

-- Whether a unit in frame `k` after `j` steps has made exactly the steps before its halt. After all steps of a frame
-- the unit is at the beginning of the next frame.
abbrev pub is_at_halt : Flight → UnitHalt → ℕ → ℕ → Bool
is_at_halt m h k j = (nat_eq k h.frame && nat_eq j h.step) || (nat_eq h.step (m.procs + 23) && (nat_eq k (suc h.frame) && nat_eq j 0))

-- Whether unit `u` halts in frame `k` after `j` steps.
abbrev pub stops_at : Flight → Option UnitHalt → ℕ → ℕ → ℕ → Bool
stops_at m None u k j = false
stops_at m (Some h) u k j = nat_eq u h.unit && (nat_lt h.frame m.frames && (nat_lt h.step (halts_below m h.frame) && is_at_halt m h k j))

-- The frame of a halt, or 0 if there is none.
abbrev pub halt_frame : Option UnitHalt → ℕ
halt_frame None = 0
halt_frame (Some h) = h.frame

-- Whether a unit in frame `k` may meet the other unit, given the other unit's ready word. The other unit must have been
-- ready in the frame or have halted.
abbrev pub may_meet : ℕ → ℕ → Bool
may_meet k ready = nat_le (2 * suc k) ready || nat_eq (ready % 2) 1

-- The event of unit `u` in frame `k` after `j` steps, once the unit has noted all processors, or `None` if the unit
-- waits. `ready` is the other unit's ready word.
abbrev pub plan_noted : Flight → ℕ → ℕ → ℕ → ℕ → Option PairEvent
plan_noted m u k j ready =
    if nat_lt j (m.procs + 20) then Some (Store u (j - m.procs))
    else (if nat_eq j (m.procs + 20) then Some (Ready u)
    else (if nat_eq j (m.procs + 21) then (if may_meet k ready then Some (Meet u) else None)
    else (if nat_eq j (m.procs + 22) then Some (Release u) else None)))

-- The event of unit `u` in frame `k` after `j` steps, or `None` if it waits or has made its last note. `ready` is the
-- other unit's ready word, and `ends` are the end words.
abbrev pub plan_unit : Flight → ℕ → ℕ → ℕ → ℕ → (ℕ → ℕ) → Option PairEvent
plan_unit m u k j ready ends =
    if nat_lt j m.procs then (if may_note m j k (ends j) then Some (Note u (proc_id j)) else None)
    else (if nat_lt (suc k) m.frames then plan_noted m u k j ready else None)

-- The next event of unit `u`, which has state `x` and has not halted, or `None` if the unit waits or has made its
-- last note. `ready` is the other unit's ready word, and `ends` are the end words. `stops` is `true` if the unit
-- halts before its next step.
abbrev pub next_going : Flight → ℕ → KernelUnit → ℕ → (ℕ → ℕ) → Bool → Option PairEvent
next_going m u x ready ends stops = if stops then Some (Stop u) else plan_unit m u x.frame x.step ready ends

-- The next event of unit `u` with state `x`, given the other unit's ready word and the end words of the processors.
-- It is `None` if the unit waits, has halted or has made its last note, or if the flight has no frame.
abbrev pub next_by : Flight → Option UnitHalt → ℕ → KernelUnit → ℕ → (ℕ → ℕ) → Option PairEvent
next_by m halt u x ready ends =
    if nat_eq m.frames 0 then None
    else (if is_some x.stopped then None else next_going m u x ready ends (stops_at m halt u x.frame x.step))

-- The next event of unit `u`. It is `None` if the unit waits for a processor or for the other unit, has halted or has
-- made its last note, or if the flight has no frame.
abbrev pub next_unit : Flight → Option UnitHalt → Pair → ℕ → Option PairEvent
next_unit m halt s u = next_by m halt u (s.unit u) (s.unit (other_unit u)).ready (λ p. (s.proc p).end)

-- The event is a next event of its actor in state `s`. A processor may have two next events: its next frame by the
-- words of unit 0, and the same frame by the words of unit 1.
abbrev pub IsPairNext : Flight → Option UnitHalt → Pair → PairEvent → Type 0
IsPairNext m halt s (Fly p u) = (p.0 < m.procs) × (u < 2) × MakesReleased (m.restart p.0) (s.proc p.0).place (s.unit u).release
IsPairNext m halt s (Note u p) = (u < 2) × (next_unit m halt s u ≡ Some (Note u p))
IsPairNext m halt s (Store u i) = (u < 2) × (next_unit m halt s u ≡ Some (Store u i))
IsPairNext m halt s (Ready u) = (u < 2) × (next_unit m halt s u ≡ Some (Ready u))
IsPairNext m halt s (Meet u) = (u < 2) × (next_unit m halt s u ≡ Some (Meet u))
IsPairNext m halt s (Release u) = (u < 2) × (next_unit m halt s u ≡ Some (Release u))
IsPairNext m halt s (Stop u) = (u < 2) × (next_unit m halt s u ≡ Some (Stop u))

-- Processor `p` with state `x` after it has made frame `f`. The bank that its mark did not name contains its draft,
-- whole or up to its halt.
abbrev pub frame_made : Flight → ℕ → ℕ → Processor → Processor
frame_made m p f x = record {
  place = after_frame f (m.halt p f);
  mark = if reaches_mark m.width (m.halt p f) then 2 * suc f + (1 - x.mark % 2) else x.mark;
  end = end_word_after f (m.halt p f);
  bank = λ b i. if nat_eq b (1 - x.mark % 2) && nat_lt i (stores_by m.width (m.halt p f)) then word_in (m.draft p f) i else x.bank b i;
}

-- Processor `p` after the frame that it makes next, or unchanged if there is none.
abbrev pub next_made : Flight → ℕ → Option ℕ → Processor → Processor
next_made m p None x = x
next_made m p (Some f) x = frame_made m p f x

-- A unit after a step that changes no word.
abbrev pub stepped : KernelUnit → KernelUnit
stepped x = record {
  frame = x.frame;
  step = suc x.step;
  stopped = x.stopped;
  release = x.release;
  ready = x.ready;
  kernel = x.kernel;
  marks = x.marks;
  images = x.images;
}

-- A unit after its note of processor `p` with state `y`. It has the processor's mark, and the words of the bank that
-- the mark names.
abbrev pub noted : ℕ → Processor → KernelUnit → KernelUnit
noted p y x = record {
  frame = x.frame;
  step = suc x.step;
  stopped = x.stopped;
  release = x.release;
  ready = x.ready;
  kernel = x.kernel;
  marks = λ q. if nat_eq q p then y.mark else x.marks q;
  images = λ q i. if nat_eq q p then y.bank (y.mark % 2) i else x.images q i;
}

-- A unit after a store of word `i` of the kernel image of the next frame.
abbrev pub stored : Flight → ℕ → KernelUnit → KernelUnit
stored m i x = record {
  frame = x.frame;
  step = suc x.step;
  stopped = x.stopped;
  release = x.release;
  ready = x.ready;
  kernel = λ d. if nat_eq d i then word_in (m.kernel_image (suc x.frame)) i else x.kernel d;
  marks = x.marks;
  images = x.images;
}

-- A unit after it has signalled that it is ready.
abbrev pub readied : KernelUnit → KernelUnit
readied x = record {
  frame = x.frame;
  step = suc x.step;
  stopped = x.stopped;
  release = x.release;
  ready = 2 * suc x.frame;
  kernel = x.kernel;
  marks = x.marks;
  images = x.images;
}

-- A unit after it has released the next frame, at the beginning of that frame.
abbrev pub released : KernelUnit → KernelUnit
released x = record {
  frame = suc x.frame;
  step = 0;
  stopped = x.stopped;
  release = suc (suc x.frame);
  ready = x.ready;
  kernel = x.kernel;
  marks = x.marks;
  images = x.images;
}

-- A unit after a halt in frame `t`.
abbrev pub halted_unit : ℕ → KernelUnit → KernelUnit
halted_unit t x = record {
  frame = x.frame;
  step = x.step;
  stopped = Some t;
  release = x.release;
  ready = 2 * t + 1;
  kernel = x.kernel;
  marks = x.marks;
  images = x.images;
}

-- The family `g` with `a` as its member at index `i`.
abbrev pub with_at : {A : Type 0} → (ℕ → A) → ℕ → A → ℕ → A
with_at {A} g i a j = if nat_eq j i then a else g j

-- The state `s` with `x` in place of unit `u`.
abbrev pub with_unit : Pair → ℕ → KernelUnit → Pair
with_unit s u x = record { proc = s.proc; unit = with_at s.unit u x }

-- The state `s` with `y` in place of processor `p`.
abbrev pub with_proc : Pair → ℕ → Processor → Pair
with_proc s p y = record { proc = with_at s.proc p y; unit = s.unit }

-- The state after an event.
abbrev pub pair_after : Flight → Option UnitHalt → Pair → PairEvent → Pair
pair_after m halt s (Fly p u) = with_proc s p.0 (next_made m p.0 (frame_to_make (m.restart p.0) (s.proc p.0).place) (s.proc p.0))
pair_after m halt s (Note u p) = with_unit s u (noted p.0 (s.proc p.0) (s.unit u))
pair_after m halt s (Store u i) = with_unit s u (stored m i (s.unit u))
pair_after m halt s (Ready u) = with_unit s u (readied (s.unit u))
pair_after m halt s (Meet u) = with_unit s u (stepped (s.unit u))
pair_after m halt s (Release u) = with_unit s u (released (s.unit u))
pair_after m halt s (Stop u) = with_unit s u (halted_unit (halt_frame halt) (s.unit u))

-- A processor at the opening. Its bank 0 holds its start image, and its bank 1 holds zeros.
pub record IsFirstProcessor (m : Flight) (p : ℕ) (x : Processor) : Type 0 where
  pub place : x.place ≡ At 0 0
  pub mark : x.mark ≡ 0
  pub end : x.end ≡ 0
  pub bank : (b i : ℕ) → b < 2 → i < m.width → x.bank b i ≡ (if nat_eq b 0 then word_in (m.start p) i else 0)

-- A unit at the opening. It has released frame 0 if there is such a frame, and has the words of frame 0.
pub record IsFirstUnit (m : Flight) (x : KernelUnit) : Type 0 where
  pub frame : x.frame ≡ 0
  pub step : x.step ≡ 0
  pub stopped : x.stopped ≡ None
  pub release : x.release ≡ (if nat_eq m.frames 0 then 0 else 1)
  pub ready : x.ready ≡ 0
  pub kernel : (i : ℕ) → i < 20 → x.kernel i ≡ word_in (m.kernel_image 0) i

-- Each processor and each unit of the state is at the opening. Entries past the last processor, the last unit and the
-- last word are arbitrary.
pub record IsPairOpening (m : Flight) (s : Pair) : Type 0 where
  pub processors : (p : ℕ) → p < m.procs → IsFirstProcessor m p (s.proc p)
  pub units : (u : ℕ) → u < 2 → IsFirstUnit m (s.unit u)

-- The events lead from state `s` to state `t`, and each is a next event of its actor in the state where it is made.
abbrev pub IsPairSchedule : Flight → Option UnitHalt → Pair → List PairEvent → Pair → Type 0
IsPairSchedule m halt s [] t = t ≡ s
IsPairSchedule m halt s (e ∷ es) t = IsPairNext m halt s e × IsPairSchedule m halt (pair_after m halt s e) es t

-- The events are a schedule from some opening to state `s`.
pub record IsPairReplay (m : Flight) (halt : Option UnitHalt) (events : List PairEvent) (s : Pair) : Type 0 where
  pub first : Pair
  pub opening : IsPairOpening m first
  pub schedule : IsPairSchedule m halt first events s

-- The unit has made its last note.
pub record IsAtEnd (m : Flight) (x : KernelUnit) : Type 0 where
  pub last : suc x.frame ≡ m.frames
  pub noted_all : m.procs ≤ x.step

-- The pair is over. The flight has no frame, or each processor has made all frames or has halted for good and each
-- unit that has not halted has made its last note.
abbrev pub IsPairOver : Flight → Pair → Type 0
IsPairOver m s = (m.frames ≡ 0)
    ⊎ (((p : ℕ) → p < m.procs → IsDone m p (s.proc p).place) × ((u : ℕ) → u < 2 → (s.unit u).stopped ≡ None → IsAtEnd m (s.unit u)))
