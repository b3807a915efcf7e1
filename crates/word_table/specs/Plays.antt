-- The effects of steps, as relations between a step, the seat before it, the number `n` that the step found, and the
-- seat `after` it.
use Rattle.std.specs.Prelude.{◌≡◌, ◌+◌, ◌-◌, ◌<◌, ℕ, suc, Bool, false, List, [], ◌∷◌, ◌++◌, map, slice_index, None, IfSome, nat_eq, nat_lt}
use Rattle.std.specs.Bool.{MatchBool}
use Rattle.atomic_table.specs.Table.{Me, Step}
use Rattle.fail_stop.specs.Events.{At, EndWord, Halted, Places, ReleaseWord, may_note}
use Rattle.fail_stop.specs.Flights.{Flight, word_in}
use Rattle.fail_stop.specs.Kept.{Kept}
use Rattle.fail_stop.specs.Listed.{index_of, stored_in}
use Rattle.word_table.specs.declared.actors.Actor.{Actor}
use Rattle.word_table.specs.declared.actors.Actor.TheVariants.{Runs, Stopped, Kernel}
use Rattle.word_table.specs.declared.actors.View.{View}
use Rattle.word_table.specs.Actors.{StandsAt, Waits, awaited, begun, halted_actor, mission_flight, next_frame, one_more, tried, with_actors}

-- The state of a seat of the table: a view and no slots.
abbrev pub Sat : Type 0
Sat = Me (Unit {0}) View

-- A step at the table.
abbrev pub Stepped : Type 0
Stepped = Step (Unit {0})

-- The seat has view `v` and no slots.
abbrev pub Has : Sat → View → Type 0
Has me v = (me.0 ≡ v) × (me.1 ≡ [])

-- Each actor of the list is at its place in `at`.
abbrev pub AllStand : Places → List Actor → Type 0
AllStand at [] = Unit {0}
AllStand at (a ∷ rest) = StandsAt at a × AllStand at rest

-- In some state that satisfies `Kept`, the actors of the list are at their places and `n` is the word at place `i`.
pub record IsFound (m : Flight) (actors : List Actor) (i n : ℕ) : Type 0 where
  pub at : Places
  pub list : List ℕ
  pub kept : Kept m at (stored_in list)
  pub value : n ≡ slice_index list i
  pub stand : AllStand at actors

-- A load at place `i` by a seat with view `v` may find `n`.
abbrev pub ShowsWord : View → ℕ → ℕ → Type 0
ShowsWord v i n = IfSome v.mission (λ mission. IsFound (mission_flight mission) v.actors i n)

-- The view `v` with `go` applied to each of its actors.
abbrev pub each_actor : (Actor → Actor) → View → View
each_actor go v = with_actors v (map go v.actors)

-- The first actor is a processor that waits for a release, and the word at place `i` is the release word.
abbrev pub AwaitsRelease : Flight → ℕ → List Actor → Type 0
AwaitsRelease m i [] = ⊥
AwaitsRelease m i (Runs p f n ∷ rest) = (i ≡ index_of ReleaseWord) × Waits m p (At f n)
AwaitsRelease m i (Stopped p h ∷ rest) = (i ≡ index_of ReleaseWord) × Waits m p (Halted h)
AwaitsRelease m i (Kernel k j ∷ rest) = ⊥

-- The first actor is the kernel, and the word at place `i` is the end word of the processor that it notes next.
abbrev pub AwaitsEnd : Flight → ℕ → List Actor → Type 0
AwaitsEnd m i [] = ⊥
AwaitsEnd m i (Runs p f n ∷ rest) = ⊥
AwaitsEnd m i (Stopped p h ∷ rest) = ⊥
AwaitsEnd m i (Kernel k j ∷ rest) = (k < m.frames) × (j < m.procs) × (i ≡ index_of (EndWord j))

-- Whether the first actor may start the frame for which it waits, if the release word is `release`. The value is
-- `false` if there is no actor.
abbrev pub may_start : Flight → List Actor → ℕ → Bool
may_start m [] release = false
may_start m (a ∷ rest) release = nat_lt (awaited m a) release

-- Whether the first actor is the kernel and may note its next processor, if that processor's end word is `end`.
abbrev pub can_note : Flight → List Actor → ℕ → Bool
can_note m [] end = false
can_note m (Runs p f n ∷ rest) end = false
can_note m (Stopped p h ∷ rest) end = false
can_note m (Kernel k j ∷ rest) end = may_note m j k end

-- If `ready` is `true`, `go` is applied to each actor of the view. Otherwise the view counts another load that found
-- nothing ready.
abbrev pub GoesOrTries : Bool → (Actor → Actor) → View → Sat → Type 0
GoesOrTries ready go v after = MatchBool ready (Has after (each_actor go v)) (Has after (tried v))

-- If `waits` holds, the seat changes as `GoesOrTries` states. Otherwise the seat still has the view `v`.
abbrev pub MovesIfWaiting : Type 0 → Bool → (Actor → Actor) → View → Sat → Type 0
MovesIfWaiting waits ready go v after = (waits → GoesOrTries ready go v after) × (¬ waits → Has after v)

-- `after` is what a seat with view `v` becomes by a load at place `i` that found `n`. If the first actor waits for
-- this word and may start, each actor has started its frame. If the first actor waits for this word and may not
-- start, the view counts another try. Otherwise the view does not change.
abbrev pub IsAfterStart : Flight → ℕ → ℕ → View → Sat → Type 0
IsAfterStart m i n v after = MovesIfWaiting (AwaitsRelease m i v.actors) (may_start m v.actors n) (begun m) v after

-- `after` is what a seat with view `v` becomes by a load at place `i` that found `n`. If the first actor is the
-- kernel, waits for this word and may note the processor, each actor has made a step. If the kernel waits for this
-- word and may not note, the view counts another try. Otherwise the view does not change.
abbrev pub IsAfterNote : Flight → ℕ → ℕ → View → Sat → Type 0
IsAfterNote m i n v after = MovesIfWaiting (AwaitsEnd m i v.actors) (can_note m v.actors n) one_more v after

-- The word that the first actor stores next, if its next step is a store into a bank or a store of one of the
-- kernel's words. The value is 0 if there is no actor or the first actor is a halted processor.
abbrev pub word_due : Flight → List Actor → ℕ
word_due m [] = 0
word_due m (Runs p f n ∷ rest) = word_in (m.draft p f) (n - (m.procs + 1))
word_due m (Stopped p h ∷ rest) = 0
word_due m (Kernel k j ∷ rest) = word_in (m.kernel_image (suc k)) (j - m.procs)

-- If the condition is `true`, each actor makes a step. Otherwise the seat still has the view `v`.
abbrev pub StepsIf : Bool → View → Sat → Type 0
StepsIf condition v after = MatchBool condition (Has after (each_actor one_more v)) (Has after v)

-- A load that is not an event finds a word and does not change the seat.
abbrev pub reads : Stepped → Sat → ℕ → Sat → Type 0
reads s me n after = Has after me.0 × ShowsWord me.0 s.word n

-- A load that is a look finds a word and is a step of the actor.
abbrev pub looks : Stepped → Sat → ℕ → Sat → Type 0
looks s me n after = Has after (each_actor one_more me.0) × ShowsWord me.0 s.word n

-- A load of the release word by a processor that waits for a frame is a start or a try. Any other load does not
-- change the seat.
abbrev pub starts : Stepped → Sat → ℕ → Sat → Type 0
starts s me n after = IfSome me.0.mission (λ mission. IsAfterStart (mission_flight mission) s.word n me.0 after)

-- A load of the end word for which the kernel waits is a note or a try. Any other load does not change the seat. In
-- each case, the word found is one that the seat may find.
abbrev pub notes : Stepped → Sat → ℕ → Sat → Type 0
notes s me n after = IfSome me.0.mission (λ mission. IsAfterNote (mission_flight mission) s.word n me.0 after) × ShowsWord me.0 s.word n

-- A store of a mark, of a word in a bank, or of one of the kernel's words is a step of the actor.
abbrev pub stores : Stepped → Sat → ℕ → Sat → Type 0
stores s me n after = Has after (each_actor one_more me.0)

-- A load that finds the value to be stored is a step of the actor. Any other load does not change the seat.
abbrev pub confirms : Stepped → Sat → ℕ → Sat → Type 0
confirms s me n after = IfSome me.0.mission (λ mission. StepsIf (nat_eq n (word_due (mission_flight mission) me.0.actors)) me.0 after)

-- A store of the release word, or of the end word of a finished frame, puts the actor at the start of the next frame.
abbrev pub finishes_frame : Stepped → Sat → ℕ → Sat → Type 0
finishes_frame s me n after = Has after (each_actor next_frame me.0)

-- A store of the end word of a frame in which the processor halts leaves the actor halted.
abbrev pub halts : Stepped → Sat → ℕ → Sat → Type 0
halts s me n after = Has after (each_actor halted_actor me.0)

-- The list that holds only the first actor of a list, or the empty list if the list is empty.
abbrev pub first_of : List Actor → List Actor
first_of [] = []
first_of (a ∷ rest) = a ∷ []

-- The actors of a list after the first.
abbrev pub others_of : List Actor → List Actor
others_of [] = []
others_of (a ∷ rest) = rest

-- The view that remains after a split: all actors but the first.
abbrev pub other_actors : View → View
other_actors v = with_actors v (others_of v.actors)

-- The view of the new seat after a split: the first actor only.
abbrev pub first_actor : View → View
first_actor v = with_actors v (first_of v.actors)

-- The view after a join: the actors of `v` followed by those of `w`.
abbrev pub all_actors : View → View → View
all_actors v w = with_actors v (v.actors ++ w.actors)

-- The view of a seat that a join has used up.
abbrev pub spent : View
spent = record { mission = None; tries = 0; actors = [] }
