-- Actors of a flight, their places, and the views that hold them.
use Rattle.std.specs.Prelude.{◌≡◌, ◌<◌, ◌≤◌, ℕ, zero, suc, Bool, true, false, List, [], ◌∷◌, Option, Some, None}
use Rattle.coverage_check.specs.Missions.{MissionParts}
use Rattle.bank_words.specs.declared.events.Event.{Event}
use Rattle.fail_stop.specs.Events.{At, Halted, Place, Places, plan}
use Rattle.fail_stop.specs.Flights.{Flight}
use Rattle.fail_stop.specs.ScriptFlights.{flight_of}
use Rattle.word_table.specs.declared.actors.Actor.{Actor}
use Rattle.word_table.specs.declared.actors.Actor.TheVariants.{Runs, Stopped, Kernel}
use Rattle.word_table.specs.declared.actors.View.{View}

-- The flight of a mission.
abbrev pub mission_flight : MissionParts → Flight
mission_flight mission = flight_of mission.spec mission.script

-- The number of an actor's processor, or `None` if the actor is the kernel.
abbrev pub who : Actor → Option ℕ
who (Runs p f n) = Some p
who (Stopped p h) = Some p
who (Kernel k j) = None

-- The actor is at its place in `at`.
abbrev pub StandsAt : Places → Actor → Type 0
StandsAt at (Runs p f n) = at.proc p ≡ At f n
StandsAt at (Stopped p h) = at.proc p ≡ Halted h
StandsAt at (Kernel k j) = (at.frame ≡ k) × (at.step ≡ j)

-- The actor for processor `p` at a place.
abbrev pub actor_at : ℕ → Place → Actor
actor_at p (At f n) = Runs p f n
actor_at p (Halted h) = Stopped p h

-- The place of a processor that has made `step` steps of `frame`, or has halted in `frame`.
abbrev pub place_at : ℕ → ℕ → Bool → Place
place_at frame step true = Halted frame
place_at frame step false = At frame step

-- The next step of processor `p` at a place, or `None` if the processor is at the start of a frame or has halted.
abbrev pub step_at : Flight → ℕ → Place → Option Event
step_at m p (At f zero) = None
step_at m p (At f (suc n)) = plan m p f (suc n)
step_at m p (Halted h) = None

-- The number of steps that a processor at a place has made in its frame, or 0 if the processor has halted.
abbrev pub steps_of : Place → ℕ
steps_of (At f n) = n
steps_of (Halted h) = 0

-- A place is within the flight. A processor that has made steps or has halted is in a frame that is flown.
abbrev pub IsInFlight : Flight → Place → Type 0
IsInFlight m (At f n) = (f ≤ m.frames) × (0 < n → f < m.frames)
IsInFlight m (Halted h) = h < m.frames

-- The frame of an optional restart, or frame `h` if the restart is `None`.
abbrev pub restart_or : ℕ → Option ℕ → ℕ
restart_or h None = h
restart_or h (Some r) = r

-- The frame for whose release processor `p` waits at a place. For a halted processor this is the frame of its restart,
-- or the frame of its halt if it has no restart.
abbrev pub frame_awaited : Flight → ℕ → Place → ℕ
frame_awaited m p (At f n) = f
frame_awaited m p (Halted h) = restart_or h (m.restart p)

-- Processor `p` waits for a release. It is at the start of a frame that is flown, or has halted and restarts later.
abbrev pub Waits : Flight → ℕ → Place → Type 0
Waits m p (At f n) = (n ≡ 0) × (f < m.frames)
Waits m p (Halted h) = h < restart_or h (m.restart p)

-- The frame for whose release an actor waits, or the current frame if the actor is the kernel.
abbrev pub awaited : Flight → Actor → ℕ
awaited m (Runs p f n) = frame_awaited m p (At f n)
awaited m (Stopped p h) = frame_awaited m p (Halted h)
awaited m (Kernel k j) = k

-- An actor after it has started the frame for which it waits. The kernel does not change.
abbrev pub begun : Flight → Actor → Actor
begun m (Runs p f n) = Runs p f 1
begun m (Stopped p h) = Runs p (restart_or h (m.restart p)) 1
begun m (Kernel k j) = Kernel k j

-- An actor after one more step. A halted processor does not change.
abbrev pub one_more : Actor → Actor
one_more (Runs p f n) = Runs p f (suc n)
one_more (Stopped p h) = Stopped p h
one_more (Kernel k j) = Kernel k (suc j)

-- An actor at the start of its next frame. A halted processor does not change.
abbrev pub next_frame : Actor → Actor
next_frame (Runs p f n) = Runs p (suc f) 0
next_frame (Stopped p h) = Stopped p h
next_frame (Kernel k j) = Kernel (suc k) 0

-- An actor after it has halted in its frame. A halted processor and the kernel do not change.
abbrev pub halted_actor : Actor → Actor
halted_actor (Runs p f n) = Stopped p f
halted_actor (Stopped p h) = Stopped p h
halted_actor (Kernel k j) = Kernel k j

-- The view `v` with `a` as its only actor.
abbrev pub with_actor : View → Actor → View
with_actor v a = record { mission = v.mission; tries = v.tries; actors = a ∷ [] }

-- The view `v` with `actors` in place of its actors.
abbrev pub with_actors : View → List Actor → View
with_actors v actors = record { mission = v.mission; tries = v.tries; actors = actors }

-- The view `v` after another load that found nothing ready.
abbrev pub tried : View → View
tried v = record { mission = v.mission; tries = suc v.tries; actors = v.actors }
