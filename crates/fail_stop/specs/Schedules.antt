-- Schedules from the opening state, and flights whose halts and restarts decide which processors are up.
use Rattle.std.specs.Prelude.{◌≡◌, ℕ, zero, suc, ◌+◌, ◌≤◌, Bool, true, false, ◌&&◌, ◌||◌, List, [], ◌∷◌, Option, Some, None, is_none, is_some, if◌then◌else◌, nat_eq}
use Rattle.fail_stop.specs.Flights.{Flight, back_by}
use Rattle.bank_words.specs.declared.events.Event.{Event}
use Rattle.fail_stop.specs.Events.{Places, Word, IsNext, proc_after, frame_after, step_after, writes, written}
use Rattle.fail_stop.specs.Kept.{opening_places, opening_words}

-- A state of the machine: places and words.
pub record Machine : Type 0 where
  pub at : Places
  pub words : Word → ℕ

-- The state after an event.
abbrev pub happened : Flight → Machine → Event → Machine
happened m s e = record {
  at = record { proc = proc_after m s.at e; frame = frame_after s.at e; step = step_after s.at e };
  words = written (writes m s.at s.words e) s.words;
}

-- The opening state.
abbrev pub opening : Flight → Machine
opening m = record { at = opening_places; words = opening_words m }

-- The events take state `s` to state `t`, and each is the next event of its actor in the state in which it is made.
abbrev pub IsSchedule : Flight → Machine → List Event → Machine → Type 0
IsSchedule m s [] t = t ≡ s
IsSchedule m s (e ∷ es) t = IsNext m s.at s.words e × IsSchedule m (happened m s e) es t

-- Whether there is a restart, and it is in frame `f`.
abbrev pub is_frame : Option ℕ → ℕ → Bool
is_frame None f = false
is_frame (Some r) f = nat_eq r f

-- Whether a processor is up in a frame, computed frame by frame from the halts below the frame and the restart.
unfoldable pub up_by : (ℕ → Option ℕ) → Option ℕ → ℕ → Bool
up_by halt restart zero = true
up_by halt restart (suc f) = (up_by halt restart f && is_none (halt f)) || is_frame restart (suc f)

-- The frame of the latest halt below frame `f`, or `None` if there is none.
abbrev pub latest : (ℕ → Option ℕ) → ℕ → Option ℕ
latest halt zero = None
latest halt (suc f) = if is_some (halt f) then Some f else latest halt f

-- Whether a processor is up in frame `f`, given its latest halt below `f` and its restart, if there are any.
abbrev pub is_up_after : Option ℕ → Option ℕ → ℕ → Bool
is_up_after None restart f = true
is_up_after (Some h) restart f = back_by restart h f

-- The halts and restarts of a flight decide which processors are up. Each halt comes before the flip of its frame, or
-- directly after it.
pub record IsUpBy (m : Flight) : Type 0 where
  pub up : (p f : ℕ) → m.up p f ≡ is_up_after (latest (m.halt p) f) (m.restart p) f
  pub steps : (p f s : ℕ) → m.halt p f ≡ Some s → s ≤ m.width + 1
