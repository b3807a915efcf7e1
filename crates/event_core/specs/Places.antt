-- The places that a core keeps, as places of the event machine.
use Rattle.std.specs.Prelude.{ℕ, ◌<◌, ◌+◌, ◌^◌, List, replicate, slice_index_or}
use Rattle.event_core.specs.declared.places.Place.{Place as KeptPlace}
use Rattle.event_core.specs.declared.places.Place.TheVariants as kept
use Rattle.event_core.specs.declared.places.Places.{Places as KeptPlaces}
use Rattle.fail_stop.specs.Events.{At, Halted, Place, Places}
use Rattle.fail_stop.specs.Flights.{Flight}

-- A kept place as a place of the machine.
abbrev pub machine_place : KeptPlace → Place
machine_place (kept.At f n) = At f n
machine_place (kept.Halted h) = Halted h

-- The place of processor `p` in a list of places, or the opening place past the end of the list.
abbrev pub kept_place : List KeptPlace → ℕ → KeptPlace
kept_place procs p = slice_index_or procs p (kept.At 0 0)

-- The kept places as places of the machine.
abbrev pub machine_places : KeptPlaces → Places
machine_places places = record { proc = λ p. machine_place (kept_place places.procs p); frame = places.frame; step = places.step }

-- The places at the opening: all actors are at the start of frame 0.
abbrev pub kept_opening : KeptPlaces
kept_opening = record { procs = replicate 8 (kept.At 0 0); frame = 0; step = 0 }

-- The numbers in a place can be increased by one without overflow.
abbrev pub CanGoOn : KeptPlace → Type 0
CanGoOn (kept.At f n) = (f + 1 < 2 ^ 32) × (n + 1 < 2 ^ 32)
CanGoOn (kept.Halted h) = h + 1 < 2 ^ 32

-- A processor at this place has made all looks of its frame, but neither its flip nor its halt.
abbrev pub HasLooked : Flight → Place → Type 0
HasLooked m (At f n) = (m.procs < n) × (n < m.procs + m.width + 2)
HasLooked m (Halted h) = ⊥
