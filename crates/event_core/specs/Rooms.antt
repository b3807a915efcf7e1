-- Upper bounds on the number of events that can still come.
use Rattle.std.specs.Prelude.{ℕ, zero, suc, ◌+◌, ◌-◌, ◌*◌}
use Rattle.fail_stop.specs.Events.{At, Halted, Place, Places}
use Rattle.fail_stop.specs.Flights.{Flight}

-- The maximum number of events of a processor in a frame: the start, a look at each processor, the stores, the flip,
-- and then the end of the frame or a halt.
abbrev pub events_a_frame : Flight → ℕ
events_a_frame m = m.procs + m.width + 3

-- The maximum number of events that can still come from a processor at this place.
abbrev pub left_at : Flight → Place → ℕ
left_at m (At f n) = (m.frames - f) * events_a_frame m - n
left_at m (Halted h) = (m.frames - suc h) * events_a_frame m

-- The maximum number of events that can still come from the first `n` processors.
abbrev pub left_below : Flight → Places → ℕ → ℕ
left_below m at zero = 0
left_below m at (suc n) = left_below m at n + left_at m (at.proc n)

-- The maximum number of events that can still come from the kernel. In each frame these are a note of each processor,
-- twenty stores and the release.
abbrev pub left_of_kernel : Flight → Places → ℕ
left_of_kernel m at = (m.frames - at.frame) * (m.procs + 21) - at.step

-- The maximum number of events that can still come from all actors.
abbrev pub events_left : Flight → Places → ℕ
events_left m at = left_below m at m.procs + left_of_kernel m at
