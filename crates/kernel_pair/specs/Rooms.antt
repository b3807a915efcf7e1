-- Upper bounds on the number of events of a pair that remain.
use Rattle.std.specs.Prelude.{ℕ, zero, suc, ◌+◌, ◌-◌, ◌*◌, ◌&&◌, Option, Some, None, is_none, if◌then◌else◌, nat_eq}
use Rattle.fail_stop.specs.Flights.{Flight}
use Rattle.kernel_pair.specs.declared.events.UnitHalt.{UnitHalt}
use Rattle.kernel_pair.specs.Kept.{frames_past}
use Rattle.kernel_pair.specs.Pairs.{Processor, KernelUnit, Pair}

-- The maximum number of frames that the first `n` processors may still make.
abbrev pub frames_below : Flight → (ℕ → Processor) → ℕ → ℕ
frames_below m proc zero = 0
frames_below m proc (suc n) = frames_below m proc n + (m.frames - frames_past (proc n).place)

-- The number of halts of unit `u` that remain, which is 0 or 1.
abbrev pub halt_left : Option UnitHalt → ℕ → KernelUnit → ℕ
halt_left None u x = 0
halt_left (Some h) u x = if nat_eq u h.unit && is_none x.stopped then 1 else 0

-- The maximum number of steps of unit `u` that remain. A frame has a note of each processor, twenty stores and three
-- turns, and the unit may halt.
abbrev pub steps_left : Flight → Option UnitHalt → ℕ → KernelUnit → ℕ
steps_left m halt u x = (m.frames - x.frame) * (m.procs + 23) - x.step + halt_left halt u x

-- The maximum number of events of all actors that remain.
abbrev pub pair_left : Flight → Option UnitHalt → Pair → ℕ
pair_left m halt s = frames_below m s.proc m.procs + (steps_left m halt 0 (s.unit 0) + steps_left m halt 1 (s.unit 1))
