-- The frame for which a processor waits is within the flight.
use Rattle.std.proofs.Common.{◌≡◌, ℕ, ◌<◌, refl, arith}
use Rattle.std.specs.Prelude.{Option, Some, None}
use Rattle.scram_types.specs.Scripts.{ScriptParts}
use Rattle.scram_types.specs.Specification.{Parts}
use Rattle.coverage_check.specs.Missions.{MissionParts}
use Rattle.fault_script.specs.Fits.{Fits}
use Rattle.fault_script.specs.Times.{restart_of}
use Rattle.fail_stop.specs.Events.{At, Halted, Place}
use Rattle.fail_stop.proofs.ScriptBorder.{restarts_within}
use Rattle.word_table.specs.Actors.{Waits, frame_awaited, mission_flight, restart_or}

awaited_back : (spec : Parts) (script : ScriptParts) → Fits spec script → (p h : ℕ) (o : Option ℕ) → restart_of script p ≡ o → h < restart_or h o → restart_or h o < script.frames
awaited_back spec script fits p h None is waits = absurd (omega (arith, waits))
awaited_back spec script fits p h (Some r) is waits = let low = restarts_within spec script fits p r is in omega (arith, low)

pub awaited_low : (mission : MissionParts) → Fits mission.spec mission.script → (p : ℕ) (x : Place) → Waits (mission_flight mission) p x → frame_awaited (mission_flight mission) p x < mission.script.frames
awaited_low mission fits p (At f n) waits = waits.1
awaited_low mission fits p (Halted h) waits = awaited_back mission.spec mission.script fits p h (restart_of mission.script p) refl waits
