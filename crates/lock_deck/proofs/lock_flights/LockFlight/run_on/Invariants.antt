use Rattle.std.specs.Prelude.{Some}
use Rattle.lock_deck.proofs.lock_flights.LockFlight.run_on.Given as goal

abbrev pub ghosts-fly : goal.ghosts-fly
ghosts-fly g a = record { mission = Some a.mission.now }
