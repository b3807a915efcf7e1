use Rattle.form_base.proofs.Reading.{told_ends}
use Rattle.flight_forms.specs.Answers.{FlyAnswers, GenAnswers}
use Rattle.scram_cli.proofs.command.answer_flight.Goals as goal

pub returns-in-Gen : goal.returns-in-Gen
returns-in-Gen g c = rw (c.in-Gen.is) (told_ends (GenAnswers c.in-Gen.number) _ _ _ _ (g.met.F.Files.steady_below _) c.print_generated.ensures)

pub returns-in-Fly : goal.returns-in-Fly
returns-in-Fly g c = rw (c.in-Fly.is) (told_ends (FlyAnswers c.in-Fly.number) _ _ _ _ (g.met.F.Files.steady_below _) c.fly_generated.ensures)

pub returns-in-Run : goal.returns-in-Run
returns-in-Run g c = rw (c.in-Run.is) c.run.ensures

pub returns-in-Watch : goal.returns-in-Watch
returns-in-Watch g c = rw (c.in-Watch.is) c.watch.ensures

pub returns-in-Pair : goal.returns-in-Pair
returns-in-Pair g c = rw (c.in-Pair.is) c.pair_form.ensures

pub returns-in-Replay : goal.returns-in-Replay
returns-in-Replay g c = rw (c.in-Replay.is) c.replay_form.ensures

pub returns-in-Faults : goal.returns-in-Faults
returns-in-Faults g c = rw (c.in-Faults.is) c.faults.ensures

pub returns-in-Flights : goal.returns-in-Flights
returns-in-Flights g c = rw (c.in-Flights.is) c.flights.ensures
