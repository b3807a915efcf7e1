use Rattle.std.specs.Prelude.{map, string_bytes}
use Rattle.form_base.proofs.Endings.{assured_of, completes, unread_rose, unwritten_rose}
use Rattle.scram_cli.specs.Forms.{form_of}
use Rattle.scram_cli.proofs.Assuring.{form_assures}
use Rattle.scram_cli.proofs.command.scram.Goals as goal

pub returns-clause-read : goal.returns-clause-read
returns-clause-read g c = unread_rose _ _ _ _ _ _ _ c.send_answer.ensures

pub returns-clause-write : goal.returns-clause-write
returns-clause-write g c = unwritten_rose _ _ _ _ _ _ _ c.send_answer.ensures

pub returns-clause-complete : goal.returns-clause-complete
returns-clause-complete g c = completes _ _ _ _ _ _ _ c.send_answer.ensures

pub returns-clause-assured : goal.returns-clause-assured
returns-clause-assured g c = assured_of _ _ _ _ _ _ _ _ (form_assures c.flights_are_assured.ensures c.reconfigurations_are_assured.ensures (form_of (map string_bytes c.args.words.now))) c.send_answer.ensures
