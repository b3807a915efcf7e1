use Rattle.form_base.proofs.Reading.{told_ends}
use Rattle.form_base.specs.Answers.{Gives}
use Rattle.form_base.specs.declared.status.TheConstants.{ANSWERED}
use Rattle.scram_cli.specs.Pages.{page_text}
use Rattle.scram_cli.proofs.command.answer_form.Goals as goal

pub returns-in-Told : goal.returns-in-Told
returns-in-Told g c =
    rw (c.in-Told.is) (told_ends (Gives (ANSWERED, page_text c.in-Told.page)) _ _ _ _ (g.met.F.Files.steady_below _) c.print_page.ensures)

pub returns-in-Flight : goal.returns-in-Flight
returns-in-Flight g c = rw (c.in-Flight.is) c.answer_flight.ensures

pub returns-in-Specification : goal.returns-in-Specification
returns-in-Specification g c = rw (c.in-Specification.is) c.answer_question.ensures

pub returns-in-Trace : goal.returns-in-Trace
returns-in-Trace g c = rw (c.in-Trace.is) c.look_at.ensures
