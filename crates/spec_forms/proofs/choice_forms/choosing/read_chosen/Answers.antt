use Rattle.std.proofs.Common.{[]}
use Rattle.scram_types.specs.Specification.{Parts}
use Rattle.form_base.specs.Answers.{Gives, WithoutFiles}
use Rattle.form_base.proofs.Reading.{settled}
use Rattle.form_base.proofs.SpecReading.{specification_reads, specification_unread}
use Rattle.spec_forms.specs.choice_forms.Chosen.{GivesChosen}
use Rattle.spec_forms.specs.choice_forms.Choosing.{choose_answer}
use Rattle.spec_forms.proofs.choice_forms.choosing.read_chosen.Goals as goal

pub returns-in-Ok : goal.returns-in-Ok
returns-in-Ok g c =
    specification_reads c.args.question.specification.now [] (λ (spec : Parts). WithoutFiles (Gives (choose_answer spec c.args.question.conf.now c.args.question.state.now))) GivesChosen
    c.in-Ok.spec _ _ _ c.chosen_of.result c.in-Ok.ensures.loads c.load.ensures.steady
    (settled (Gives (choose_answer c.in-Ok.spec c.args.question.conf.now c.args.question.state.now)) GivesChosen _ c.chosen_of.result (g.met.F.Files.steady_below _) c.chosen_of.ensures)

pub returns-in-Err : goal.returns-in-Err
returns-in-Err g c =
    specification_unread c.args.question.specification.now [] (λ (spec : Parts). WithoutFiles (Gives (choose_answer spec c.args.question.conf.now c.args.question.state.now))) _ _ c.in-Err.refusal c.in-Err.ensures.loads
    c.load.ensures.steady c.in-Err.ensures.unread
