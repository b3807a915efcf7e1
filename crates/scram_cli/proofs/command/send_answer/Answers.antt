use Rattle.form_base.proofs.Endings.{failed_ends, flushed_ends}
use Rattle.scram_cli.proofs.command.send_answer.Goals as goal

pub returns-in-Ok : goal.returns-in-Ok
returns-in-Ok g c = flushed_ends _ _ _ _ _ _ _ _ c.flush.ensures.kept c.in-Ok.ensures.sent c.answer_words-status.ensures

pub returns-in-Err : goal.returns-in-Err
returns-in-Err g c = failed_ends _ _ _ _ _ _ _ _ c.flush.ensures.kept c.in-Err.ensures.failed c.answer_words-status.ensures
