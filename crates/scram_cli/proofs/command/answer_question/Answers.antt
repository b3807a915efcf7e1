use Rattle.std.proofs.Common.{rules}
use Rattle.scram_cli.proofs.command.answer_question.Goals as goal

pub returns-in-Explain : goal.returns-in-Explain
returns-in-Explain g c = rw (c.in-Explain.is) c.explain.ensures

pub returns-in-ExplainScript : goal.returns-in-ExplainScript
returns-in-ExplainScript g c = rw (c.in-ExplainScript.is) c.explain_script.ensures

pub returns-in-Fill : goal.returns-in-Fill
returns-in-Fill g c = rw (c.in-Fill.is) c.fill.ensures

pub returns-in-Choices : goal.returns-in-Choices
returns-in-Choices g c = rw (c.in-Choices.is) c.choices.ensures

pub returns-in-Choose : goal.returns-in-Choose
returns-in-Choose g c = rw (c.in-Choose.is) (rw c.words.ensures at c.choose.ensures)

pub returns-in-Check : goal.returns-in-Check
returns-in-Check c = search rules
