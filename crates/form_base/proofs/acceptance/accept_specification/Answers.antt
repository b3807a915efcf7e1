use Rattle.std.proofs.Common.{rules}
use Rattle.form_base.proofs.acceptance.accept_specification.Goals as goal

pub returns-in-Err-NotAccepted-clause-refused : goal.returns-in-Err-NotAccepted-clause-refused
returns-in-Err-NotAccepted-clause-refused c = search rules
