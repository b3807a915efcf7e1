use Rattle.std.proofs.Common.{rules}
use Rattle.spec_forms.proofs.choice_forms.choosing.others_up.Goals as goal

pub returns-then-has_bit-clause-value : goal.returns-then-has_bit-clause-value
returns-then-has_bit-clause-value c = search rules
