use Rattle.std.proofs.Common.{◌∙◌, arith, sym}
use Rattle.std.specs.Prelude.{None}
use Rattle.std.proofs.lemmas.Str.Pattern.{strip_prefix_char}
use Rattle.spec_forms.proofs.choice_forms.WordReading.{no_dash}
use Rattle.spec_forms.proofs.choice_forms.states.read_state_word.Goals as goal

pub returns-in-None : goal.returns-in-None
returns-in-None c = c.read_value_word.ensures ∙ sym (no_dash c.args.word.now (strip_prefix_char 45 c.args.word.now None c.in-None.ensures.cases (omega arith)))
