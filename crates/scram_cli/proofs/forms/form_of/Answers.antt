use Rattle.std.proofs.Common.{◌∙◌, map, arith}
use Rattle.std.specs.Prelude.{string_bytes}
use Rattle.std.proofs.lemmas.List.{length-map}
use Rattle.scram_cli.proofs.FewWords.{few_words}
use Rattle.scram_cli.proofs.forms.form_of.Goals as goal

pub returns-in_default : goal.returns-in_default
returns-in_default c =
    let long = length-map c.args.words.now string_bytes in
    c.form_of_few.ensures ∙ few_words (map string_bytes c.args.words.now) (omega (arith, long, c.in_default.len_below))
