use Rattle.std.proofs.Common.{◌≡◌, rules}
use Rattle.std.specs.Prelude.{None, map, string_bytes}
use Rattle.form_base.specs.Answers.{Gives}
use Rattle.form_base.specs.declared.status.TheConstants.{BROKEN_USAGE}
use Rattle.form_base.proofs.Reading.{told_ends}
use Rattle.scram_cli.specs.Answers.{usage_line}
use Rattle.scram_cli.specs.Forms.{form_of}
use Rattle.scram_cli.proofs.command.answer_words.Goals as goal

pub returns-in-None : goal.returns-in-None
returns-in-None g c =
    let none : form_of (map string_bytes c.args.words.now) ≡ None = search rules in
    rw none (told_ends (Gives (BROKEN_USAGE, usage_line)) _ _ _ _ (g.met.F.Files.steady_below _) c.refuse_usage.ensures)
