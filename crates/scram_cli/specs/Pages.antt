-- The pages that describe the command.
use Rattle.std.specs.Prelude.{ℕ, List}
use Rattle.scram_cli.specs.declared.pages.Page.{Page}
use Rattle.scram_cli.specs.declared.pages.Page.TheVariants.{Help, Version}
use Rattle.scram_cli.specs.declared.pages.TheConstants.{HELP, VERSION}

-- The text of a page.
abbrev pub page_text : Page → List ℕ
page_text Help = HELP.now
page_text Version = VERSION.now
