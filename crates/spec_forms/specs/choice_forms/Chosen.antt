-- The line of a choice, in two pieces.
use Rattle.std.specs.Prelude.{ℕ, List, ◌++◌}
use Rattle.form_base.specs.declared.status.TheConstants.{ANSWERED}
use Rattle.form_base.specs.Answers.{Gives}
use Rattle.spec_forms.specs.declared.choice_forms.choosing.Chosen.{Chosen}

-- The answer has status 0, and its text consists of the two pieces of `chosen`.
abbrev pub GivesChosen : Chosen → ℕ → List ℕ → Type 0
GivesChosen chosen = Gives (ANSWERED, chosen.choice ++ chosen.needs)
