-- A specification with the sets of its required bounds.
use Rattle.std.specs.Prelude.{ℕ, List}
use Rattle.form_base.specs.declared.status.TheConstants.{ANSWERED}
use Rattle.form_base.specs.Answers.{Gives}
use Rattle.spec_forms.specs.declared.bound_pairs.Asked.{Asked}
use Rattle.spec_forms.specs.Bounds.{AreAskedBounds, bounds_text}

-- Set `i` holds, as bits, the configurations to which a bound from configuration `i` is required.
abbrev pub AreAsked : Asked → Type 0
AreAsked asked = AreAskedBounds asked.spec asked.sets

-- The answer lists the bounds that the specification must give.
abbrev pub GivesBounds : Asked → ℕ → List ℕ → Type 0
GivesBounds asked = Gives (ANSWERED, bounds_text asked.spec)
