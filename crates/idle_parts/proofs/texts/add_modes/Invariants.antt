use Rattle.std.proofs.Common.{◌≡◌, ◌++◌, drop}
use Rattle.idle_parts.specs.Texts.{idle_modes_text}
use Rattle.idle_parts.proofs.texts.add_modes.Given as goal

abbrev pub invariant-loop-listed : goal.invariant-loop-listed
invariant-loop-listed l =
    l.text.items ++ idle_modes_text l.spec l.app.0 (drop l.listed-index l.modes) ≡ l.initial.text.items ++ idle_modes_text l.spec l.app.0 l.modes
