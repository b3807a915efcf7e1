use Rattle.std.proofs.Common.{◌≡◌, ◌++◌}
use Rattle.form_base.specs.Texts.{texts_below}
use Rattle.idle_parts.specs.Texts.{idle_part_text}
use Rattle.idle_parts.proofs.texts.add_kind.Given as goal

abbrev pub invariant-loop-n : goal.invariant-loop-n
invariant-loop-n l = l.text.items ≡ l.initial.text.items ++ texts_below (idle_part_text l.spec l.kind) l.n
