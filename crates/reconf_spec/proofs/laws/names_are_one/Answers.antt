use Rattle.std.proofs.Common.{refl, [], ◌∷◌}
use Rattle.reconf_spec.specs.Laws.{NamesAreOne}
use Rattle.reconf_spec.proofs.laws.names_are_one.Goals as goal

one : NamesAreOne
one [] = refl
one (b ∷ bs) = refl

pub returns : goal.returns
returns c = one
