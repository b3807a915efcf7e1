use Rattle.std.proofs.Common.{◌≡◌, true}
use Rattle.scram_types.specs.Searches.{all_below}
use Rattle.choice_table.specs.Environments.{factor_in}
use Rattle.cube_cover.specs.Cubes.{is_digit}
use Rattle.cube_cover.proofs.leasts.belongs.Given as goal

abbrev pub invariant-loop-x : goal.invariant-loop-x
invariant-loop-x l = all_below (λ x. is_digit l.spec x (factor_in l.env x)) l.x ≡ true
