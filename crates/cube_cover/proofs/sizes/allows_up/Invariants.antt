use Rattle.std.proofs.Common.{◌≡◌, ◌+◌, true}
use Rattle.scram_types.specs.Searches.{all_below}
use Rattle.cube_cover.specs.Sizes.{digit_of_processor, is_open_digit}
use Rattle.cube_cover.proofs.sizes.allows_up.Given as goal

abbrev pub invariant-loop-p : goal.invariant-loop-p
invariant-loop-p l = all_below (λ p. is_open_digit l.cube (6 + p) (digit_of_processor l.up p)) l.p ≡ true
