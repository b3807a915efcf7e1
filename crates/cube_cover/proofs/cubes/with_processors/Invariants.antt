use Rattle.std.proofs.Common.{◌≡◌, ◌+◌, ◌&&◌, ◌||◌, not}
use Rattle.std.specs.Prelude.{◌==◌}
use Rattle.scram_types.specs.declared.rows.Env.{Env}
use Rattle.scram_types.specs.Bits.{has_bit}
use Rattle.scram_types.specs.Searches.{all_below}
use Rattle.cube_cover.specs.Cubes.{HasDigits, digit_in, holds}
use Rattle.cube_cover.proofs.cubes.with_processors.Given as goal

abbrev pub invariant-loop-p : goal.invariant-loop-p
invariant-loop-p l = (v : Env) → HasDigits v → holds l.narrow v ≡ (holds l.fn.cube v && all_below (λ p. not (has_bit l.set p) || (digit_in v (6 + p) == l.d)) l.p)
