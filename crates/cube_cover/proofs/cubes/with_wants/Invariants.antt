use Rattle.std.proofs.Common.{◌≡◌, ◌&&◌, drop}
use Rattle.std.specs.List.{list_all}
use Rattle.scram_types.specs.declared.rows.Env.{Env}
use Rattle.choice_table.specs.Choices.{has_wanted}
use Rattle.cube_cover.specs.Cubes.{HasDigits, holds}
use Rattle.cube_cover.proofs.cubes.with_wants.Given as goal

abbrev pub invariant-loop-want : goal.invariant-loop-want
invariant-loop-want l = (v : Env) → HasDigits v → (holds l.cube v && list_all (has_wanted v) (drop l.want-index l.wants)) ≡ list_all (has_wanted v) l.wants
