use Rattle.std.proofs.Common.{◌≡◌, ◌&&◌, drop}
use Rattle.std.specs.List.{list_all}
use Rattle.scram_types.specs.declared.rows.Env.{Env}
use Rattle.choice_table.specs.Choices.{is_place_up}
use Rattle.cube_cover.specs.Cubes.{HasDigits, holds}
use Rattle.cube_cover.proofs.cubes.with_places.Given as goal

abbrev pub invariant-loop-place : goal.invariant-loop-place
invariant-loop-place l = (v : Env) → HasDigits v → (holds l.cube v && list_all (is_place_up v) (drop l.place-index l.places)) ≡ list_all (is_place_up v) l.places
