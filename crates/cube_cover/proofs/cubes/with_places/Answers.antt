use Rattle.std.proofs.Common.{refl}
use Rattle.cube_cover.proofs.Closed.{holds_all}
use Rattle.cube_cover.proofs.cubes.with_places.Goals as goal

pub loop-place-init : goal.loop-place-init
loop-place-init c = λ v digits. rw (holds_all v digits) refl
