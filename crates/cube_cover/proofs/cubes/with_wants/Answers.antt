use Rattle.std.proofs.Common.{refl}
use Rattle.cube_cover.proofs.Closed.{holds_all}
use Rattle.cube_cover.proofs.cubes.with_wants.Goals as goal

pub loop-want-init : goal.loop-want-init
loop-want-init c = λ v digits. rw (holds_all v digits) refl
