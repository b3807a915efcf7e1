use Rattle.std.proofs.Common.{◌≡◌, []}
use Rattle.std.specs.Prelude.{All, vec_len}
use Rattle.app_model.proofs.racks.empty_racks.Given as goal

abbrev pub invariant-loop-made : goal.invariant-loop-made
invariant-loop-made g l = (vec_len l.racks ≡ l._made) × All (λ r. r.boxes.items ≡ []) l.racks.items
