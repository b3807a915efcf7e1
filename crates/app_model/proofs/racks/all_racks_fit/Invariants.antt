use Rattle.std.proofs.Common.{ℕ, ◌<◌, get_or}
use Rattle.app_model.specs.Racks.{RackFits}
use Rattle.app_model.proofs.racks.all_racks_fit.Given as goal

abbrev pub invariant-loop-rack : goal.invariant-loop-rack
invariant-loop-rack g l =
    (k : ℕ) (d : _) → k < l.rack-index → RackFits (λ z. (goal.App-dyn g (z.vtable, z.value)).kind_of z.value) (get_or l.racks k d).boxes.items
