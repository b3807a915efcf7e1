use Rattle.std.proofs.Common.{map}
use Rattle.std.proofs.Math.Seq.{map-set_same}
use Rattle.app_model.proofs.Replacing.{others_stay}
use Rattle.app_model.proofs.racks.racks_frame.Goals as goal

pub returns-then-place-racks-clause-kinds : goal.returns-then-place-racks-clause-kinds
returns-then-place-racks-clause-kinds g c =
    map-set_same (λ r. map (λ z. (goal.App-dyn g (z.vtable, z.value)).kind_of z.value) r.boxes.items) c.args.racks.now c.from-place.result c.rack_frame.new.rack c.index-racks-place.result c.rack_frame.ensures.kinds

pub returns-then-place-racks-clause-others : goal.returns-then-place-racks-clause-others
returns-then-place-racks-clause-others g c = others_stay c.args.racks.now c.from-place.result c.args.proc.0 c.rack_frame.new.rack c.from-place.ensures
