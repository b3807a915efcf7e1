use Rattle.std.proofs.Common.{◌∙◌, ap}
use Rattle.std.proofs.Math.Seq.{map-set_same}
use Rattle.app_model.proofs.Replacing.{others_stay}
use Rattle.app_model.proofs.racks.rack_frame.Goals as goal

pub returns-then-place-len-clause-kinds : goal.returns-then-place-len-clause-kinds
returns-then-place-len-clause-kinds g c =
    let at = ap (λ z. (goal.App-dyn g (z.vtable, z.value)).kind_of z.value) c.index_mut.ensures.value in
    map-set_same (λ z. (goal.App-dyn g (z.vtable, z.value)).kind_of z.value) c.args.rack.now.boxes.items c.from-place.result c.box_or_law.new.app c.index_mut.result.now (c.box_or_law.ensures.same ∙ at)

pub returns-then-place-len-clause-others : goal.returns-then-place-len-clause-others
returns-then-place-len-clause-others g c = others_stay c.args.rack.now.boxes.items c.from-place.result c.args.kind.0 c.box_or_law.new.app c.from-place.ensures
