use Rattle.std.proofs.Common.{rules, ◌<◌}
use Rattle.scram_kernel.proofs.Ticks.{image_by, kernel_more, next_told, ticks_by}
use Rattle.scram_kernel.proofs.kernels.Kernel.tick.Goals as goal

pub invariant_of-self : goal.invariant_of-self
invariant_of-self c =
    let k = c.self.inside in
    let t = ticks_by c.args.self.now k.spec.now k.script.now k.walk k.image k.areas c.args.marks.now c.args.images.now c.next-walk.result.env c.draw-row.result c.keepers_drawn-keepers.result c.image_next-image.result
    c.self.view_is c.self.invariant.facts c.self.invariant.walk_at c.requires.marks c.requires.images c.next-walk.ensures.env c.draw-row.ensures.row (c.keepers_drawn-keepers.ensures k.spec.now c.tasks_of-tasks.ensures) c.image_next-image.ensures in
    let low : k.image.frame < k.script.now.frames = search rules in
    rw (c.draw-row.ensures.areas) (kernel_more c.self.invariant low t c.next-walk.result c.next-walk.ensures c.read_row-reading.result.0 c.push_reserved.new.self.items c.log.new.reports.items _ _ _ _
    c.read_row-reading.ensures.reading c.push_reserved.ensures.items (search rules) c.push_reserved.ensures.capacity c.log.ensures.room c.push_reserved.ensures.len c.log.ensures.few)

pub returns-clause-image : goal.returns-clause-image
returns-clause-image c =
    let k = c.self.inside in
    let t = ticks_by c.args.self.now k.spec.now k.script.now k.walk k.image k.areas c.args.marks.now c.args.images.now c.next-walk.result.env c.draw-row.result c.keepers_drawn-keepers.result c.image_next-image.result
    c.self.view_is c.self.invariant.facts c.self.invariant.walk_at c.requires.marks c.requires.images c.next-walk.ensures.env c.draw-row.ensures.row (c.keepers_drawn-keepers.ensures k.spec.now c.tasks_of-tasks.ensures) c.image_next-image.ensures in
    image_by c.args.self.now k.spec.now k.script.now k.image.frame c.image_next-image.result c.self.view_is (next_told c.self.invariant.stands t)
