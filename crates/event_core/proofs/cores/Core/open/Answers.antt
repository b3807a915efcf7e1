use Rattle.std.proofs.Common.{rules}
use Rattle.event_core.proofs.Opens.{open_keeps, opened}
use Rattle.event_core.proofs.cores.Core.open.Goals as goal

pub invariant_of-result : goal.invariant_of-result
invariant_of-result c =
    opened c.args.spec.now c.args.script.now c.opening_places.result _ _ _ _ _
    (open_keeps c.args.spec.now c.args.script.now c.kernel_encode-first.result c.start.result.areas c.start.result.keepers c.opening_places.result _ _ _ _
    (search rules) c.requires c.opening_places.ensures (search rules) (search rules) (search rules) (search rules) (search rules) (search rules) (search rules))
    c.opening_places.ensures (search rules)
