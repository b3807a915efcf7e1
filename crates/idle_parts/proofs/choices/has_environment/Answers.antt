use Rattle.std.proofs.Common.{◌∙◌, subst}
use Rattle.scram_types.specs.Lookups.{conf_id}
use Rattle.scram_types.specs.Specification.{IsSpec}
use Rattle.cube_cover.specs.Shares.{is_ruled_by}
use Rattle.idle_parts.proofs.Somewhere.{least_passes}
use Rattle.idle_parts.proofs.choices.has_environment.Goals as goal

pub returns : goal.returns
returns c = c.is_some.ensures ∙ least_passes c.args.spec.now (subst IsSpec c.spec.view_is c.spec.invariant)
    (is_ruled_by c.args.spec.now (conf_id c.args.i) c.args.k) c.args.share.now.first c.requires.first
