use Rattle.std.proofs.Common.{◌≡◌, codes, refl}
use Rattle.serde_json.specs.Data.{put}
use Rattle.serde_json.specs.View.{view}
use Rattle.scram_doc.specs.Objects.{members_of}
use Rattle.reconf_spec.specs.Texts.{with_limits}
use Rattle.reconf_spec.proofs.texts.with_limits.Goals as goal

pub returns : goal.returns
returns c =
    let members : put (codes "assumption") (view c.in_ok-assumption.assumption) (members_of c.in_ok-object.object) ≡ with_limits c.args.spec.now (members_of c.args.object)
    = rw (c.in_ok-assumption.ensures, c.in_ok-object.ensures, c.items-2.ensures, c.in_ok-list.ensures, c.items.ensures, ← c.spec.view_is) refl in
    rw (← members) c.value.ensures
