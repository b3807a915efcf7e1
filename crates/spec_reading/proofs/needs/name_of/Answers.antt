use Rattle.std.proofs.Common.{◌≡◌, ℕ, List, length, refl, ap, sym, ◌∙◌}
use Rattle.std.specs.Prelude.{Some, slice_get}
use Rattle.std.proofs.lemmas.Option.{slice_get_read}
use Rattle.scram_types.specs.declared.specification.AppSpec.{AppSpec}
use Rattle.spec_reading.specs.Names.{name_of_app}
use Rattle.spec_reading.proofs.needs.name_of.Goals as goal

pub returns : goal.returns
returns c =
    let there : slice_get c.args.apps.now c.args.app.0 ≡ Some c.index-apps-from.result =
    rw (← c.from.ensures) (slice_get_read c.args.apps.now (length c.args.apps.now) c.from.result c.index-apps-from.result refl (rw (c.from.ensures) c.requires) c.index-apps-from.is) in
    rw (there) (ap (λ (app : AppSpec). Some (name_of_app app)) c.index-apps-from.is ∙ ap (λ (name : List ℕ). Some name) (sym c.copy.ensures))
