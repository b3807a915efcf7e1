use Rattle.std.proofs.Common.{◌≡◌, ◌∙◌, ap, sym, refl}
use Rattle.std.specs.Prelude.{None, slice_get}
use Rattle.std.specs.Option.{option_copied}
use Rattle.cube_cover.proofs.Closed.{holds_all}
use Rattle.cube_cover.proofs.cubes.running.Goals as goal

pub returns-in-None : goal.returns-in-None
returns-in-None c = λ v digits.
    let gone : slice_get c.args.spec.now.confs c.args.c.0 ≡ None = sym c.conf.ensures ∙ ap option_copied c.in-None.is in
    holds_all v digits ∙ sym (rw (gone) refl)
