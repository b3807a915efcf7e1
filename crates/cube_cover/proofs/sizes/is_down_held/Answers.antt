use Rattle.std.proofs.Common.{ℕ, Bool, ap, sym, ◌∙◌, ◌&&◌, replicate}
use Rattle.choice_table.specs.Environments.{in_scope}
use Rattle.choice_table.specs.Numbering.{is_down_in_scope}
use Rattle.cube_cover.specs.Sizes.{allows_up}
use Rattle.cube_cover.proofs.sizes.is_down_held.Goals as goal

pub returns-then-allows_up : goal.returns-then-allows_up
returns-then-allows_up c =
    let up = c.up_beside-up.ensures in
    let allowed = sym c.if-allows_up.true ∙ c.allows_up.ensures ∙ ap (allows_up c.args.cube) up in
    c.in_scope.ensures ∙ ap (λ (up : ℕ). in_scope c.args.spec.now (record { up = up; factors = replicate 6 0 })) up
    ∙ ap (λ (b : Bool). b && is_down_in_scope c.args.spec.now c.args.down) allowed

pub returns-else-allows_up : goal.returns-else-allows_up
returns-else-allows_up c =
    let refused = sym c.if-allows_up.false ∙ c.allows_up.ensures ∙ ap (allows_up c.args.cube) c.up_beside-up.ensures in
    c.if-allows_up.false ∙ ap (λ (b : Bool). b && is_down_in_scope c.args.spec.now c.args.down) refused
