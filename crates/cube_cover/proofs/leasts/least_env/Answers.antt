use Rattle.std.proofs.Common.{◌∙◌, sym, subst}
use Rattle.cube_cover.specs.Cubes.{HasDigits}
use Rattle.cube_cover.proofs.LeastDigits.{found, least_has_digits, missed_belonging, missed_holding, missed_scope}
use Rattle.cube_cover.proofs.leasts.least_env.Goals as goal
use Rattle.cube_cover.proofs.leasts.least_env.Goals.{else-belongs-via-then-belongs+then-holds+else-in_scope, else-belongs-via-then-belongs+else-holds, else-belongs-via-else-belongs}

pub holds-requires : goal.holds-requires
holds-requires c = subst HasDigits (sym c.make_least-env.ensures) (least_has_digits c.args.spec.now c.requires c.args.cube)

pub returns-then-in_scope : goal.returns-then-in_scope
returns-then-in_scope c = found c.args.spec.now c.requires c.args.cube c.make_least-env.result c.make_least-env.ensures
    (sym c.belongs.ensures ∙ c.if-belongs.true) (sym c.holds.ensures ∙ c.if-holds.true) (sym c.in_scope.ensures ∙ c.if-in_scope.true)

pub returns-else-belongs : goal.returns-else-belongs
returns-else-belongs c = elim c.else-belongs.branch [
  | else-belongs-via-then-belongs+then-holds+else-in_scope w ↦
      missed_scope c.args.spec.now c.requires c.args.cube c.make_least-env.result c.make_least-env.ensures (sym w.in_scope.ensures ∙ w.if-in_scope.false)
  | else-belongs-via-then-belongs+else-holds w ↦
      missed_holding c.args.spec.now c.requires c.args.cube c.make_least-env.result c.make_least-env.ensures (sym w.holds.ensures ∙ w.if-holds.false)
  | else-belongs-via-else-belongs w ↦
      missed_belonging c.args.spec.now c.requires c.args.cube c.make_least-env.result c.make_least-env.ensures (sym c.belongs.ensures ∙ w.if-belongs.false)
]
