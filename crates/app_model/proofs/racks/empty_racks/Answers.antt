use Rattle.std.proofs.Common.{◌≡◌, ◌∙◌, ◌+◌, [], ap, arith, subst, sym}
use Rattle.std.specs.Prelude.{All}
use Rattle.std.proofs.lemmas.List.Elements.{All-push}
use Rattle.app_model.proofs.racks.empty_racks.Goals as goal

pub loop-made-preserved : goal.loop-made-preserved
loop-made-preserved g c = (
  c.in_ok-push.ensures.len ∙ ap (λ n. n + 1) c.loop-made.invariant.0,
  subst (All (λ r. r.boxes.items ≡ [])) (sym c.in_ok-push.ensures.items) (All-push (λ r. r.boxes.items ≡ []) c.loop-made.racks.items c.empty_rack.result c.loop-made.invariant.1 c.empty_rack.ensures),
)

pub returns-clause-count : goal.returns-clause-count
returns-clause-count g c = let last : c.loop-made._made ≡ 8 = omega arith in c.loop-made.invariant.0 ∙ last

pub returns-clause-empty : goal.returns-clause-empty
returns-clause-empty g c = c.loop-made.invariant.1
