use Rattle.std.proofs.Common.{arith, ◌≡◌, ◌∙◌, ℕ, ap, replicate}
use Rattle.mission_gen.specs.Changes.{changes_by, last_block}
use Rattle.mission_gen.specs.Turns.{turns_to}
use Rattle.mission_gen.proofs.Walking.{walked_more}
use Rattle.mission_gen.proofs.walks.make_changes.Goals as goal

pub loop-done-preserved : goal.loop-done-preserved
loop-done-preserved c = walked_more c.args.n c.loop-done.done _ _ c.loop-done.invariant c.in_ok-add_block.ensures

pub returns : goal.returns
returns c =
    let all : c.loop-done.done ≡ last_block c.args.frames = omega (arith, c.loop-done.auto.done-end, c.last_block-done-end.ensures.value, c.loop-done-test.false) in
    c.loop-done.invariant.changes ∙ ap (λ (k : ℕ). changes_by (replicate 6 0) (turns_to c.args.n k)) all
