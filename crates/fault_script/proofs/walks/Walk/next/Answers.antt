use Rattle.std.proofs.Common.{◌≡◌, ◌+◌, ◌∙◌, ap, refl, subst}
use Rattle.scram_types.specs.Scripts.{ScriptParts}
use Rattle.fault_script.specs.Walks.{HaveCome, IsWhole, values_taken}
use Rattle.fault_script.proofs.Walking.{walk_moves}
use Rattle.fault_script.proofs.walks.Walk.next.Goals as goal

pub returns : goal.returns
returns c =
    let same : c.items.result.now ≡ c.args.script.now.changes = c.items.ensures ∙ ap (λ (s : ScriptParts). s.changes) c.script.view_is in
    walk_moves c.args.spec.now c.args.script.now c.requires.fits c.args.self.now.frame _ refl
    (subst (λ changes. HaveCome changes (c.args.self.now.frame + 1) c.take_changes-taken.result.0) same c.take_changes-taken.ensures.taken)
    (subst (λ changes. c.take_changes-taken.result.1 ≡ values_taken changes c.take_changes-taken.result.0) same c.take_changes-taken.ensures.values)
    (subst (λ changes. IsWhole changes (c.args.self.now.frame + 1) c.take_changes-taken.result.0) same c.take_changes-taken.ensures.whole)
    c.up_set_at.ensures
