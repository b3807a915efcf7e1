use Rattle.std.proofs.Common.{◌≡◌, ◌<◌, ◌∙◌, ap, arith, get_or, length, subst, sym}
use Rattle.std.proofs.lemmas.Option.{slice_get_within}
use Rattle.scram_types.specs.declared.scripts.Change.{Change}
use Rattle.scram_types.proofs.Options.{same_some}
use Rattle.fault_script.specs.Walks.{changed_values}
use Rattle.fault_script.proofs.Walking.{blank, item_at, taken_more, values_more}
use Rattle.fault_script.proofs.walks.take_changes.Goals as goal

pub loop-taken-preserved : goal.loop-taken-preserved
loop-taken-preserved c =
    let there = item_at c.args.changes.now c.loop-taken.taken (omega arith) in
    record {
      taken = taken_more c.args.changes.now c.args.frame c.loop-taken.taken (get_or c.args.changes.now c.loop-taken.taken blank) c.loop-taken.invariant.taken there (omega arith);
      values = c.with_change-values.ensures ∙ ap (changed_values (get_or c.args.changes.now c.loop-taken.taken blank)) c.loop-taken.invariant.values
          ∙ sym (values_more c.args.changes.now c.loop-taken.taken (get_or c.args.changes.now c.loop-taken.taken blank) there);
    }

pub returns-else-changes-taken-clause-whole : goal.returns-else-changes-taken-clause-whole
returns-else-changes-taken-clause-whole c = λ change there.
    (let inside : c.loop-taken.taken < length c.args.changes.now = slice_get_within c.args.changes.now c.loop-taken.taken change there in
    let is : get_or c.args.changes.now c.loop-taken.taken blank ≡ change = same_some _ change (sym (item_at c.args.changes.now c.loop-taken.taken inside) ∙ there) in
    subst (λ (x : Change). c.args.frame < x.frame) is (omega arith))

pub returns-after-loop-taken-clause-whole : goal.returns-after-loop-taken-clause-whole
returns-after-loop-taken-clause-whole c = λ change there.
    (let inside : c.loop-taken.taken < length c.args.changes.now = slice_get_within c.args.changes.now c.loop-taken.taken change there in absurd (omega arith))
