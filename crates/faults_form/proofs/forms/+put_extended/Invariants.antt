use Rattle.std.proofs.Common.{◌-◌}
use Rattle.form_base.specs.Texts.{texts_below}
use Rattle.scram_io.specs.Outside.{Printed}
use Rattle.fault_family.specs.NextFaults.{candidates}
use Rattle.faults_form.specs.Families.{branch_text}
use Rattle.faults_form.proofs.FamilyTexts.{item_text}
use Rattle.faults_form.proofs.forms.+put_extended.Given as goal

abbrev pub decreases-put_extended : goal.decreases-put_extended
decreases-put_extended g l = l.more

abbrev pub invariant-loop-k : goal.invariant-loop-k
invariant-loop-k g l =
    Printed (g.K.Sink.state l.initial.out) (g.K.Sink.state l.out) (texts_below (item_text (branch_text l.spec (l.more - 1) l.before) (candidates l.spec l.before)) l.k)
