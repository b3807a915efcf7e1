use Rattle.std.proofs.Common.{◌≡◌, ◌∙◌, ◌-◌, List, arith, length, subst, sym, true, false}
use Rattle.std.specs.Prelude.{Some, slice_get}
use Rattle.form_base.specs.Texts.{texts_below}
use Rattle.form_base.proofs.TextsBelow.{cut_below, printed_next}
use Rattle.scram_io.specs.Outside.{CutOff, Printed}
use Rattle.scram_io.proofs.Puts.{printed_none}
use Rattle.fault_family.specs.declared.faults.Fault.{Fault}
use Rattle.fault_family.specs.Families.{may_follow}
use Rattle.fault_family.specs.NextFaults.{candidates}
use Rattle.faults_form.specs.Families.{branch_text}
use Rattle.faults_form.proofs.FamilyTexts.{branch_followed, branch_not_followed, candidate_texts, item_text}
use Rattle.faults_form.proofs.forms.+put_extended.Goals as goal
use Rattle.faults_form.proofs.forms.+put_extended.Goals.{then-may_follow+in-Ok, else-may_follow}

pub returns-in-Err : goal.returns-in-Err
returns-in-Err g t c =
    let before = c.args.before.now in
    let text = item_text (branch_text c.args.spec.now (c.args.more - 1) before) (candidates c.args.spec.now before) in
    let there : slice_get (candidates c.args.spec.now before) c.loop-k.k ≡ Some c.candidate-next.result =
    subst (λ (faults : List Fault). slice_get (candidates c.args.spec.now faults) c.loop-k.k ≡ Some c.candidate-next.result) c.as_slice-faults.ensures c.candidate-next.ensures.fault in
    let follows : may_follow c.args.spec.now before c.candidate-next.result ≡ true =
    subst (λ (faults : List Fault). may_follow c.args.spec.now faults c.candidate-next.result ≡ true) c.as_slice-faults.ensures (sym c.may_follow.ensures ∙ c.if-may_follow.true) in
    let count : c.candidate_count-k-end.result ≡ length (candidates c.args.spec.now before) =
    subst (λ (faults : List Fault). c.candidate_count-k-end.result ≡ length (candidates c.args.spec.now faults)) c.as_slice-faults.ensures c.candidate_count-k-end.ensures in
    let here = branch_followed c.args.spec.now (c.args.more - 1) before c.loop-k.k c.candidate-next.result there follows in
    let part : CutOff (g.K.Sink.state c.loop-k.out) (g.K.Sink.state c.put_extended.new.out) (text c.loop-k.k) = rw (here, ← c.with.ensures) c.in-Err.ensures in
    subst (λ whole. CutOff (g.K.Sink.state c.args.out.now) (g.K.Sink.state c.put_extended.new.out) whole)
    (candidate_texts c.args.spec.now c.args.more before (omega (arith, c.if-more-eq0.false)))
    (cut_below text c.loop-k.k (length (candidates c.args.spec.now before)) _ _ _ (omega (arith, c.loop-k-test.true, count)) c.loop-k.invariant part)

pub returns : goal.returns
returns g t c =
    let before = c.args.before.now in
    let count : c.candidate_count-k-end.result ≡ length (candidates c.args.spec.now before) =
    subst (λ (faults : List Fault). c.candidate_count-k-end.result ≡ length (candidates c.args.spec.now faults)) c.as_slice-faults.ensures c.candidate_count-k-end.ensures in
    let end : c.loop-k.k ≡ length (candidates c.args.spec.now before) = omega (arith, c.loop-k-test.false, c.loop-k.auto.k-end, count) in
    let text = item_text (branch_text c.args.spec.now (c.args.more - 1) before) (candidates c.args.spec.now before) in
    subst (λ whole. Printed (g.K.Sink.state c.args.out.now) (g.K.Sink.state c.loop-k.out) whole)
    (candidate_texts c.args.spec.now c.args.more before (omega (arith, c.if-more-eq0.false)))
    (subst (λ n. Printed (g.K.Sink.state c.args.out.now) (g.K.Sink.state c.loop-k.out) (texts_below text n)) end c.loop-k.invariant)

pub loop-k-preserved : goal.loop-k-preserved
loop-k-preserved g t c =
    let before = c.args.before.now in
    let text = item_text (branch_text c.args.spec.now (c.args.more - 1) before) (candidates c.args.spec.now before) in
    let there : slice_get (candidates c.args.spec.now before) c.loop-k.k ≡ Some c.candidate-next.result =
    subst (λ (faults : List Fault). slice_get (candidates c.args.spec.now faults) c.loop-k.k ≡ Some c.candidate-next.result) c.as_slice-faults.ensures c.candidate-next.ensures.fault in
    printed_next text c.loop-k.k _ _ _ c.loop-k.invariant
    (elim c.if-may_follow.branch [
      | then-may_follow+in-Ok w ↦
          let follows : may_follow c.args.spec.now before c.candidate-next.result ≡ true =
          subst (λ (faults : List Fault). may_follow c.args.spec.now faults c.candidate-next.result ≡ true) c.as_slice-faults.ensures (sym c.may_follow.ensures ∙ w.if-may_follow.true) in
          let here = branch_followed c.args.spec.now (c.args.more - 1) before c.loop-k.k c.candidate-next.result there follows in
          rw (here, ← w.with.ensures, w.out-is) w.in-Ok.ensures
      | else-may_follow w ↦
          let follows : may_follow c.args.spec.now before c.candidate-next.result ≡ false =
          subst (λ (faults : List Fault). may_follow c.args.spec.now faults c.candidate-next.result ≡ false) c.as_slice-faults.ensures (sym c.may_follow.ensures ∙ w.if-may_follow.false) in
          let here = branch_not_followed c.args.spec.now (c.args.more - 1) before c.loop-k.k c.candidate-next.result there follows in
          rw (here, w.out-is) (printed_none (g.K.Sink.state c.loop-k.out) (g.met.K.Sink.surely_below c.loop-k.out))
    ])
