use Rattle.std.proofs.Common.{◌*◌, ◌∙◌, List, ap, length, sym}
use Rattle.fault_family.specs.declared.faults.FaultKind.{FaultKind}
use Rattle.fault_family.specs.NextFaults.{frames_after}
use Rattle.fault_family.proofs.Numbered.{length_candidates}
use Rattle.fault_family.proofs.candidates.candidate_count.Goals as goal

pub returns : goal.returns
returns c =
    ap (λ n. n * length c.args.kinds.now) c.frame_count.ensures.value
    ∙ ap (λ (kinds : List FaultKind). length (frames_after c.args.spec.now c.args.before.now) * length kinds) c.requires.kinds
    ∙ sym (length_candidates c.args.spec.now c.args.before.now)
