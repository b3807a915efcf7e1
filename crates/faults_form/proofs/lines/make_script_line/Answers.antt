use Rattle.std.proofs.Common.{◌∙◌, List, ℕ, ◌++◌, ◌∷◌, [], ap, subst}
use Rattle.scram_types.specs.Specification.{IsSpec}
use Rattle.fault_family.specs.Scripts.{script_in_frames}
use Rattle.faults_form.proofs.Spelled.{script_spelled}
use Rattle.faults_form.proofs.lines.make_script_line.Goals as goal

pub returns : goal.returns
returns c =
    c.spelled_script.ensures
    ∙ ap (λ (text : List ℕ). text ++ 10 ∷ []) (script_spelled c.args.spec.now (script_in_frames c.args.script.now.frames c.args.script.now.faults.now) (subst IsSpec c.spec.view_is c.spec.invariant))
