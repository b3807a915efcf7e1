use Rattle.std.proofs.Common.{◌∙◌, append_assoc, refl, sym}
use Rattle.std.specs.Prelude.{filter_map}
use Rattle.fault_family.specs.Scripts.{restart_of_fault}
use Rattle.faults_form.proofs.Spelled.{first_version, second_version}
use Rattle.faults_form.proofs.lines.add_version.Goals as goal

pub returns-then-restarts-clause-text : goal.returns-then-restarts-clause-text
returns-then-restarts-clause-text c =
    let is = second_version c.args.spec.now (filter_map restart_of_fault c.args.faults.now) (sym c.restarts.ensures ∙ c.if-restarts.true) in
    rw (is, c.text.ensures.text, c.add_restarts.ensures.text) (simp append_assoc refl)

pub returns-else-restarts-clause-text : goal.returns-else-restarts-clause-text
returns-else-restarts-clause-text c =
    let is = first_version c.args.spec.now (filter_map restart_of_fault c.args.faults.now) (sym c.restarts.ensures ∙ c.if-restarts.false) in
    rw (is, c.text-else-restarts.ensures.text) (simp append_assoc refl)
