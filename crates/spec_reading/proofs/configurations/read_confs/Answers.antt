use Rattle.std.proofs.Common.{rules, ◌≡◌, ℕ, List, [], subst}
use Rattle.std.specs.Prelude.{codes}
use Rattle.serde_json.specs.View.{view}
use Rattle.scram_types.specs.declared.specification.Conf.{Conf}
use Rattle.scram_doc.specs.Faults.{Answers}
use Rattle.scram_doc.specs.Paths.{member_path}
use Rattle.spec_reading.specs.Configurations.{read_confs}
use Rattle.spec_reading.proofs.Tested.{read_member}
use Rattle.spec_reading.proofs.configurations.read_confs.Goals as goal

pub returns-clause-value : goal.returns-clause-value
returns-clause-value c =
    let members = c.args.members.now in
    let reading = read_confs c.args.procs.now c.args.apps.now in
    let at : c.member-at.result ≡ member_path [] (codes "configurations") = search rules in
    read_member (codes "configurations") reading (λ (l : List Conf). l) (view members.document.now) (view members.confs.now) c.read_named_list.result c.requires.members.confs
    (subst (λ (path : List ℕ). Answers (reading path (view members.confs.now)) (λ (l : List Conf). l) c.read_named_list.result) at c.read_named_list.ensures.value)
