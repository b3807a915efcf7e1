-- The reading of bounds on reconfigurations.
use Rattle.std.specs.Prelude.{ℕ, List, codes, is_some, Result, Ok, if◌then◌else◌}
use Rattle.serde_json.specs.Data.{Data}
use Rattle.scram_types.specs.declared.ids.ConfId.{ConfId}
use Rattle.scram_types.specs.declared.specification.Conf.{Conf}
use Rattle.scram_types.specs.declared.specification.Bound.{Bound}
use Rattle.scram_types.specs.Specification.{bound_in}
use Rattle.scram_doc.specs.declared.fault.DocFault.{DocFault}
use Rattle.scram_doc.specs.Chain.{chain}
use Rattle.scram_doc.specs.Faults.{broken}
use Rattle.scram_doc.specs.Paths.{member_path}
use Rattle.scram_doc.specs.Members.{exactly_three_at}
use Rattle.scram_doc.specs.Values.{whole_at}
use Rattle.spec_reading.specs.declared.rule.TheConstants.{TWICE_IN_LIST}
use Rattle.scram_doc.specs.Lists.{elements_at}
use Rattle.spec_reading.specs.Choices.{read_conf_id}

-- The target that a value names, given the bounds `done` and the source `from`, or the first document rule that the
-- value breaks. The pair of source and target must have no bound in `done`.
abbrev pub read_new_target : List Conf → List Bound → ConfId → List ℕ → Data → Result ConfId DocFault
read_new_target confs done from at d =
    chain (read_conf_id confs at d) (λ (to : ConfId).
    if is_some (bound_in done from.0 to.0) then broken TWICE_IN_LIST at else Ok to)

-- The bound that a value encodes, given the configurations and the bounds `done` before it, or the first document
-- rule that the value breaks. The pair of configurations must have no bound in `done`.
abbrev pub read_bound : List Conf → List ℕ → List Bound → Data → Result Bound DocFault
read_bound confs at done d =
    chain (exactly_three_at (codes "from") (codes "to") (codes "frames") at d) (λ (m : Data × Data × Data).
    chain (read_conf_id confs (member_path at (codes "from")) m.0) (λ (from : ConfId).
    chain (read_new_target confs done from (member_path at (codes "to")) m.1) (λ (to : ConfId).
    chain (whole_at 1 1001 (member_path at (codes "frames")) m.2) (λ (frames : ℕ).
    Ok (record { from = from; to = to; frames = frames })))))

-- The 0 to 144 bounds that a value encodes, or the first document rule that the value breaks.
abbrev pub read_bounds : List Conf → List ℕ → Data → Result (List Bound) DocFault
read_bounds confs at d = elements_at (read_bound confs) 0 144 at d
