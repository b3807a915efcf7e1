-- The specification that bytes encode, or the first broken rule with its path.
use Rattle.std.specs.Prelude.{ℕ, ℤ, pos, ◌&&◌, List, [], codes, nat_le, Result, Ok, length, ⊤, if◌then◌else◌}
use Rattle.std.specs.Str.{bytes_eq}
use Rattle.serde_json.specs.Data.{Data}
use Rattle.scram_types.specs.declared.limits.TheConstants.{MAX_SPECIFICATION_BYTES}
use Rattle.scram_types.specs.declared.ids.ConfId.{ConfId}
use Rattle.scram_types.specs.declared.rows.Goal.{Goal}
use Rattle.scram_types.specs.declared.specification.Proc.{Proc}
use Rattle.scram_types.specs.declared.specification.AppSpec.{AppSpec}
use Rattle.scram_types.specs.declared.specification.Conf.{Conf}
use Rattle.scram_types.specs.declared.specification.Factor.{Factor}
use Rattle.scram_types.specs.declared.specification.Choice.{Choice}
use Rattle.scram_types.specs.declared.demands.Demand.{Demand}
use Rattle.scram_types.specs.declared.specification.Bound.{Bound}
use Rattle.scram_types.specs.declared.specification.Invariant.{Invariant}
use Rattle.scram_types.specs.declared.specification.Precondition.{Precondition}
use Rattle.scram_types.specs.declared.specification.Policy.{Policy}
use Rattle.scram_types.specs.declared.specification.Policy.TheVariants.{Retarget, Settle}
use Rattle.scram_types.specs.Specification.{Parts}
use Rattle.scram_doc.specs.declared.fault.DocFault.{DocFault}
use Rattle.scram_doc.specs.Chain.{chain}
use Rattle.scram_doc.specs.Faults.{broken}
use Rattle.scram_doc.specs.Documents.{parsed}
use Rattle.scram_doc.specs.Paths.{member_path}
use Rattle.scram_doc.specs.Members.{exactly_three_at, exactly_two_at}
use Rattle.scram_doc.specs.Values.{text_at, int_at, whole_at}
use Rattle.spec_reading.specs.declared.documents.Assumption.{Assumption}
use Rattle.spec_reading.specs.declared.documents.LimitParts.{LimitParts}
use Rattle.spec_reading.specs.declared.documents.Rest.{Rest}
use Rattle.spec_reading.specs.declared.documents.TableParts.{TableParts}
use Rattle.spec_reading.specs.declared.rule.TheConstants.{UNKNOWN_VERSION, TOO_LONG, UNKNOWN_POLICY}
use Rattle.spec_reading.specs.Members.{member_in}
use Rattle.spec_reading.specs.Versions.{has_demands, has_policy, members_tested}
use Rattle.spec_reading.specs.Processors.{read_procs}
use Rattle.spec_reading.specs.Needs.{apps_in, read_unranked}
use Rattle.spec_reading.specs.Configurations.{read_confs}
use Rattle.spec_reading.specs.Factors.{read_factors}
use Rattle.spec_reading.specs.Choices.{read_conf_id, read_choices}
use Rattle.spec_reading.specs.Bounds.{read_bounds}
use Rattle.spec_reading.specs.Demands.{read_demands}
use Rattle.spec_reading.specs.Intervals.{read_invariants, read_preconditions}
use Rattle.spec_reading.specs.Vocabulary.{Names}

-- The goal of the mission that the value at a path encodes, or the first broken rule.
abbrev pub read_goal : List ℕ → Data → Result Goal DocFault
read_goal at d =
    chain (exactly_two_at (codes "altitude") (codes "heading") at d) (λ (m : Data × Data).
    chain (int_at (pos 0) (pos 40000) (member_path at (codes "altitude")) m.0) (λ (altitude : ℤ).
    chain (int_at (pos 0) (pos 3599) (member_path at (codes "heading")) m.1) (λ (heading : ℤ).
    Ok (record { altitude = altitude; heading = heading }))))

-- The failure assumption that the value at a path encodes, or the first broken rule.
abbrev pub read_assumption : List ℕ → Data → Result Assumption DocFault
read_assumption at d =
    chain (exactly_three_at (codes "halts") (codes "changes") (codes "window") at d) (λ (m : Data × Data × Data).
    chain (whole_at 0 9 (member_path at (codes "halts")) m.0) (λ (halts : ℕ).
    chain (whole_at 0 17 (member_path at (codes "changes")) m.1) (λ (changes : ℕ).
    chain (whole_at 1 1001 (member_path at (codes "window")) m.2) (λ (window : ℕ).
    Ok (record { halts = halts; changes = changes; window = window })))))

-- The policy that `text` names, or the fault of an unknown policy at the path `at`.
abbrev pub policy_named : List ℕ → List ℕ → Result Policy DocFault
policy_named at text =
    if bytes_eq text (codes "retarget") then Ok Retarget
    else (if bytes_eq text (codes "settle") then Ok Settle else broken UNKNOWN_POLICY at)

-- The policy that the text at a path names, or the first broken rule.
abbrev pub read_policy : List ℕ → Data → Result Policy DocFault
read_policy at d = chain (text_at at d) (λ (text : List ℕ). policy_named at text)

-- `Ok` if the value at a path is the number of a version, else the first broken rule.
abbrev pub check_version : List ℕ → Data → Result ⊤ DocFault
check_version at d =
    chain (whole_at 0 1001 at d) (λ (version : ℕ).
    if nat_le 1 version && nat_le version 3 then Ok tt else broken UNKNOWN_VERSION at)

-- The policy of a document, or the first broken rule. The policy of a document of version 1 is to retarget.
abbrev pub policy_in : Data → Result Policy DocFault
policy_in d = if has_policy d then member_in (codes "policy") read_policy d else Ok Retarget

-- The demands of a document, or the first broken rule. The list is empty if the document's version has no demands.
abbrev pub demands_in : Names → Data → Result (List Demand) DocFault
demands_in names d =
    if has_demands d then member_in (codes "demands") (read_demands names.procs names.apps names.confs names.factors) d else Ok []

-- The processors, applications, configurations and factors of a document, or the first broken rule. The processors
-- and applications are given, and the configurations and factors are read.
abbrev pub names_with : List Proc → List AppSpec → Data → Result Names DocFault
names_with procs apps d =
    chain (member_in (codes "configurations") (read_confs procs apps) d) (λ (confs : List Conf).
    chain (member_in (codes "factors") read_factors d) (λ (factors : List Factor).
    Ok (record { procs = procs; apps = apps; confs = confs; factors = factors })))

-- The processors, applications, configurations and factors of a document, or the first broken rule. The version is
-- checked first.
abbrev pub names_in : Data → Result Names DocFault
names_in d =
    chain (member_in (codes "scram") check_version d) (λ (_ : ⊤).
    chain (member_in (codes "processors") read_procs d) (λ (procs : List Proc).
    chain (apps_in d) (λ (apps : List AppSpec). names_with procs apps d)))

-- The specification with these processors, applications, configurations and factors, and with the other parts `rest`.
abbrev pub with_rest : Names → Rest → Parts
with_rest names rest = record {
  procs = names.procs;
  apps = names.apps;
  confs = names.confs;
  factors = names.factors;
  rules = rest.table.rules;
  bounds = rest.table.bounds;
  start = rest.table.start;
  goal = rest.table.goal;
  invariants = rest.limits.invariants;
  preconditions = rest.limits.preconditions;
  policy = rest.policy;
  demands = rest.demands;
  halts = rest.limits.assumed.halts;
  changes = rest.limits.assumed.changes;
  window = rest.limits.assumed.window;
}

-- The choice table, the bounds, the start and the goal of a document, or the first broken rule.
abbrev pub table_parts_in : Names → Data → Result TableParts DocFault
table_parts_in names d =
    chain (member_in (codes "rules") (read_choices names.procs names.confs names.factors) d) (λ (rules : List Choice).
    chain (member_in (codes "bounds") (read_bounds names.confs) d) (λ (bounds : List Bound).
    chain (member_in (codes "start") (read_conf_id names.confs) d) (λ (start : ConfId).
    chain (member_in (codes "goal") read_goal d) (λ (goal : Goal).
    Ok (record { rules = rules; bounds = bounds; start = start; goal = goal })))))

-- The invariants, the preconditions and the failure assumption of a document, or the first broken rule.
abbrev pub limit_parts_in : Names → Data → Result LimitParts DocFault
limit_parts_in names d =
    chain (member_in (codes "invariants") (read_invariants names.apps names.confs) d) (λ (invariants : List Invariant).
    chain (member_in (codes "preconditions") (read_preconditions names.apps names.confs) d) (λ (preconditions : List Precondition).
    chain (member_in (codes "assumption") read_assumption d) (λ (assumed : Assumption).
    Ok (record { invariants = invariants; preconditions = preconditions; assumed = assumed }))))

-- The specification that a document encodes, or the first broken rule. Its processors, applications, configurations
-- and factors are given, and its other members are read.
abbrev pub rest_in : Names → Data → Result Parts DocFault
rest_in names d =
    chain (table_parts_in names d) (λ (table : TableParts).
    chain (limit_parts_in names d) (λ (limits : LimitParts).
    chain (policy_in d) (λ (policy : Policy).
    chain (demands_in names d) (λ (demands : List Demand).
    Ok (with_rest names (record { table = table; limits = limits; policy = policy; demands = demands }))))))

-- The specification that a document encodes, or the first broken rule.
abbrev pub spec_in : Data → Result Parts DocFault
spec_in d =
    chain (members_tested d) (λ (_ : ⊤).
    chain (names_in d) (λ (names : Names). rest_in names d))

-- The specification that the bytes encode, or the first broken rule. The number of bytes is checked first.
abbrev pub spec_of : List ℕ → Result Parts DocFault
spec_of bytes =
    if nat_le (length bytes) MAX_SPECIFICATION_BYTES then chain (parsed bytes) (λ (d : Data). spec_in d) else broken TOO_LONG []

-- The applications of a document with their needs, before they are ranked, or the first broken rule. The version and
-- the processors are checked first.
abbrev pub unranked_names_in : Data → Result (List AppSpec) DocFault
unranked_names_in d =
    chain (member_in (codes "scram") check_version d) (λ (_ : ⊤).
    chain (member_in (codes "processors") read_procs d) (λ (_ : List Proc).
    member_in (codes "apps") read_unranked d))

-- The applications of a document before they are ranked, or the first broken rule. The members of the document are
-- checked first.
abbrev pub unranked_in : Data → Result (List AppSpec) DocFault
unranked_in d = chain (members_tested d) (λ (_ : ⊤). unranked_names_in d)

-- The applications of the document that the bytes encode, before they are ranked, or the first broken rule.
abbrev pub unranked_of : List ℕ → Result (List AppSpec) DocFault
unranked_of bytes =
    if nat_le (length bytes) MAX_SPECIFICATION_BYTES then chain (parsed bytes) (λ (d : Data). unranked_in d) else broken TOO_LONG []
