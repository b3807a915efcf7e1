-- If a specification can be written, its value is read back as the same specification.
use Rattle.std.proofs.Common.{◌≡◌, ◌≤◌, ℕ, List, [], ◌∷◌, length, map, arith, refl}
use Rattle.std.specs.Prelude.{Ok, Some, IsUtf8, codes}
use Rattle.std.proofs.lemmas.Bool.{le-leb}
use Rattle.serde_json.specs.Read.{read}
use Rattle.scram_doc.specs.Canonical.{list_data}
use Rattle.scram_doc.specs.Paths.{member_path}
use Rattle.scram_doc.proofs.Parsed.{parsed-some}
use Rattle.scram_types.specs.declared.limits.TheConstants.{MAX_SPECIFICATION_BYTES}
use Rattle.scram_types.specs.declared.demands.Demand.{Demand}
use Rattle.scram_types.specs.declared.specification.Policy.{Policy}
use Rattle.scram_types.specs.declared.specification.Policy.TheVariants.{Retarget, Settle}
use Rattle.scram_types.specs.Specification.{IsSpec, Parts}
use Rattle.spec_reading.specs.declared.documents.Assumption.{Assumption}
use Rattle.spec_reading.specs.Bounds.{read_bounds}
use Rattle.spec_reading.specs.Choices.{read_choices, read_conf_id}
use Rattle.spec_reading.specs.Demands.{read_demands}
use Rattle.spec_reading.specs.Names.{name_of_conf}
use Rattle.spec_reading.specs.Configurations.{read_confs}
use Rattle.spec_reading.specs.Vocabulary.{Names}
use Rattle.spec_reading.specs.Documents.{read_assumption, read_goal, names_in, rest_in, spec_in, spec_of}
use Rattle.spec_reading.specs.Factors.{read_factors}
use Rattle.spec_reading.specs.Intervals.{read_invariants, read_preconditions}
use Rattle.spec_reading.specs.Needs.{ranked_at, read_unranked}
use Rattle.spec_reading.specs.Processors.{read_procs}
use Rattle.reconf_spec.specs.Texts.{app_data, assumption_data, bound_data, choice_data, conf_data, data_by, demand_data, factor_data, goal_data, invariant_data, precondition_data, proc_data, spec_data, start_data}
use Rattle.spec_reading.specs.Writable.{IsWritable}
use Rattle.reconf_spec.proofs.AppsBack.{procs_back, ranks_back, unranked, unranked_back}
use Rattle.reconf_spec.proofs.ConfsBack.{confs_back, factors_back}
use Rattle.reconf_spec.proofs.DemandsBack.{demands_back}
use Rattle.scram_doc.proofs.ReadBack.{whole_back}
use Rattle.reconf_spec.proofs.Lookups.{number_back}
use Rattle.reconf_spec.proofs.RestBack.{bounds_back, choices_back, goal_back, invariants_back, preconditions_back}

start_back : (spec : Parts) → IsSpec spec → (at : List ℕ) → read_conf_id spec.confs at (start_data spec) ≡ Ok spec.start
start_back spec is at = rw (number_back name_of_conf spec.confs spec.start.0 is.confs_differ is.start) refl

abbrev assumed : Parts → Assumption
assumed spec = record { halts = spec.halts; changes = spec.changes; window = spec.window }

assumption_back : (spec : Parts) → IsSpec spec → (at : List ℕ) → read_assumption at (assumption_data spec) ≡ Ok (assumed spec)
assumption_back spec is at =
    let halts = is.halts in
    let changes = is.changes in
    let window = is.window_most in
    rw (whole_back 0 9 spec.halts (omega arith) (omega (arith, halts)), whole_back 0 17 spec.changes (omega arith) (omega (arith, changes)), whole_back 1 1001 spec.window is.window_least (omega (arith, window))) refl

abbrev names_of : Parts → Names
names_of spec = record { procs = spec.procs; apps = spec.apps; confs = spec.confs; factors = spec.factors }

-- The processors, applications, configurations and factors are read back as they were written.
record NamesAreBack (spec : Parts) : Type 0 where
  procs : read_procs (member_path [] (codes "processors")) (list_data proc_data spec.procs) ≡ Ok spec.procs
  apps : read_unranked (member_path [] (codes "apps")) (list_data (app_data spec.apps) spec.apps) ≡ Ok (map unranked spec.apps)
  ranks : ranked_at (member_path [] (codes "apps")) (map unranked spec.apps) ≡ Ok spec.apps
  confs : read_confs spec.procs spec.apps (member_path [] (codes "configurations")) (list_data (conf_data spec) spec.confs) ≡ Ok spec.confs
  factors : read_factors (member_path [] (codes "factors")) (list_data factor_data spec.factors) ≡ Ok spec.factors

names_are_back : (spec : Parts) → IsSpec spec → IsWritable spec → NamesAreBack spec
names_are_back spec is writable = record {
  procs = procs_back _ spec.procs is.procs_count is.procs_differ is.procs is.names.procs;
  apps = unranked_back _ spec.apps is.apps_count is.apps_differ is.names.apps is.apps writable.apps;
  ranks = ranks_back _ spec.apps is.apps writable.ranks;
  confs = confs_back spec is is.names.confs _;
  factors = factors_back _ spec.factors is.factors_count is.factors_differ is.factors is.names.factors is.names.values;
}

names_back : (demands : List Demand) (policy : Policy) (spec : Parts) → NamesAreBack spec → names_in (data_by demands policy spec) ≡ Ok (names_of spec)
names_back [] Retarget spec back = rw (back.procs, back.apps, back.ranks, back.confs, back.factors) refl
names_back [] Settle spec back = rw (back.procs, back.apps, back.ranks, back.confs, back.factors) refl
names_back (demand ∷ demands) policy spec back = rw (back.procs, back.apps, back.ranks, back.confs, back.factors) refl

-- The specification `spec` with these demands and this policy in place of its own.
abbrev with_choice : List Demand → Policy → Parts → Parts
with_choice demands policy spec = record {
  procs = spec.procs;
  apps = spec.apps;
  confs = spec.confs;
  factors = spec.factors;
  rules = spec.rules;
  bounds = spec.bounds;
  start = spec.start;
  goal = spec.goal;
  invariants = spec.invariants;
  preconditions = spec.preconditions;
  policy = policy;
  demands = demands;
  halts = spec.halts;
  changes = spec.changes;
  window = spec.window;
}

-- The members of a document after those that contain names, except the policy and the demands, are read back as they
-- were written.
record RestIsBack (spec : Parts) : Type 0 where
  rules : read_choices spec.procs spec.confs spec.factors (member_path [] (codes "rules")) (list_data (choice_data spec) spec.rules) ≡ Ok spec.rules
  bounds : read_bounds spec.confs (member_path [] (codes "bounds")) (list_data (bound_data spec.confs) spec.bounds) ≡ Ok spec.bounds
  start : read_conf_id spec.confs (member_path [] (codes "start")) (start_data spec) ≡ Ok spec.start
  goal : read_goal (member_path [] (codes "goal")) (goal_data spec.goal) ≡ Ok spec.goal
  invariants : read_invariants spec.apps spec.confs (member_path [] (codes "invariants")) (list_data (invariant_data spec) spec.invariants) ≡ Ok spec.invariants
  preconditions : read_preconditions spec.apps spec.confs (member_path [] (codes "preconditions")) (list_data (precondition_data spec) spec.preconditions) ≡ Ok spec.preconditions
  assumption : read_assumption (member_path [] (codes "assumption")) (assumption_data spec) ≡ Ok (assumed spec)

rest_is_back : (spec : Parts) → IsSpec spec → IsWritable spec → RestIsBack spec
rest_is_back spec is writable = record {
  rules = choices_back spec is is.names.confs writable.rules _;
  bounds = bounds_back spec is writable.bounds _;
  start = start_back spec is _;
  goal = goal_back (member_path [] (codes "goal")) spec.goal is.goal;
  invariants = invariants_back spec is is.names.confs writable.invariants _;
  preconditions = preconditions_back spec is writable.preconditions _;
  assumption = assumption_back spec is (member_path [] (codes "assumption"));
}

-- The demands of a specification are read back as they were written.
abbrev AreBack : Parts → List Demand → Type 0
AreBack spec demands =
    read_demands spec.procs spec.apps spec.confs spec.factors (member_path [] (codes "demands")) (list_data (demand_data spec) demands) ≡ Ok demands

rest_back : (demands : List Demand) (policy : Policy) (spec : Parts) → RestIsBack spec → AreBack spec demands → rest_in (names_of spec) (data_by demands policy spec) ≡ Ok (with_choice demands policy spec)
rest_back [] Retarget spec back are = rw (back.rules, back.bounds, back.start, back.goal, back.invariants, back.preconditions, back.assumption) refl
rest_back [] Settle spec back are = rw (back.rules, back.bounds, back.start, back.goal, back.invariants, back.preconditions, back.assumption) refl
rest_back (demand ∷ demands) Retarget spec back are = rw (back.rules, back.bounds, back.start, back.goal, back.invariants, back.preconditions, back.assumption, are) refl
rest_back (demand ∷ demands) Settle spec back are = rw (back.rules, back.bounds, back.start, back.goal, back.invariants, back.preconditions, back.assumption, are) refl

document_back : (demands : List Demand) (policy : Policy) (spec : Parts) → NamesAreBack spec → RestIsBack spec → AreBack spec demands → spec_in (data_by demands policy spec) ≡ Ok (with_choice demands policy spec)
document_back [] Retarget spec names rest are = rw (names_back [] Retarget spec names, rest_back [] Retarget spec rest are) refl
document_back [] Settle spec names rest are = rw (names_back [] Settle spec names, rest_back [] Settle spec rest are) refl
document_back (demand ∷ demands) policy spec names rest are = rw (names_back (demand ∷ demands) policy spec names, rest_back (demand ∷ demands) policy spec rest are) refl

pub spec_back : (spec : Parts) → IsSpec spec → IsWritable spec → spec_in (spec_data spec) ≡ Ok spec
spec_back spec is writable =
    document_back spec.demands spec.policy spec (names_are_back spec is writable) (rest_is_back spec is writable) (demands_back spec is writable.demands (member_path [] (codes "demands")))

pub text_back : (spec : Parts) (bytes : List ℕ) → IsSpec spec → IsUtf8 bytes → read bytes ≡ Some (spec_data spec) → IsWritable spec → length bytes ≤ MAX_SPECIFICATION_BYTES
    → spec_of bytes ≡ Ok spec
text_back spec bytes is utf8 value writable short =
    rw (le-leb (length bytes) MAX_SPECIFICATION_BYTES short, parsed-some bytes (spec_data spec) utf8 value) (spec_back spec is writable)
