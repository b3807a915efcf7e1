use Rattle.spec_reading.proofs.members.find_members.Goals as goal

pub returns-clause-members : goal.returns-clause-members
returns-clause-members c =
    let naming = c.in_ok-naming.ensures.members in
    let table = c.in_ok-table.ensures.members in
    let limits = c.in_ok-limits.ensures.members in
    record {
      scram = naming.scram;
      procs = naming.procs;
      apps = naming.apps;
      confs = naming.confs;
      factors = naming.factors;
      rules = table.rules;
      bounds = table.bounds;
      start = table.start;
      goal = table.goal;
      invariants = limits.invariants;
      preconditions = limits.preconditions;
      assumption = limits.assumption;
      policy = c.in_ok-policy.ensures.policy;
      demands = c.in_ok-demands.ensures.demands;
    }

pub find_policy-requires : goal.find_policy-requires
find_policy-requires c = record { scram = c.in_ok-naming.ensures.members.scram }

pub find_demands-requires : goal.find_demands-requires
find_demands-requires c = record { scram = c.in_ok-naming.ensures.members.scram }

pub check_count-requires : goal.check_count-requires
check_count-requires c = record { scram = c.in_ok-naming.ensures.members.scram }
