-- The values that were found for the members of a document are the values of these members.
use Rattle.std.specs.Prelude.{◌≡◌, [], codes, Ok, option_map}
use Rattle.serde_json.specs.View.{view}
use Rattle.scram_doc.specs.Members.{required_at}
use Rattle.serde_json.specs.Data.{Data}
use Rattle.spec_reading.specs.declared.members.Members.{Members}
use Rattle.spec_reading.specs.declared.members.NamingMembers.{NamingMembers}
use Rattle.spec_reading.specs.declared.members.TableMembers.{TableMembers}
use Rattle.spec_reading.specs.declared.members.LimitMembers.{LimitMembers}
use Rattle.spec_reading.specs.Versions.{AreDemands, IsPolicy}

-- `m` contains the values of the document's version and of its members that contain names.
pub record AreNamingMembers (d : Data) (m : NamingMembers) : Type 0 where
  pub scram : required_at (codes "scram") [] d ≡ Ok (view m.scram.now)
  pub procs : required_at (codes "processors") [] d ≡ Ok (view m.procs.now)
  pub apps : required_at (codes "apps") [] d ≡ Ok (view m.apps.now)
  pub confs : required_at (codes "configurations") [] d ≡ Ok (view m.confs.now)
  pub factors : required_at (codes "factors") [] d ≡ Ok (view m.factors.now)

-- `m` contains the values of the document's choice table, bounds, start and goal.
pub record AreTableMembers (d : Data) (m : TableMembers) : Type 0 where
  pub rules : required_at (codes "rules") [] d ≡ Ok (view m.rules.now)
  pub bounds : required_at (codes "bounds") [] d ≡ Ok (view m.bounds.now)
  pub start : required_at (codes "start") [] d ≡ Ok (view m.start.now)
  pub goal : required_at (codes "goal") [] d ≡ Ok (view m.goal.now)

-- `m` contains the values of the document's invariants, preconditions and failure assumption.
pub record AreLimitMembers (d : Data) (m : LimitMembers) : Type 0 where
  pub invariants : required_at (codes "invariants") [] d ≡ Ok (view m.invariants.now)
  pub preconditions : required_at (codes "preconditions") [] d ≡ Ok (view m.preconditions.now)
  pub assumption : required_at (codes "assumption") [] d ≡ Ok (view m.assumption.now)

-- `m` contains the values of the members of its document. The policy and the demands are present if and only if the
-- document's version has them.
pub record AreMembers (m : Members) : Type 0 where
  pub scram : required_at (codes "scram") [] (view m.document.now) ≡ Ok (view m.scram.now)
  pub procs : required_at (codes "processors") [] (view m.document.now) ≡ Ok (view m.procs.now)
  pub apps : required_at (codes "apps") [] (view m.document.now) ≡ Ok (view m.apps.now)
  pub confs : required_at (codes "configurations") [] (view m.document.now) ≡ Ok (view m.confs.now)
  pub factors : required_at (codes "factors") [] (view m.document.now) ≡ Ok (view m.factors.now)
  pub rules : required_at (codes "rules") [] (view m.document.now) ≡ Ok (view m.rules.now)
  pub bounds : required_at (codes "bounds") [] (view m.document.now) ≡ Ok (view m.bounds.now)
  pub start : required_at (codes "start") [] (view m.document.now) ≡ Ok (view m.start.now)
  pub goal : required_at (codes "goal") [] (view m.document.now) ≡ Ok (view m.goal.now)
  pub invariants : required_at (codes "invariants") [] (view m.document.now) ≡ Ok (view m.invariants.now)
  pub preconditions : required_at (codes "preconditions") [] (view m.document.now) ≡ Ok (view m.preconditions.now)
  pub assumption : required_at (codes "assumption") [] (view m.document.now) ≡ Ok (view m.assumption.now)
  pub policy : IsPolicy (view m.document.now) (option_map (λ d. view d.now) m.policy)
  pub demands : AreDemands (view m.document.now) (option_map (λ d. view d.now) m.demands)
