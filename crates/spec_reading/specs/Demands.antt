-- The reading of demands.
use Rattle.std.specs.Prelude.{ℕ, ◌++◌, List, [], ◌∷◌, codes, Option, Some, None, is_some, replicate, set, slice_get, Result, Ok, ⊤, if◌then◌else◌}
use Rattle.serde_json.specs.Data.{Data, Items}
use Rattle.scram_types.specs.declared.ids.Mode.{Mode}
use Rattle.scram_types.specs.declared.specification.Proc.{Proc}
use Rattle.scram_types.specs.declared.specification.AppSpec.{AppSpec}
use Rattle.scram_types.specs.declared.specification.Conf.{Conf}
use Rattle.scram_types.specs.declared.demands.Demand.{Demand}
use Rattle.scram_types.specs.declared.specification.Factor.{Factor}
use Rattle.scram_types.specs.declared.specification.Want.{Want}
use Rattle.scram_types.specs.Bits.{bits_below}
use Rattle.scram_types.specs.ModeLists.{is_among}
use Rattle.scram_doc.specs.declared.fault.DocFault.{DocFault}
use Rattle.scram_doc.specs.Chain.{chain}
use Rattle.scram_doc.specs.Faults.{broken}
use Rattle.scram_doc.specs.Lists.{elements_at, folded_from}
use Rattle.scram_doc.specs.Members.{exactly_two_at, no_more_than, object_at, required_four_at}
use Rattle.scram_doc.specs.Paths.{member_path}
use Rattle.scram_doc.specs.Values.{list_at}
use Rattle.spec_reading.specs.declared.rule.TheConstants.{MODE_TWICE}
use Rattle.spec_reading.specs.Names.{name_of_demand, read_new_name}
use Rattle.spec_reading.specs.declared.demands.Requirements.{Requirements}
use Rattle.spec_reading.specs.Choices.{read_want}
use Rattle.spec_reading.specs.Configurations.{given, read_listed_mode, read_new_app}
use Rattle.spec_reading.specs.Sets.{read_apps_set, read_confs_set, read_procs_set}

-- The list `modes` extended by the mode that a value names, or the first document rule that the value breaks. The
-- application must list the mode, and the mode must not be in `modes`.
abbrev pub read_on_mode : Option AppSpec → List ℕ → List Mode → Data → Result (List Mode) DocFault
read_on_mode found at modes d =
    chain (read_listed_mode found at d) (λ (mode : ℕ).
    if is_among modes mode then broken MODE_TWICE at else Ok (modes ++ record { 0 = mode } ∷ []))

-- The 0 to 3 modes that a value names, or the first document rule that the value breaks. The application must list
-- each mode.
abbrev pub read_on_modes : Option AppSpec → List ℕ → Data → Result (List Mode) DocFault
read_on_modes found at d = chain (list_at 0 3 at d) (λ (ds : Items). folded_from (read_on_mode found) at 0 [] ds)

-- The list `on` with the modes of the application that a value encodes, or the first document rule that the value
-- breaks. `on` contains the modes of each application that must be on, and must have none for this application.
abbrev pub read_on_app : List AppSpec → List ℕ → List (Option (List Mode)) → Data → Result (List (Option (List Mode))) DocFault
read_on_app apps at on d =
    chain (exactly_two_at (codes "app") (codes "modes") at d) (λ (m : Data × Data).
    chain (read_new_app apps on (member_path at (codes "app")) m.0) (λ (a : ℕ).
    chain (read_on_modes (slice_get apps a) (member_path at (codes "modes")) m.1) (λ (modes : List Mode).
    Ok (set on a (Some modes)))))

-- The modes of each application that must be on, as a value encodes them, or the first document rule that the value
-- breaks. There are 0 to 8 such applications.
abbrev pub read_modes_on : List AppSpec → List ℕ → Data → Result (List (Option (List Mode))) DocFault
read_modes_on apps at d = chain (list_at 0 8 at d) (λ (ds : Items). folded_from (read_on_app apps) at 0 (replicate 8 None) ds)

-- The set of the applications that must be on.
abbrev pub on_set : List (Option (List Mode)) → ℕ
on_set on = bits_below (λ a. is_some (given on a)) 8

-- The values of a demand's members.
pub record DemandMembers : Type 0 where
  pub name : Data
  pub from : Data
  pub wants : Data
  pub up : Data
  pub down : Data
  pub to : Data
  pub on : Data
  pub off : Data

-- The values of a demand's members, in the order in which they are looked up.
abbrev pub make_demand_members : Data → Data → Data → Data → Data → Data → Data → Data → DemandMembers
make_demand_members name from wants up down to on off =
    record { name = name; from = from; wants = wants; up = up; down = down; to = to; on = on; off = off }

-- The values of the members of the demand that a value encodes, or the first document rule that is broken. The value
-- must be an object that has exactly the members of a demand.
abbrev pub find_demand_members : List ℕ → Data → Result DemandMembers DocFault
find_demand_members at d =
    chain (object_at at d) (λ (_ : ⊤).
    chain (required_four_at (codes "name") (codes "from") (codes "when") (codes "up") at d) (λ (m : Data × Data × Data × Data).
    chain (required_four_at (codes "down") (codes "to") (codes "on") (codes "off") at d) (λ (n : Data × Data × Data × Data).
    chain (no_more_than 8 at d) (λ (_ : ⊤).
    Ok (make_demand_members m.0 m.1 m.2 m.3 n.0 n.1 n.2 n.3)))))

-- The requirements of a demand on processors, applications and the chosen configuration, or the first document rule
-- that they break. They are read from the members of the demand's object at path `at`.
abbrev pub read_requirements : List Proc → List AppSpec → List Conf → List ℕ → DemandMembers → Result Requirements DocFault
read_requirements procs apps confs at m =
    chain (read_procs_set procs 0 (member_path at (codes "up")) m.up) (λ (up : ℕ).
    chain (read_procs_set procs up (member_path at (codes "down")) m.down) (λ (down : ℕ).
    chain (read_confs_set confs (member_path at (codes "to")) m.to) (λ (to : ℕ).
    chain (read_modes_on apps (member_path at (codes "on")) m.on) (λ (on : List (Option (List Mode))).
    chain (read_apps_set apps (on_set on) (member_path at (codes "off")) m.off) (λ (off : ℕ).
    Ok (record { up = up; down = down; to = to; on = on; off = off }))))))

-- The demand that a value encodes, given the items that it may name, or the first document rule that the value
-- breaks. No demand in `done` may have its name.
abbrev pub read_demand : List Proc → List AppSpec → List Conf → List Factor → List ℕ → List Demand → Data → Result Demand DocFault
read_demand procs apps confs factors at done d =
    chain (find_demand_members at d) (λ (m : DemandMembers).
    chain (read_new_name name_of_demand done (member_path at (codes "name")) m.name) (λ (name : List ℕ).
    chain (read_confs_set confs (member_path at (codes "from")) m.from) (λ (from : ℕ).
    chain (elements_at (read_want factors) 0 6 (member_path at (codes "when")) m.wants) (λ (wants : List Want).
    chain (read_requirements procs apps confs at m) (λ (asked : Requirements).
    Ok (record { name = name; from = from; wants = wants; up = asked.up; down = asked.down; to = asked.to; on = asked.on; off = asked.off }))))))

-- The 0 to 64 demands that a value encodes, or the first document rule that the value breaks.
abbrev pub read_demands : List Proc → List AppSpec → List Conf → List Factor → List ℕ → Data → Result (List Demand) DocFault
read_demands procs apps confs factors at d = elements_at (read_demand procs apps confs factors) 0 64 at d
