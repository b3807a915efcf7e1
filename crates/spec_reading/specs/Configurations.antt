-- The reading of configurations.
use Rattle.std.specs.Prelude.{ℕ, List, codes, Option, Some, None, is_some, replicate, set, slice_get, option_and_then, Result, Ok, if◌then◌else◌}
use Rattle.serde_json.specs.Data.{Data, Items}
use Rattle.scram_types.specs.declared.specification.Proc.{Proc}
use Rattle.scram_types.specs.declared.specification.AppSpec.{AppSpec}
use Rattle.scram_types.specs.declared.specification.Place.{Place}
use Rattle.scram_types.specs.declared.specification.Conf.{Conf}
use Rattle.scram_types.specs.Specification.{mode_in}
use Rattle.scram_doc.specs.declared.fault.DocFault.{DocFault}
use Rattle.scram_doc.specs.Chain.{chain}
use Rattle.scram_doc.specs.Faults.{broken}
use Rattle.scram_doc.specs.Paths.{member_path}
use Rattle.scram_doc.specs.Members.{exactly_three_at, exactly_two_at}
use Rattle.scram_doc.specs.Values.{list_at}
use Rattle.spec_reading.specs.declared.rule.TheConstants.{UNKNOWN_PROCESSOR, UNKNOWN_APPLICATION, TWICE_IN_LIST, MODE_NOT_LISTED}
use Rattle.scram_doc.specs.Lists.{elements_at, folded_from}
use Rattle.spec_reading.specs.Names.{read_new_name, read_named, name_of_proc, name_of_app, name_of_conf}
use Rattle.spec_reading.specs.Modes.{read_kind_mode}

-- The entry of a list for application `a`, or `None` if there is none.
abbrev pub given : {A : Type 0} → List (Option A) → ℕ → Option A
given {A} xs a = option_and_then (λ (x : Option A). x) (slice_get xs a)

-- The number of the application that a value names, or the first document rule that the value breaks. The list `xs`
-- must have no entry for that application.
abbrev pub read_new_app : {A : Type 0} → List AppSpec → List (Option A) → List ℕ → Data → Result ℕ DocFault
read_new_app apps xs at d =
    chain (read_named name_of_app apps UNKNOWN_APPLICATION at d) (λ (a : ℕ).
    if is_some (given xs a) then broken TWICE_IN_LIST at else Ok a)

-- The mode that a value names, or the first document rule that the value breaks. The mode must be a mode of the
-- application's kind, and the application must list it. If the application is `None`, it lists no mode.
abbrev pub read_listed_mode : Option AppSpec → List ℕ → Data → Result ℕ DocFault
read_listed_mode None at d = broken MODE_NOT_LISTED at
read_listed_mode (Some app) at d =
    chain (read_kind_mode app.kind.0 at d) (λ (mode : ℕ).
    if is_some (mode_in app.modes mode) then Ok mode else broken MODE_NOT_LISTED at)

-- The list `places` with the place that a value encodes, or the first document rule that the value breaks. The
-- application of the place must have no place in `places`.
abbrev pub read_place : List Proc → List AppSpec → List ℕ → List (Option Place) → Data → Result (List (Option Place)) DocFault
read_place procs apps at places d =
    chain (exactly_three_at (codes "app") (codes "mode") (codes "on") at d) (λ (m : Data × Data × Data).
    chain (read_new_app apps places (member_path at (codes "app")) m.0) (λ (a : ℕ).
    chain (read_listed_mode (slice_get apps a) (member_path at (codes "mode")) m.1) (λ (mode : ℕ).
    chain (read_named name_of_proc procs UNKNOWN_PROCESSOR (member_path at (codes "on")) m.2) (λ (proc : ℕ).
    Ok (set places a (Some (record { mode = record { 0 = mode }; proc = record { 0 = proc } })))))))

-- The 0 to 8 places that a value encodes, or the first document rule that the value breaks. An application without a
-- place is off.
abbrev pub read_place_list : List Proc → List AppSpec → List ℕ → Data → Result (List (Option Place)) DocFault
read_place_list procs apps at d =
    chain (list_at 0 8 at d) (λ (ds : Items). folded_from (read_place procs apps) at 0 (replicate 8 None) ds)

-- The configuration that a value encodes, or the first document rule that the value breaks. No configuration in
-- `done` may have its name.
abbrev pub read_conf : List Proc → List AppSpec → List ℕ → List Conf → Data → Result Conf DocFault
read_conf procs apps at done d =
    chain (exactly_two_at (codes "name") (codes "apps") at d) (λ (m : Data × Data).
    chain (read_new_name name_of_conf done (member_path at (codes "name")) m.0) (λ (name : List ℕ).
    chain (read_place_list procs apps (member_path at (codes "apps")) m.1) (λ (places : List (Option Place)).
    Ok (record { name = name; places = places }))))

-- The 1 to 12 configurations that a value encodes, or the first document rule that the value breaks.
abbrev pub read_confs : List Proc → List AppSpec → List ℕ → Data → Result (List Conf) DocFault
read_confs procs apps at d = elements_at (read_conf procs apps) 1 12 at d
