-- The reading of invariants and preconditions, which are intervals for a variable of an application.
use Rattle.std.specs.Prelude.{ℕ, ℤ, pos, int_le, List, codes, Option, Some, None, slice_get, Result, Ok, if◌then◌else◌}
use Rattle.serde_json.specs.Data.{Data}
use Rattle.scram_types.specs.Numbers.{minus}
use Rattle.scram_types.specs.declared.ids.AppId.{AppId}
use Rattle.scram_types.specs.declared.ids.ConfId.{ConfId}
use Rattle.scram_types.specs.declared.specification.AppSpec.{AppSpec}
use Rattle.scram_types.specs.declared.specification.Conf.{Conf}
use Rattle.scram_types.specs.declared.specification.Invariant.{Invariant}
use Rattle.scram_types.specs.declared.specification.Precondition.{Precondition}
use Rattle.kind_table.specs.Names.{variable_names, number_in}
use Rattle.scram_doc.specs.declared.fault.DocFault.{DocFault}
use Rattle.scram_doc.specs.Chain.{chain, ok_map}
use Rattle.scram_doc.specs.Faults.{broken, or_broken}
use Rattle.scram_doc.specs.Paths.{member_path}
use Rattle.scram_doc.specs.Members.{exactly_five_at}
use Rattle.scram_doc.specs.Values.{text_at, int_at}
use Rattle.spec_reading.specs.declared.rule.TheConstants.{UNKNOWN_APPLICATION, UNKNOWN_VARIABLE, EMPTY_INTERVAL}
use Rattle.spec_reading.specs.declared.intervals.Ends.{Ends}
use Rattle.spec_reading.specs.declared.intervals.Interval.{Interval}
use Rattle.scram_doc.specs.Lists.{elements_at}
use Rattle.spec_reading.specs.Names.{read_named, name_of_app}
use Rattle.spec_reading.specs.Choices.{read_conf_id, read_source}

-- The application that a value names, or the first document rule that the value breaks.
abbrev pub read_app_id : List AppSpec → List ℕ → Data → Result AppId DocFault
read_app_id apps at d = ok_map (λ (a : ℕ). record { 0 = a }) (read_named name_of_app apps UNKNOWN_APPLICATION at d)

-- The variable of the application's kind that a value names, or the first document rule that the value breaks. If the
-- application is `None`, it has no variable.
abbrev pub read_variable : Option AppSpec → List ℕ → Data → Result ℕ DocFault
read_variable None at d = broken UNKNOWN_VARIABLE at
read_variable (Some app) at d =
    chain (text_at at d) (λ (text : List ℕ). or_broken UNKNOWN_VARIABLE at (number_in (variable_names app.kind.0) text))

-- The end of an interval that a value encodes, or the first document rule that the value breaks.
abbrev pub read_end : List ℕ → Data → Result ℤ DocFault
read_end at d = int_at (minus 1000000000) (pos 1000000000) at d

-- The ends of the interval that the members `least` and `greatest` of the object at path `at` encode, or the first
-- document rule that these members break.
abbrev pub read_ends : List ℕ → Data → Data → Result Ends DocFault
read_ends at least greatest =
    chain (read_end (member_path at (codes "least")) least) (λ (low : ℤ).
    chain (read_end (member_path at (codes "greatest")) greatest) (λ (high : ℤ).
    if int_le low high then Ok (record { least = low; greatest = high }) else broken EMPTY_INTERVAL (member_path at (codes "greatest"))))

-- The interval that the members of the object at path `at` encode, or the first document rule that these members
-- break.
abbrev pub read_interval : List AppSpec → List ℕ → Data → Data → Data → Data → Result Interval DocFault
read_interval apps at app variable least greatest =
    chain (read_app_id apps (member_path at (codes "app")) app) (λ (app : AppId).
    chain (read_variable (slice_get apps app.0) (member_path at (codes "variable")) variable) (λ (variable : ℕ).
    chain (read_ends at least greatest) (λ (ends : Ends).
    Ok (record { app = app; variable = variable; ends = ends }))))

-- The invariant that a value encodes, given the items that it may name, or the first document rule that the value
-- breaks.
abbrev pub read_invariant : List AppSpec → List Conf → List ℕ → List Invariant → Data → Result Invariant DocFault
read_invariant apps confs at done d =
    chain (exactly_five_at (codes "from") (codes "app") (codes "variable") (codes "least") (codes "greatest") at d)
    (λ (m : Data × Data × Data × Data × Data).
    chain (read_source confs (member_path at (codes "from")) m.0) (λ (from : Option ConfId).
    chain (read_interval apps at m.1 m.2 m.3 m.4) (λ (i : Interval).
    Ok (record { from = from; app = i.app; variable = i.variable; least = i.ends.least; greatest = i.ends.greatest }))))

-- The 0 to 64 invariants that a value encodes, or the first document rule that the value breaks.
abbrev pub read_invariants : List AppSpec → List Conf → List ℕ → Data → Result (List Invariant) DocFault
read_invariants apps confs at d = elements_at (read_invariant apps confs) 0 64 at d

-- The precondition that a value encodes, given the items that it may name, or the first document rule that the value
-- breaks.
abbrev pub read_precondition : List AppSpec → List Conf → List ℕ → List Precondition → Data → Result Precondition DocFault
read_precondition apps confs at done d =
    chain (exactly_five_at (codes "configuration") (codes "app") (codes "variable") (codes "least") (codes "greatest") at d)
    (λ (m : Data × Data × Data × Data × Data).
    chain (read_conf_id confs (member_path at (codes "configuration")) m.0) (λ (conf : ConfId).
    chain (read_interval apps at m.1 m.2 m.3 m.4) (λ (i : Interval).
    Ok (record { conf = conf; app = i.app; variable = i.variable; least = i.ends.least; greatest = i.ends.greatest }))))

-- The 0 to 64 preconditions that a value encodes, or the first document rule that the value breaks.
abbrev pub read_preconditions : List AppSpec → List Conf → List ℕ → Data → Result (List Precondition) DocFault
read_preconditions apps confs at d = elements_at (read_precondition apps confs) 0 64 at d
