-- The results of a reading that may run out of memory, and the cycles that they contain.
use Rattle.std.specs.Prelude.{◌≡◌, ℕ, List, [], map, Some, option_map, slice_get, Result, Ok, Err, ⊤, Bool, true, false}
use Rattle.scram_types.specs.declared.ids.AppId.{AppId}
use Rattle.scram_types.specs.declared.specification.AppSpec.{AppSpec}
use Rattle.scram_doc.specs.declared.fault.DocFault.{DocFault}
use Rattle.scram_doc.specs.declared.fault.DocError.{DocError}
use Rattle.scram_doc.specs.declared.fault.DocError.TheVariants as doc
use Rattle.dep_order.specs.Ranks.{IsCycle}
use Rattle.spec_reading.specs.declared.fault.SpecError.{SpecError}
use Rattle.spec_reading.specs.declared.fault.SpecError.TheVariants.{Fault, NoMemory}
use Rattle.spec_reading.specs.Names.{name_of_app}
use Rattle.spec_reading.specs.Needs.{are_ranked}

-- The result agrees with `reading`, apart from the cycle and the names that a fault contains, or it is `NoMemory`.
abbrev pub AnswersSpec : {A : Type 0} → Result A DocFault → Result A SpecError → Type 0
AnswersSpec reading (Ok a) = reading ≡ Ok a
AnswersSpec reading (Err (Fault fault)) = reading ≡ Err (record { rule = fault.rule; path = fault.path })
AnswersSpec reading (Err NoMemory) = ⊤

-- The first argument states whether the applications can be ranked. If they can, `cycle` is empty. Otherwise `cycle`
-- is a cycle of their needs.
abbrev pub CycleIf : Bool → List AppSpec → List AppId → Type 0
CycleIf true apps cycle = cycle ≡ []
CycleIf false apps cycle = IsCycle apps cycle

-- If the applications were not read or can be ranked, `cycle` is empty. Otherwise `cycle` is a cycle of their needs.
abbrev pub CycleAmong : Result (List AppSpec) DocFault → List AppId → Type 0
CycleAmong (Err fault) cycle = cycle ≡ []
CycleAmong (Ok apps) cycle = CycleIf (are_ranked apps) apps cycle

-- The applications were not read, or have no cycle of needs.
abbrev pub HasNoCycle : Result (List AppSpec) DocFault → Type 0
HasNoCycle unranked = CycleAmong unranked []

-- Each application of `named` exists, and `names` contains their names, in order.
abbrev pub AreNamed : List AppSpec → List AppId → List (List ℕ) → Type 0
AreNamed apps named names =
    map (λ (a : AppId). option_map name_of_app (slice_get apps a.0)) named ≡ map (λ (name : List ℕ). Some name) names

-- If the applications were read, `names` contains the names of the applications `named`, in order. Otherwise `names`
-- is empty.
abbrev pub NamedAmong : Result (List AppSpec) DocFault → List AppId → List (List ℕ) → Type 0
NamedAmong (Err fault) named names = names ≡ []
NamedAmong (Ok apps) named names = AreNamed apps named names

-- A fault contains a cycle of needs of the applications as they were read, with the names of the applications in it.
-- The cycle is empty if the applications were not read or have no cycle.
abbrev pub ShowsCycle : Result (List AppSpec) DocFault → SpecError → Type 0
ShowsCycle unranked (Fault fault) =
    CycleAmong unranked fault.cycle.items × NamedAmong unranked fault.cycle.items fault.names.items
ShowsCycle unranked NoMemory = ⊤

-- The specification error for a broken rule. Its cycle is empty.
abbrev pub plain_fault : DocFault → SpecError
plain_fault fault = Fault (record { rule = fault.rule; path = fault.path; cycle = record { items = [] }; names = record { items = [] } })

-- The specification error for an error in reading a part of a document. Its cycle is empty.
abbrev pub plain_error : DocError → SpecError
plain_error (doc.Fault fault) = plain_fault fault
plain_error doc.NoMemory = NoMemory
