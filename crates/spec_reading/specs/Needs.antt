-- How needs are read and ranked, after all applications have been read.
use Rattle.std.specs.Prelude.{ℕ, zero, suc, Bool, List, [], ◌∷◌, codes, map, nat_lt, Result, Ok, if◌then◌else◌}
use Rattle.std.specs.List.{list_all}
use Rattle.serde_json.specs.Data.{Data, Items}
use Rattle.scram_types.specs.declared.ids.AppId.{AppId}
use Rattle.scram_types.specs.declared.specification.AppSpec.{AppSpec}
use Rattle.scram_doc.specs.declared.fault.DocFault.{DocFault}
use Rattle.scram_doc.specs.Chain.{chain}
use Rattle.scram_doc.specs.Faults.{broken}
use Rattle.scram_doc.specs.Paths.{member_path}
use Rattle.scram_doc.specs.Members.{required_at}
use Rattle.scram_doc.specs.Values.{list_at}
use Rattle.dep_order.specs.Ranks.{rank_after}
use Rattle.dep_order.specs.Timetables.{is_named}
use Rattle.spec_reading.specs.declared.rule.TheConstants.{UNKNOWN_APPLICATION, TWICE_IN_LIST, CYCLE_OF_NEEDS}
use Rattle.scram_doc.specs.Lists.{elements_at, elements_from}
use Rattle.spec_reading.specs.Members.{member_in}
use Rattle.spec_reading.specs.Names.{read_named, name_of_app}
use Rattle.spec_reading.specs.Applications.{read_app}

-- The application that the text at a path names, or the first broken rule. The application must not be among the
-- needs `done`.
abbrev pub read_need : List AppSpec → List ℕ → List AppId → Data → Result AppId DocFault
read_need apps at done d =
    chain (read_named name_of_app apps UNKNOWN_APPLICATION at d) (λ (a : ℕ).
    if is_named done a then broken TWICE_IN_LIST at else Ok (record { 0 = a }))

-- The needs of the application at a path, or the first broken rule.
abbrev pub read_needs : List AppSpec → List ℕ → List (List AppId) → Data → Result (List AppId) DocFault
read_needs apps at done d =
    chain (required_at (codes "needs") at d) (λ (needs : Data).
    elements_at (read_need apps) 0 8 (member_path at (codes "needs")) needs)

-- The applications, in order, with these needs. Applications past the end of `needs` are unchanged.
abbrev pub with_needs : List AppSpec → List (List AppId) → List AppSpec
with_needs [] needs = []
with_needs (app ∷ apps) [] = app ∷ apps
with_needs (app ∷ apps) (named ∷ needs) =
    record { name = app.name; kind = app.kind; needs = named; modes = app.modes; rank = app.rank } ∷ with_needs apps needs

-- The applications, in order, with these ranks. Applications past the end of `ranks` are unchanged.
abbrev pub with_ranks : List AppSpec → List ℕ → List AppSpec
with_ranks [] ranks = []
with_ranks (app ∷ apps) [] = app ∷ apps
with_ranks (app ∷ apps) (rank ∷ ranks) =
    record { name = app.name; kind = app.kind; needs = app.needs; modes = app.modes; rank = rank } ∷ with_ranks apps ranks

-- For each application, the length of the longest chain of needs from it, where only chains of at most the given
-- number of links are counted.
abbrev pub longest_chains : ℕ → List AppSpec → List ℕ
longest_chains zero apps = map (λ (app : AppSpec). 0) apps
longest_chains (suc links) apps = map (λ (app : AppSpec). rank_after (longest_chains links apps) app.needs) apps

-- Whether the applications can be ranked, which means that no longest chain has eight links. There are at most eight
-- applications, so a chain of eight links has a cycle.
abbrev pub are_ranked : List AppSpec → Bool
are_ranked apps = list_all (λ (rank : ℕ). nat_lt rank 8) (longest_chains 8 apps)

-- The applications with their ranks, or the fault of a cycle of needs. The rank of an application is the length of
-- the longest chain of needs from it.
abbrev pub ranked_at : List ℕ → List AppSpec → Result (List AppSpec) DocFault
ranked_at at apps = if are_ranked apps then Ok (with_ranks apps (longest_chains 8 apps)) else broken CYCLE_OF_NEEDS at

-- The applications with their needs but without ranks, or the first broken rule. All applications are read first,
-- followed by the needs of each.
abbrev pub read_unranked : List ℕ → Data → Result (List AppSpec) DocFault
read_unranked at d =
    chain (list_at 1 8 at d) (λ (ds : Items).
    chain (elements_from read_app at 0 [] ds) (λ (apps : List AppSpec).
    chain (elements_from (read_needs apps) at 0 [] ds) (λ (needs : List (List AppId)).
    Ok (with_needs apps needs))))

-- The applications of a document, ranked by their needs, or the first broken rule.
abbrev pub apps_in : Data → Result (List AppSpec) DocFault
apps_in d =
    chain (member_in (codes "apps") read_unranked d) (λ (apps : List AppSpec). ranked_at (member_path [] (codes "apps")) apps)
