use Rattle.std.proofs.Common.{rules, ◌≡◌, ◌<◌, ℕ, List, map, length, refl, ap, sym, subst, ◌∙◌}
use Rattle.std.specs.Prelude.{All, Ok}
use Rattle.scram_types.specs.declared.ids.AppId.{AppId}
use Rattle.scram_types.specs.declared.specification.AppSpec.{AppSpec}
use Rattle.scram_types.specs.Specification.{Each}
use Rattle.dep_order.specs.Ranks.{IsCycle, IsRanking, RanksFall}
use Rattle.spec_reading.specs.Names.{name_of_app}
use Rattle.spec_reading.specs.Needs.{with_ranks}
use Rattle.spec_reading.proofs.Cycles.{cycle_there}
use Rattle.spec_reading.proofs.Joined.{graded_length, graded_names, ranked_fit, written_whole}
use Rattle.spec_reading.proofs.LongestChains.{cycle_unranked, ranks_are, ranking_ranked}
use Rattle.spec_reading.proofs.needs.finish_apps.Goals as goal

pub names_of-names-requires-clause-there : goal.names_of-names-requires-clause-there
names_of-names-requires-clause-there c =
    let is : IsCycle c.args.apps c.in-Err.cycle.0.items = search rules in
    let listed : c.in-Err.cycle.0.items ≡ c.deref.result.now = search rules in
    let apps : c.args.apps ≡ c.items.result.now = search rules in
    subst (λ (xs : List AppId). Each (λ (a : AppId). a.0 < length c.items.result.now) xs) listed
    (subst (λ (xs : List AppSpec). Each (λ (a : AppId). a.0 < length xs) c.in-Err.cycle.0.items) apps (cycle_there c.args.apps c.in-Err.cycle.0.items is))

pub returns-in-Err-clause-value : goal.returns-in-Err-clause-value
returns-in-Err-clause-value c =
    let is : IsCycle c.args.apps c.in-Err.cycle.0.items = search rules in
    rw (cycle_unranked c.args.apps c.in-Err.cycle.0.items is, c.copy.ensures) refl

pub returns-in-Err-clause-cycle : goal.returns-in-Err-clause-cycle
returns-in-Err-clause-cycle c =
    let is : IsCycle c.args.apps c.in-Err.cycle.0.items = search rules in
    (rw (cycle_unranked c.args.apps c.in-Err.cycle.0.items is) is, search rules)

pub of-requires : goal.of-requires
of-requires c =
    let ranks : c.set_ranks.new.apps ≡ with_ranks c.args.apps c.in-Ok.ranks.items = search rules in
    let all : length c.args.apps ≡ c.into_parts-apps.result.0.len = search rules in
    let long : length c.set_ranks.new.apps ≡ c.into_parts-apps.result.0.len = rw (ranks) (graded_length c.args.apps c.in-Ok.ranks.items ∙ all) in
    let whole = written_whole c.into_parts-apps.result.0.len c.set_ranks.new.apps c.into_parts-apps.result.0.items long in
    c.into_parts-apps.ensures.numbers ∙ sym (graded_names c.args.apps c.in-Ok.ranks.items) ∙ ap (map name_of_app) (sym (whole ∙ ranks))

given : (c : goal.After-of) → c.of.result ≡ with_ranks c.args.apps c.in-Ok.ranks.items
given c =
    let ranks : c.set_ranks.new.apps ≡ with_ranks c.args.apps c.in-Ok.ranks.items = search rules in
    let all : length c.args.apps ≡ c.into_parts-apps.result.0.len = search rules in
    let long : length c.set_ranks.new.apps ≡ c.into_parts-apps.result.0.len = rw (ranks) (graded_length c.args.apps c.in-Ok.ranks.items ∙ all) in
    c.of.ensures ∙ (written_whole c.into_parts-apps.result.0.len c.set_ranks.new.apps c.into_parts-apps.result.0.items long ∙ ranks)

pub returns-in-Ok-clause-value : goal.returns-in-Ok-clause-value
returns-in-Ok-clause-value c =
    let apps = c.args.apps in
    let ranks = c.in-Ok.ranks.items in
    let is : IsRanking apps ranks = search rules in
    let small : All (λ (rank : ℕ). rank < 8) ranks = search rules in
    rw (ranking_ranked apps ranks is small, ranks_are apps ranks is small) (ap (λ xs. Ok xs) (sym (given c)))

pub returns-in-Ok-clause-fits : goal.returns-in-Ok-clause-fits
returns-in-Ok-clause-fits c =
    let apps = c.args.apps in
    let ranks = c.in-Ok.ranks.items in
    let is : IsRanking apps ranks = search rules in
    let small : All (λ (rank : ℕ). rank < 8) ranks = search rules in
    let falls : RanksFall apps ranks = search rules in
    rw (given c) (ranked_fit apps ranks is small falls c.requires.fits)

pub returns-in-Ok-clause-no_cycle : goal.returns-in-Ok-clause-no_cycle
returns-in-Ok-clause-no_cycle c =
    let apps = c.args.apps in
    let ranks = c.in-Ok.ranks.items in
    let is : IsRanking apps ranks = search rules in
    let small : All (λ (rank : ℕ). rank < 8) ranks = search rules in
    ranking_ranked apps ranks is small
