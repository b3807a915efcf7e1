use Rattle.std.proofs.Common.{rules, ap, sym, ◌≡◌, map, length, ◌∙◌}
use Rattle.spec_reading.specs.Names.{name_of_app}
use Rattle.spec_reading.specs.Needs.{with_needs}
use Rattle.spec_reading.proofs.Joined.{joined_length, joined_names, unranked_fit, written_whole}
use Rattle.spec_reading.proofs.needs.read_unranked.Goals as goal

pub of-requires : goal.of-requires
of-requires c =
    let apps = c.in_ok-apps.apps in
    let needs = c.in_ok-needs.needs.items in
    let given : c.set_needs.new.apps ≡ with_needs apps needs = search rules in
    let all : length apps ≡ c.into_parts-apps.result.0.len = search rules in
    let long : length c.set_needs.new.apps ≡ c.into_parts-apps.result.0.len = rw (given) (joined_length apps needs ∙ all) in
    let whole = written_whole c.into_parts-apps.result.0.len c.set_needs.new.apps c.into_parts-apps.result.0.items long in
    c.into_parts-apps.ensures.numbers ∙ sym (joined_names apps needs) ∙ ap (map name_of_app) (sym (whole ∙ given))

pub returns-clause-fits : goal.returns-clause-fits
returns-clause-fits c =
    let apps = c.in_ok-apps.apps in
    let needs = c.in_ok-needs.needs.items in
    let given : c.set_needs.new.apps ≡ with_needs apps needs = search rules in
    let all : length apps ≡ c.into_parts-apps.result.0.len = search rules in
    let long : length c.set_needs.new.apps ≡ c.into_parts-apps.result.0.len = rw (given) (joined_length apps needs ∙ all) in
    rw (c.of.ensures, written_whole c.into_parts-apps.result.0.len c.set_needs.new.apps c.into_parts-apps.result.0.items long, given)
    (unranked_fit apps needs (search rules) (search rules) (search rules) c.in_ok-apps.ensures.fits c.in_ok-needs.ensures.fits)
