use Rattle.std.proofs.Common.{◌≡◌, rules, true}
use Rattle.flight_facts.specs.Differences.{procs_changed, values_changed}
use Rattle.flight_facts.proofs.Listing.{both_added}
use Rattle.flight_facts.proofs.differences.add_difference.Goals as goal

pub returns-else-not-any-clause-text : goal.returns-else-not-any-clause-text
returns-else-not-any-clause-text c =
    let spec = c.args.spec.now in
    let any : c.add_procs-any.result ≡ true = search rules in
    both_added c.args.line.now c.add_values-values.new.line c.add_procs-any.new.line c.add_values-values.result c.add_procs-any.result
    (values_changed spec.factors 0 c.args.before.now.factors c.args.after.now.factors) (procs_changed spec.procs c.args.before.now.up c.args.after.now.up)
    c.add_values-values.ensures.text c.add_values-values.ensures.any c.add_procs-any.ensures.text c.add_procs-any.ensures.any any
