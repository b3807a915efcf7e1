use Rattle.std.proofs.Common.{rules, ◌∙◌, ap, sym}
use Rattle.scram_types.specs.Specification.{Parts}
use Rattle.fault_script.specs.Assumption.{first_outside}
use Rattle.coverage_check.proofs.Flights.{is_mission}
use Rattle.coverage_check.proofs.missions.Mission.new.Goals as goal

pub invariant_of-result : goal.invariant_of-result
invariant_of-result c = is_mission c.args.accepted c.args.script (search rules) c.requires
    (ap (λ (spec : Parts). first_outside spec c.args.script) (sym c.spec.ensures) ∙ c.in-Ok.ensures.within)
