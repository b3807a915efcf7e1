use Rattle.std.proofs.Common.{rules, subst}
use Rattle.std.specs.Prelude.{Option}
use Rattle.scram_types.specs.declared.specification.AppSpec.{AppSpec}
use Rattle.spec_reading.specs.TableFacts.{IsVariable}
use Rattle.spec_reading.proofs.intervals.read_interval.Goals as goal

pub returns-clause-fits : goal.returns-clause-fits
returns-clause-fits c = record {
  there = search rules;
  is_variable = subst (λ (found : Option AppSpec). IsVariable found c.in_ok-variable.variable) c.find_app-found.ensures c.in_ok-variable.ensures.is;
  ends_fit = search rules;
}
