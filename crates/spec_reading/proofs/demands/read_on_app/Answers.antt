use Rattle.std.proofs.Common.{◌≡◌, ◌<◌, length, rules, refl, subst}
use Rattle.std.specs.Prelude.{Option}
use Rattle.scram_types.specs.declared.specification.AppSpec.{AppSpec}
use Rattle.scram_types.proofs.Items.{some_item}
use Rattle.scram_doc.specs.Lists.{AllAfter}
use Rattle.spec_reading.specs.TableFacts.{IsNewOn}
use Rattle.spec_reading.proofs.demands.read_on_app.Goals as goal

pub returns-clause-fits : goal.returns-clause-fits
returns-clause-fits c =
    let app = c.in_ok-app-2.app in
    let modes = c.in_ok-modes.modes in
    let below : app.0 < length c.args.apps.now = search rules in
    let same : c.from.result ≡ app.0 = search rules in
    record {
      app = app.0;
      modes = modes;
      lists = some_item c.args.apps.now app.0 below (λ found there. record {
        app = found;
        there = there;
        few = search rules;
        each = subst (λ (o : Option AppSpec). AllAfter (IsNewOn o) modes) c.find_app.ensures c.in_ok-modes.ensures.each;
      });
      set = rw (same) refl;
    }
