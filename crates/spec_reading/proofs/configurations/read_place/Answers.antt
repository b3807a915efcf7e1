use Rattle.std.proofs.Common.{refl}
use Rattle.spec_reading.proofs.configurations.read_place.Goals as goal

pub returns-clause-fits : goal.returns-clause-fits
returns-clause-fits c = record {
  app = c.in_ok-app-2.app.0;
  place = record { mode = c.in_ok-mode.mode; proc = record { 0 = c.in_ok-read_named.field-0 } };
  is = let listed = rw (c.find_app.ensures) at c.in_ok-mode.ensures.listed in record {
    on = c.in_ok-read_named.ensures.below;
    app = listed.app;
    there = listed.there;
    listed = listed.listed;
  };
  set = rw (c.from.ensures) refl;
}
