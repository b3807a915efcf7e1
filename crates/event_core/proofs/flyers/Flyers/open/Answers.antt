use Rattle.std.proofs.Common.{subst, sym}
use Rattle.std.specs.Prelude.{None}
use Rattle.fail_stop.specs.ScriptFlights.{flight_of}
use Rattle.event_core.specs.Flyers.{IsLastDraft}
use Rattle.event_core.proofs.Opens.{replicated}
use Rattle.event_core.proofs.flyers.Flyers.open.Goals as goal

pub returns-clause-fits : goal.returns-clause-fits
returns-clause-fits g c = λ spec script. record {
  all = c.in_ok-all.ensures.flyers (flight_of spec script);
  drafted = λ p low. subst (IsLastDraft spec script p) (sym (replicated 8 p None)) tt;
}
