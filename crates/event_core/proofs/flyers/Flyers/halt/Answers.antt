use Rattle.std.proofs.Common.{rules, ◌≡◌, refl}
use Rattle.bank_words.specs.declared.events.Event.TheVariants.{Halt}
use Rattle.event_core.specs.Cores.{core_places, core_flight}
use Rattle.event_core.proofs.Following.{flyer_stopped, flyers_turn}
use Rattle.event_core.proofs.flyers.Flyers.halt.Goals as goal

pub returns : goal.returns
returns g c =
    let place : c.from.result ≡ c.args.p.0 = search rules in
    let m = core_flight c.args.core.now in
    let few = c.requires.few in
    record {
      fits = record {
        all = rw place (flyers_turn m (core_places c.args.core.now) (Halt c.args.p) c.args.self.now.all.items c.args.p.0 c.halt.new.self (λ q. refl) c.requires.fits.all few
            (rw (c.halt.ensures, c.frame_of.ensures) (flyer_stopped m c.args.p.0 ((core_places c.args.core.now).proc c.args.p.0) c.index_mut.result.now (search rules))));
        drafted = c.requires.fits.drafted;
      };
    }
