use Rattle.std.proofs.Common.{rules, ◌≡◌, refl}
use Rattle.bank_words.specs.declared.events.Event.TheVariants.{Start}
use Rattle.event_core.specs.Cores.{core_places, core_words, core_flight}
use Rattle.event_core.proofs.Following.{flyer_begun, flyers_turn}
use Rattle.event_core.proofs.flyers.Flyers.start.Goals as goal

pub returns : goal.returns
returns g c =
    let place : c.from.result ≡ c.args.p.0 = search rules in
    let m = core_flight c.args.core.now in
    let few = c.requires.few in
    record {
      fits = record {
        all = rw place (flyers_turn m (core_places c.args.core.now) (Start c.args.p) c.args.self.now.all.items c.args.p.0 c.start.new.self (λ q. refl) c.requires.fits.all few
            (rw c.start.ensures (flyer_begun m (core_places c.args.core.now) (core_words c.args.core.now) c.args.p c.index_mut.result.now c.requires.known c.requires.next (search rules))));
        drafted = c.requires.fits.drafted;
      };
    }
