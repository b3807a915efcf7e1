use Rattle.std.proofs.Common.{◌≡◌, subst}
use Rattle.std.specs.Prelude.{IfSome}
use Rattle.std.proofs.lemmas.List.Elements.{All-pop}
use Rattle.telemetry_tap.specs.declared.taps.Reader.{Reader}
use Rattle.telemetry_tap.specs.Taps.{IsReaderOf, rows_seen}
use Rattle.flight_forms.proofs.watches.fly_watched.Goals as goal

pub fly_read-requires-clause-one : goal.fly_read-requires-clause-one
fly_read-requires-clause-one g c κs within =
    let fresh = λ (reader : Reader). IsReaderOf c.in_ok-tap.tap reader × (rows_seen reader ≡ 0) in
    let popped = All-pop fresh c.in_ok-tap.readers.items c.pop.new.self.items c.pop.result c.pop.ensures.items c.in_ok-tap.ensures.readers in
    (subst (λ o. IfSome o fresh) c.in-Some.is popped.1).0

pub fly_read-requires-clause-other : goal.fly_read-requires-clause-other
fly_read-requires-clause-other g c κs within =
    let fresh = λ (reader : Reader). IsReaderOf c.in_ok-tap.tap reader × (rows_seen reader ≡ 0) in
    let popped = All-pop fresh c.in_ok-tap.readers.items c.pop.new.self.items c.pop.result c.pop.ensures.items c.in_ok-tap.ensures.readers in
    let next = All-pop fresh c.pop.new.self.items c.pop-2.new.self.items c.pop-2.result c.pop-2.ensures.items popped.0 in
    (subst (λ o. IfSome o fresh) c.in-Some-pop.is next.1).0
