use Rattle.std.proofs.Common.{rules, ◌≡◌, ◌<◌, [], ◌∷◌, ◌++◌, length, arith, sym, ap, ◌∙◌, length-set}
use Rattle.spec_reading.specs.Needs.{with_needs}
use Rattle.spec_reading.proofs.Handing.{last_needs, no_needs_left}
use Rattle.spec_reading.proofs.needs.set_needs.Goals as goal

pub loop-named-preserved : goal.loop-named-preserved
loop-named-preserved c =
    let before : c.loop-named.needs.items ≡ c.pop.new.self.items ++ c.in-Some.named ∷ [] = search rules in
    let place : c.len.result ≡ length c.pop.new.self.items = search rules in
    let below : length c.pop.new.self.items < length c.loop-named.apps = search rules in (
      rw (place) (last_needs c.loop-named.apps c.pop.new.self.items c.in-Some.named _ below ∙ (ap (with_needs c.loop-named.apps) (sym before) ∙ c.loop-named.invariant.0)),
      rw (length-set c.loop-named.apps c.len.result _) (omega (arith, below)),
    )

pub returns : goal.returns
returns c =
    let over : c.loop-named.needs.items ≡ [] = search rules in
    sym (no_needs_left c.loop-named.apps) ∙ (ap (with_needs c.loop-named.apps) (sym over) ∙ c.loop-named.invariant.0)
