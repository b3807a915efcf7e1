use Rattle.std.proofs.Common.{List, ℕ, ap, ◌∙◌}
use Rattle.spec_reading.specs.Numbering.{itself, index_named}
use Rattle.spec_reading.proofs.Numbering.{place_of_names}
use Rattle.spec_reading.proofs.numbered.Numbered.number.Goals as goal

pub returns-clause-number : goal.returns-clause-number
returns-clause-number g c =
    c.number.ensures.number ∙ ap (λ (names : List (List ℕ)). index_named itself names c.args.name.now) c.self.invariant
    ∙ place_of_names g.N.Naming.spelling c.self.inside.items.items c.args.name.now ∙ (λ i. index_named g.N.Naming.spelling (c.self.view_is i) c.args.name.now)
