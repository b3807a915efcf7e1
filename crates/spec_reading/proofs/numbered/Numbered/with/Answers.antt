use Rattle.std.proofs.Common.{List, ℕ, [], ◌∷◌, ap, refl, ◌∙◌}
use Rattle.std.proofs.lemmas.List.{map-append}
use Rattle.spec_reading.specs.Numbering.{itself, index_named}
use Rattle.spec_reading.proofs.Numbering.{place_of_names}
use Rattle.spec_reading.proofs.numbered.Numbered.with.Goals as goal

pub with-requires : goal.with-requires
with-requires g c =
    ap (λ (names : List (List ℕ)). index_named itself names c.name.result.now) c.self.invariant
    ∙ place_of_names g.N.Naming.spelling c.self.inside.items.items c.name.result.now
    ∙ (λ i. index_named g.N.Naming.spelling (c.self.view_is i) c.name.result.now)
    ∙ ap (λ (name : List ℕ). index_named g.N.Naming.spelling c.args.self name) c.name.ensures ∙ c.requires

pub invariant_of-result : goal.invariant_of-result
invariant_of-result g c =
    rw (c.in_ok-push.ensures.items, map-append g.N.Naming.spelling c.self.inside.items.items (c.args.item ∷ []), c.in_ok-numbers.ensures, c.self.invariant, c.name.ensures) refl

pub returns : goal.returns
returns g c = rw (← c.self.view_is) c.in_ok-push.ensures.items
