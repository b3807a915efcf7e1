use Rattle.std.proofs.Common.{ap, refl, sym, ◌∙◌}
use Rattle.std.proofs.lemmas.Option.{slice_get_past}
use Rattle.scram_types.specs.Specification.{Parts}
use Rattle.scram_types.proofs.Naturals.{not_below}
use Rattle.scram_types.proofs.Placed.{read_within}
use Rattle.fault_script.proofs.lists.find_value.Goals as goal

pub returns-in-Some : goal.returns-in-Some
returns-in-Some c =
    let factors = c.items.ensures ∙ ap (λ (s : Parts). s.factors) c.spec.view_is in
    rw (← factors, ← c.from.ensures, read_within c.items.result.now c.from.result c.in-Some.found.now c.in-Some.ensures.lookup.0 c.in-Some.ensures.lookup.1) c.value_named.ensures.value

pub returns-in-None : goal.returns-in-None
returns-in-None c =
    let factors = c.items.ensures ∙ ap (λ (s : Parts). s.factors) c.spec.view_is in
    rw (← factors, ← c.from.ensures, slice_get_past c.items.result.now c.from.result (not_below _ _ (sym c.in-None.ensures.lookup.0))) refl
