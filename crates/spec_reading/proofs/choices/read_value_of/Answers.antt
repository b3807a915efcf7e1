use Rattle.std.proofs.Common.{◌≡◌, ap, rules, sym, ◌∙◌}
use Rattle.std.specs.Prelude.{Some}
use Rattle.scram_types.specs.Lookups.{number_named, value_named}
use Rattle.spec_reading.specs.Numbering.{itself}
use Rattle.spec_reading.proofs.choices.read_value_of.Goals as goal

pub returns-in-Some-value_named-clause-value : goal.returns-in-Some-value_named-clause-value
returns-in-Some-value_named-clause-value c =
    let found : number_named itself c.in-Some.found.now.values c.in_ok-text.field-0.now ≡ Some c.in-Some-value_named.value =
    ap (value_named c.in-Some.found.now) (sym c.as_bytes.ensures.value) ∙ sym c.value_named.ensures.value ∙ c.in-Some-value_named.is in
    search (rules, found)
