use Rattle.std.proofs.Common.{◌∙◌, sym}
use Rattle.std.specs.String.{string_bytes}
use Rattle.spec_reading.specs.Numbering.{itself, index_named}
use Rattle.spec_reading.proofs.Numbering.{place_of_names}
use Rattle.spec_reading.proofs.numbered.Numbers.number.Goals as goal

pub returns-clause-number : goal.returns-clause-number
returns-clause-number c =
    c.get_index_of.ensures.index ∙ sym (place_of_names string_bytes c.self.inside.names.keys c.args.name.now) ∙ (λ i. index_named itself (c.self.view_is i) c.args.name.now)
