use Rattle.std.proofs.Common.{◌≤◌, length, subst, sym}
use Rattle.scram_types.specs.declared.limits.TheConstants.{MAX_SPECIFICATION_BYTES}
use Rattle.scram_types.specs.Specification.{IsSpec}
use Rattle.reconf_spec.proofs.SpecBack.{text_back}
use Rattle.reconf_spec.proofs.TextSizes.{spec_text_short}
use Rattle.reconf_spec.proofs.writing.write_spec.Goals as goal

pub returns-in-Ok-clause-back : goal.returns-in-Ok-clause-back
returns-in-Ok-clause-back c =
    let written = c.in-Ok.ensures in
    let is : IsSpec c.args.spec.now = subst IsSpec c.spec.view_is c.spec.invariant in
    λ writable. text_back c.args.spec.now c.in-Ok.text.items is written.utf8 written.value writable
    (subst (λ bytes. length bytes ≤ MAX_SPECIFICATION_BYTES) (sym written.text) (spec_text_short c.args.spec.now is))
