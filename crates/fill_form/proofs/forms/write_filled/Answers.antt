use Rattle.std.proofs.Common.{◌≡◌, ◌∙◌, ◌+◌, ℕ, List, ap, subst, sym}
use Rattle.std.specs.Prelude.{None, max}
use Rattle.scram_types.specs.Specification.{IsSpec, Parts}
use Rattle.scram_types.proofs.Options.{none_both}
use Rattle.coverage_check.specs.Form.{state_refusal}
use Rattle.form_base.specs.Answers.{Gives}
use Rattle.form_base.specs.Endings.{PreparesWithoutFiles}
use Rattle.form_base.specs.declared.status.TheConstants.{ANSWERED}
use Rattle.fill_form.specs.Answers.{GivesText, fill_answer}
use Rattle.fill_form.specs.Refusing.{fill_refusal, length_refusal}
use Rattle.fill_form.proofs.Fillings.{filling_is_spec, filling_text}
use Rattle.fill_form.proofs.forms.write_filled.Goals as goal

pub with_times-requires : goal.with_times-requires
with_times-requires c =
    filling_is_spec c.args.spec c.args.filling c.max-window.result c.requires.filling
    (c.max-window.ensures ∙ ap (λ (s : Parts). max s.window (c.args.filling.greatest + 1)) c.spec.view_is)
    (subst IsSpec c.spec.view_is c.spec.invariant) c.requires.writable c.in-None.is

pub returns-in-None : goal.returns-in-None
returns-in-None c =
    let free : fill_refusal c.args.spec ≡ None =
    none_both (state_refusal c.args.spec) (length_refusal c.args.spec) c.requires.few (sym c.requires.filling.refusal ∙ c.in-None.is) in
    let wide = c.max-window.ensures ∙ ap (λ (s : Parts). max s.window (c.args.filling.greatest + 1)) c.spec.view_is in
    let text = filling_text c.args.spec c.args.filling c.max-window.result c.requires.filling wide c.with_times.result c.with_times.ensures in
    subst (λ (answer : ℕ × List ℕ). PreparesWithoutFiles (Gives answer) GivesText c.write_line.result)
    (ap (λ (t : List ℕ). (ANSWERED, t)) text ∙ ap (fill_answer c.args.spec) (sym free)) c.write_line.ensures
