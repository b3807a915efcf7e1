use Rattle.std.proofs.Common.{[], ◌∙◌, ◌∷◌, ap, append_assoc, subst, sym}
use Rattle.form_base.specs.Refusals.{answer_of}
use Rattle.spec_forms.specs.choice_forms.Choosing.{IsUnknown}
use Rattle.spec_forms.specs.choice_forms.States.{state_word_text}
use Rattle.spec_forms.proofs.choice_forms.choosing.no_word.Goals as goal

pub returns-in-Ok : goal.returns-in-Ok
returns-in-Ok c = subst (λ w. IsUnknown w (answer_of c.no_name.result)) (c.as_str.ensures.value ∙ c.in-Ok.ensures.ok ∙ sym (append_assoc c.in-Value.factor (61 ∷ []) c.in-Value.value) ∙ ap state_word_text (sym c.in-Value.is)) c.no_name.ensures
