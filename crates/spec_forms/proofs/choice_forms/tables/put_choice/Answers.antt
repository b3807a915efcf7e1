use Rattle.std.proofs.Common.{◌∙◌, subst, sym}
use Rattle.scram_io.specs.Outside.{Printed, Prints}
use Rattle.scram_io.proofs.Puts.{printed_none}
use Rattle.scram_types.specs.Specification.{IsSpec}
use Rattle.spec_forms.proofs.choice_forms.ShareTexts.{no_text, share_text}
use Rattle.spec_forms.proofs.choice_forms.tables.put_choice.Goals as goal

pub returns-in-Some : goal.returns-in-Some
returns-in-Some g c =
    subst (λ text. Prints c.put.result (g.K.Sink.state c.args.out.now) (g.K.Sink.state c.put.new.self) text)
    (c.as_bytes.ensures ∙ c.make_choice_line.ensures ∙ sym (share_text c.args.spec.now (subst IsSpec c.spec.view_is c.spec.invariant) c.args.from.0 c.args.k c.args.share.now c.in-Some.first c.requires c.in-Some.is))
    c.put.ensures

pub returns-in-None : goal.returns-in-None
returns-in-None g c =
    subst (λ text. Printed (g.K.Sink.state c.args.out.now) (g.K.Sink.state c.args.out.now) text)
    (sym (no_text c.args.spec.now (subst IsSpec c.spec.view_is c.spec.invariant) c.args.from.0 c.args.k c.args.share.now c.requires c.in-None.is))
    (printed_none (g.K.Sink.state c.args.out.now) (g.met.K.Sink.surely_below c.args.out.now))
