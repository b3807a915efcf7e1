use Rattle.std.proofs.Common.{[], ◌∷◌, ◌++◌, ◌∙◌, ap, codes, decimal, refl, sym}
use Rattle.scram_types.specs.declared.orders.KMode.{KMode}
use Rattle.scram_types.specs.Lookups.{conf_name}
use Rattle.trace_text.specs.Names.{conf_or_dash}
use Rattle.trace_text.specs.Text.{kernel_mode_text}
use Rattle.trace_text.proofs.Appended.{add_piece, append_all}
use Rattle.trace_text.proofs.row_lines.add_mode.Goals as goal

pub returns-in-Moving-clause-text : goal.returns-in-Moving-clause-text
returns-in-Moving-clause-text c =
    let spec = c.args.spec.now in
    let at = c.in-Moving in
    let from = add_piece c.text-in-Moving.ensures.text c.text-in-Moving-2.ensures.text (c.as_bytes-in-Moving.ensures.value ∙ c.conf_name-in-Moving.ensures.name) in
    let halting = add_piece (add_piece from c.text-in-Moving-3.ensures.text refl) c.add_conf_or_dash.ensures.text refl in
    let to = add_piece (add_piece halting c.text-in-Moving-4.ensures.text refl) c.text-in-Moving-5.ensures.text (c.as_bytes-in-Moving-2.ensures.value ∙ c.conf_name-in-Moving-2.ensures.name) in
    let since = add_piece (add_piece to c.text-in-Moving-6.ensures.text refl) c.number.ensures.text refl in
    since
    ∙ append_all c.args.line.now (codes "moving ") (conf_name spec at.from.0 ∷ codes " " ∷ conf_or_dash spec at.halting ∷ codes " " ∷ conf_name spec at.to.0 ∷ codes " " ∷ decimal at.since ∷ [])
    ∙ ap (λ (mode : KMode). c.args.line.now ++ kernel_mode_text spec mode) (sym c.in-Moving.is)
