use Rattle.std.proofs.Common.{◌≡◌, ◌∙◌, sym, ap, rules, w64, Some}
use Rattle.std.specs.Fmt.{signed_decimal}
use Rattle.std.proofs.lemmas.Int.{to_z-of_z}
use mir.Val.{SFits, to_z, of_z}
use Rattle.trace_text.proofs.Spelling.{signed_some, signed_utf8, signed_err, signed_other}
use Rattle.trace_text.proofs.numbers.read_signed.Goals as goal

pub returns-in_default : goal.returns-in_default
returns-in_default c = sym (signed_utf8 c.args.text.now c.in_default.ensures.cases.0)

pub returns-in_default-parse : goal.returns-in_default-parse
returns-in_default-parse c = sym (signed_err c.args.text.now c.in-Ok.digits.now c.in_default-parse.field-0 c.in-Ok.ensures.cases.0 c.in_default-parse.ensures.value.0)

pub returns-then-ne : goal.returns-then-ne
returns-then-ne c =
    let fits : SFits w64 c.in-Ok-parse.number = search rules in
    let n : to_z w64 (of_z w64 c.in-Ok-parse.number) ≡ c.in-Ok-parse.number = to_z-of_z w64 c.in-Ok-parse.number fits in
    sym (signed_other c.args.text.now c.in-Ok.digits.now c.in-Ok-parse.number c.in-Ok.ensures.cases.0 c.in-Ok-parse.ensures.value.0
    (λ e. let t : signed_decimal (to_z w64 (of_z w64 c.in-Ok-parse.number)) ≡ c.args.text.now = rw n e in search rules))

pub returns : goal.returns
returns c =
    let fits : SFits w64 c.in-Ok-parse.number = search rules in
    let n : to_z w64 (of_z w64 c.in-Ok-parse.number) ≡ c.in-Ok-parse.number = to_z-of_z w64 c.in-Ok-parse.number fits in
    let e : c.args.text.now ≡ signed_decimal (to_z w64 (of_z w64 c.in-Ok-parse.number)) = search rules in
    ap Some n ∙ sym (signed_some c.in-Ok-parse.number c.args.text.now fits.sfits (e ∙ ap signed_decimal n))
