use Rattle.std.proofs.Common.{◌≡◌, sym, arith, rules, decimal}
use Rattle.trace_text.proofs.Spelling.{number_some, number_utf8, number_err, number_other}
use Rattle.trace_text.proofs.numbers.read_number.Goals as goal

pub returns-in_default-clause-value : goal.returns-in_default-clause-value
returns-in_default-clause-value c = sym (number_utf8 c.args.limit c.args.text.now (omega arith) c.in_default.ensures.cases.0)

pub returns-in_default-parse-clause-value : goal.returns-in_default-parse-clause-value
returns-in_default-parse-clause-value c = number_err c.args.limit c.args.text.now c.in-Ok.digits.now c.in_default-parse.field-0 (omega arith) c.in-Ok.ensures.cases.0 c.in_default-parse.ensures.value.0

pub returns-then-number-limit-clause-value : goal.returns-then-number-limit-clause-value
returns-then-number-limit-clause-value c = number_other c.args.limit c.args.text.now c.in-Ok.digits.now c.in-Ok-parse.number (omega arith) c.in-Ok.ensures.cases.0 c.in-Ok-parse.ensures.value.0 (λ small e. absurd (omega arith))

pub returns-then-ne-clause-value : goal.returns-then-ne-clause-value
returns-then-ne-clause-value c = number_other c.args.limit c.args.text.now c.in-Ok.digits.now c.in-Ok-parse.number (omega arith) c.in-Ok.ensures.cases.0 c.in-Ok-parse.ensures.value.0 (λ small e. search rules)

pub returns-clause-value : goal.returns-clause-value
returns-clause-value c = let e : c.args.text.now ≡ decimal c.in-Ok-parse.number = search rules in
    sym (number_some c.args.limit c.in-Ok-parse.number c.args.text.now (omega arith) (omega arith) e)
