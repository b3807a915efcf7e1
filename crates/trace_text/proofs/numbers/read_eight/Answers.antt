use Rattle.std.proofs.Common.{◌≡◌, ◌∙◌, ◌+◌, ◌++◌, ◌∷◌, [], ap, arith, rules, w64, Some, ℤ}
use Rattle.std.proofs.lemmas.Int.{to_z-of_z}
use mir.Val.{SFits, to_z, of_z}
use Rattle.trace_text.specs.Pieces.{word_at}
use Rattle.trace_text.specs.Spelling.{signed_of}
use Rattle.trace_text.proofs.Values.{value_step}
use Rattle.trace_text.proofs.numbers.read_eight.Goals as goal

pub loop-k-preserved : goal.loop-k-preserved
loop-k-preserved c =
    let fits : SFits w64 c.in_ok-value.value = search rules in
    let n : to_z w64 (of_z w64 c.in_ok-value.value) ≡ c.in_ok-value.value = to_z-of_z w64 c.in_ok-value.value fits in
    let is : signed_of (word_at c.args.words.now (c.args.from + c.loop-k.k)) ≡ Some c.in_ok-value.value = search rules in
    let grown : c.try_push-fits.new.self.items ≡ c.loop-k.values.items ++ to_z w64 (of_z w64 c.in_ok-value.value) ∷ [] = search rules in
    record {
      rest = value_step c.loop-k.values.items c.try_push-fits.new.self.items c.args.from c.loop-k.k c.args.words.now c.in_ok-value.value (omega arith) is (grown ∙ ap (λ (z : ℤ). c.loop-k.values.items ++ z ∷ []) n) c.loop-k.invariant.rest;
      count = search rules;
    }
