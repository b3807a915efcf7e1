use Rattle.std.proofs.Common.{[], ◌≡◌, ◌∙◌, ◌++◌, ◌+◌, ◌∷◌, List, ap, arith, drop, length, map, suc, sym}
use Rattle.std.specs.Prelude.{option_map, string_bytes}
use Rattle.std.proofs.Math.Seq.{drop-cons}
use Rattle.cube_cover.proofs.Listed.{length_more}
use Rattle.spec_forms.specs.declared.choice_forms.states.StateWord.{StateWord}
use Rattle.spec_forms.specs.choice_forms.States.{state_word, state_words}
use Rattle.spec_forms.proofs.choice_forms.WordReading.{from_none, none_of_words, word_more}
use Rattle.spec_forms.proofs.choice_forms.states.read_state.Goals as goal

pub loop-word-init : goal.loop-word-init
loop-word-init c = record {
  rest = ap (λ xs. option_map (λ (more : List StateWord). xs ++ more) (state_words (map string_bytes c.args.words.now))) c.new-state.ensures ∙ from_none (state_words (map string_bytes c.args.words.now));
  count = ap length c.new-state.ensures;
}

pub returns-in-None : goal.returns-in-None
returns-in-None c =
    let step : map string_bytes (drop c.loop-word.word-index c.args.words.now) ≡ string_bytes c.word-item.result ∷ map string_bytes (drop (suc c.loop-word.word-index) c.args.words.now) =
    ap (map string_bytes) (drop-cons c.args.words.now c.loop-word.word-index c.word-item.result c.loop-word-test.true)
    ∙ ap (λ w. string_bytes w ∷ map string_bytes (drop (suc c.loop-word.word-index) c.args.words.now)) (sym c.word-item.is) in
    none_of_words c.loop-word.state.items (string_bytes c.word-item.result) (map string_bytes (drop (suc c.loop-word.word-index) c.args.words.now)) (map string_bytes c.args.words.now)
    (ap state_word (sym c.as_str.ensures.value) ∙ sym c.read_state_word.ensures ∙ c.in-None.is)
    (ap (λ ws. option_map (λ (more : List StateWord). c.loop-word.state.items ++ more) (state_words ws)) (sym step) ∙ c.loop-word.invariant.rest)

pub loop-word-preserved : goal.loop-word-preserved
loop-word-preserved c =
    let next : c.loop-word.word-index + 1 ≡ suc c.loop-word.word-index = omega arith in
    let step : map string_bytes (drop c.loop-word.word-index c.args.words.now) ≡ string_bytes c.word-item.result ∷ map string_bytes (drop (suc c.loop-word.word-index) c.args.words.now) =
    ap (map string_bytes) (drop-cons c.args.words.now c.loop-word.word-index c.word-item.result c.loop-word-test.true)
    ∙ ap (λ w. string_bytes w ∷ map string_bytes (drop (suc c.loop-word.word-index) c.args.words.now)) (sym c.word-item.is) in
    record {
      rest = ap (λ xs. option_map (λ (more : List StateWord). xs ++ more) (state_words (map string_bytes (drop (c.loop-word.word-index + 1) c.args.words.now)))) c.push.ensures.items
          ∙ ap (λ n. option_map (λ (more : List StateWord). (c.loop-word.state.items ++ c.in-Some.read ∷ []) ++ more) (state_words (map string_bytes (drop n c.args.words.now)))) next
          ∙ word_more c.loop-word.state.items (string_bytes c.word-item.result) (map string_bytes (drop (suc c.loop-word.word-index) c.args.words.now)) (map string_bytes c.args.words.now) c.in-Some.read
          (ap state_word (sym c.as_str.ensures.value) ∙ sym c.read_state_word.ensures ∙ c.in-Some.is)
          (ap (λ ws. option_map (λ (more : List StateWord). c.loop-word.state.items ++ more) (state_words ws)) (sym step) ∙ c.loop-word.invariant.rest);
      count = length_more c.loop-word.state.items c.push.new.self.items c.loop-word.word-index c.in-Some.read c.push.ensures.items c.loop-word.invariant.count;
    }
