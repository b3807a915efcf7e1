use Rattle.std.proofs.Common.{◌≡◌, ◌++◌, List, drop, length, map}
use Rattle.std.specs.Prelude.{option_map, string_bytes}
use Rattle.spec_forms.specs.declared.choice_forms.states.StateWord.{StateWord}
use Rattle.spec_forms.specs.choice_forms.States.{state_words}
use Rattle.spec_forms.proofs.choice_forms.states.read_state.Given as goal

abbrev pub invariant-loop-word : goal.invariant-loop-word
invariant-loop-word l = record {
  rest : option_map (λ (more : List StateWord). l.state.items ++ more) (state_words (map string_bytes (drop l.word-index l.words))) ≡ state_words (map string_bytes l.words);
  count : length l.state.items ≡ l.word-index;
}
