-- Lemmas on reading the words of a state in order.
use Rattle.std.proofs.Common.{◌≡◌, ◌≢◌, ◌∙◌, ℕ, ap, append_assoc, refl, sym, List, [], ◌∷◌, ◌++◌, length}
use Rattle.std.specs.Prelude.{◌==◌, nat_le, Option, Some, None, option_and_then, option_map}
use Rattle.scram_types.proofs.Booleans.{by_bool}
use Rattle.scram_types.proofs.Naturals.{equal}
use Rattle.spec_forms.specs.declared.choice_forms.states.StateWord.{StateWord}
use Rattle.spec_forms.specs.declared.choice_forms.states.TheConstants.{MAX_STATE_WORDS}
use Rattle.spec_forms.specs.choice_forms.States.{state_in, state_word, state_words, value_word}

-- If a word does not begin with `-`, it can only be a word that gives a factor a value.
pub no_dash : (word : List ℕ) → ((rest : List ℕ) → word ≢ 45 ∷ rest) → state_word word ≡ value_word word
no_dash [] none = refl
no_dash (byte ∷ rest) none = by_bool (byte == 45)
    (λ dash. absurd (none rest (ap (λ (b : ℕ). b ∷ rest) (equal byte 45 dash))))
    (λ other. rw (other) refl)

-- If one of the texts spells no word of a state, the texts spell no state.
pub none_of_words : (before : List StateWord) (word : List ℕ) (words all : List (List ℕ)) → state_word word ≡ None
    → option_map (λ (more : List StateWord). before ++ more) (state_words (word ∷ words)) ≡ state_words all → None ≡ state_in all
none_of_words before word words all nothing so_far =
    let none : None ≡ state_words all = ap (λ (first : Option StateWord). option_map (λ (more : List StateWord). before ++ more) (option_and_then (λ (first : StateWord). option_map (λ (rest : List StateWord). first ∷ rest) (state_words words)) first)) (sym nothing) ∙ so_far in
    by_bool (nat_le (length all) MAX_STATE_WORDS) (λ few. rw (few) none) (λ many. rw (many) refl)

-- If the next text spells a word of a state, the word is appended to the words before it.
pub word_more : (before : List StateWord) (word : List ℕ) (words all : List (List ℕ)) (read : StateWord) → state_word word ≡ Some read
    → option_map (λ (more : List StateWord). before ++ more) (state_words (word ∷ words)) ≡ state_words all
    → option_map (λ (more : List StateWord). (before ++ read ∷ []) ++ more) (state_words words) ≡ state_words all
word_more before word words all read is so_far =
    behind (state_words words)
    ∙ ap (λ (first : Option StateWord). option_map (λ (more : List StateWord). before ++ more) (option_and_then (λ (first : StateWord). option_map (λ (rest : List StateWord). first ∷ rest) (state_words words)) first)) (sym is)
    ∙ so_far
  where
    behind : (rest : Option (List StateWord)) → option_map (λ (more : List StateWord). (before ++ read ∷ []) ++ more) rest
        ≡ option_map (λ (more : List StateWord). before ++ more) (option_map (λ (more : List StateWord). read ∷ more) rest)
    behind None = refl
    behind (Some more) = ap Some (append_assoc before (read ∷ []) more)

pub from_none : (words : Option (List StateWord)) → option_map (λ (more : List StateWord). [] ++ more) words ≡ words
from_none None = refl
from_none (Some more) = refl
