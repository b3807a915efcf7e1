-- The words that describe a state of the environment.
use Rattle.std.specs.Prelude.{ℕ, Bool, ◌==◌, nat_le, nat_lt, List, [], ◌∷◌, ◌++◌, length, Option, Some, None, codes, option_and_then, option_map, if◌then◌else◌}
use Rattle.std.specs.List.{after_first, before_first, position_or_len}
use Rattle.scram_types.specs.Names.{name_of}
use Rattle.spec_forms.specs.declared.choice_forms.states.StateWord.{StateWord}
use Rattle.spec_forms.specs.declared.choice_forms.states.StateWord.TheVariants.{Value, Down}
use Rattle.spec_forms.specs.declared.choice_forms.states.TheConstants.{MAX_STATE_WORDS}

-- Whether a byte is `=`.
abbrev pub is_equals : ℕ → Bool
is_equals byte = byte == 61

-- The word that gives a factor a value, or `None` if the text is not two names with `=` between them.
abbrev pub value_word : List ℕ → Option StateWord
value_word word =
    if nat_lt (position_or_len is_equals word) (length word)
    then option_and_then (λ (factor : List ℕ). option_map (λ (value : List ℕ). Value factor value) (name_of (after_first is_equals word)))
    (name_of (before_first is_equals word))
    else None

-- The word of a state that a text spells, or `None` if it spells no word.
abbrev pub state_word : List ℕ → Option StateWord
state_word [] = value_word []
state_word (byte ∷ rest) = if byte == 45 then option_map (λ (proc : List ℕ). Down proc) (name_of rest) else value_word (byte ∷ rest)

-- The words of a state that the texts spell, or `None` if at least one text spells no word.
abbrev pub state_words : List (List ℕ) → Option (List StateWord)
state_words [] = Some []
state_words (word ∷ words) = option_and_then (λ (first : StateWord). option_map (λ (rest : List StateWord). first ∷ rest) (state_words words)) (state_word word)

-- The state that texts spell, or `None` if there are more than `MAX_STATE_WORDS` texts or at least one text spells no
-- word.
abbrev pub state_in : List (List ℕ) → Option (List StateWord)
state_in words = if nat_le (length words) MAX_STATE_WORDS then state_words words else None

-- The text that spells a word of a state.
abbrev pub state_word_text : StateWord → List ℕ
state_word_text (Value factor value) = factor ++ codes "=" ++ value
state_word_text (Down proc) = codes "-" ++ proc
