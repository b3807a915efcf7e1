-- A lemma on the form of fewer than three words.
use Rattle.std.proofs.Common.{ℕ, ◌≡◌, ◌<◌, List, [], ◌∷◌, length, arith, refl}
use Rattle.scram_cli.specs.Forms.{form_of, form_of_few}

-- `form_of_few` and `form_of` return the same form for fewer than three words, since these words never have the form
-- `choose`.
pub few_words : (words : List (List ℕ)) → length words < 3 → form_of_few words ≡ form_of words
few_words [] low = refl
few_words (a ∷ []) low = refl
few_words (a ∷ b ∷ []) low = refl
few_words (a ∷ b ∷ c ∷ words) low = absurd (omega (arith, low))
