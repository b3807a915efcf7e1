-- Lemmas on the levels of a path.
use Rattle.std.proofs.Common.{◌≡◌, ◌≢◌, ℕ, ◌<◌, false, List, [], ◌∷◌, ◌++◌, All, length, get_or, Option, Some, None, option_and_then, refl, ap, ◌∙◌, arith, ne_eqb, eq-eqb}
use Rattle.std.specs.Prelude.{◌==◌}
use Rattle.std.proofs.lemmas.List.Elements.{All-from_get_or}
use Rattle.std.proofs.lemmas.List.Splits.{slice_split_at, slice_split_none}
use Rattle.trace_text.specs.Pieces.{pieces_of}
use Rattle.trace_text.proofs.Splitting.{some_piece}
use Rattle.document_explanations.specs.Paths.{after_dot, all_but_last, wanted_below, wanted_along}
use Rattle.document_explanations.specs.declared.wanted_values.Wanted.{Wanted}

abbrev pub Lacks : List ℕ → Type 0
Lacks text = (i : ℕ) → i < length text → get_or text i 0 ≢ 46

no_dots : (text : List ℕ) → Lacks text → All (λ (b : ℕ). (b == 46) ≡ false) text
no_dots text lacks = All-from_get_or (λ (b : ℕ). (b == 46) ≡ false) text 0 (λ i below. ne_eqb (get_or text i 0) 46 (lacks i below))

-- A text without a dot is one level.
pub last_level : (text : List ℕ) → Lacks text → pieces_of 46 text ≡ text ∷ []
last_level text lacks = slice_split_none (λ (b : ℕ). b == 46) text (no_dots text lacks)

-- The first level of a text is the text before the first dot. The other levels are those of the text after that dot.
pub first_level : (text level rest : List ℕ) → text ≡ level ++ 46 ∷ rest → Lacks level → pieces_of 46 text ≡ level ∷ pieces_of 46 rest
first_level text level rest parts lacks =
    ap (pieces_of 46) parts ∙ slice_split_at (λ (b : ℕ). b == 46) level 46 rest (no_dots level lacks) (eq-eqb 46 46 refl)

above_more : (level : List ℕ) (levels : List (List ℕ)) (w : Wanted) → 0 < length levels
    → wanted_along (all_but_last (level ∷ levels)) w ≡ option_and_then (wanted_along (all_but_last levels)) (wanted_below w level)
above_more level [] w some = absurd (omega (arith, some))
above_more level (next ∷ levels) w some = refl

-- The expected value along all levels of a text, or along all but the last, is reached by descending the first level
-- and then the others.
module _ (text level rest : List ℕ) (w : Wanted) (pieces : pieces_of 46 text ≡ level ∷ pieces_of 46 rest) where
  pub step_whole : wanted_along (pieces_of 46 text) w ≡ option_and_then (wanted_along (pieces_of 46 rest)) (wanted_below w level)
  step_whole = ap (λ (levels : List (List ℕ)). wanted_along levels w) pieces

  pub step_above : wanted_along (all_but_last (pieces_of 46 text)) w ≡ option_and_then (wanted_along (all_but_last (pieces_of 46 rest))) (wanted_below w level)
  step_above = ap (λ (levels : List (List ℕ)). wanted_along (all_but_last levels) w) pieces ∙ above_more level (pieces_of 46 rest) w (some_piece 46 rest)

-- If a path does not begin with a dot, `after_dot` is the empty text.
pub no_dot_first : (path : List ℕ) → ((rest : List ℕ) → path ≢ 46 ∷ rest) → after_dot path ≡ []
no_dot_first [] other = refl
no_dot_first (b ∷ path) other = rw (ne_eqb b 46 (λ same. other path (ap (λ (c : ℕ). c ∷ path) same)))

pub and_then_itself : {A : Type 0} (o : Option A) → option_and_then (λ (x : A). Some x) o ≡ o
and_then_itself None = refl
and_then_itself (Some x) = refl
