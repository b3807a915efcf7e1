-- Lemmas on reading a further signed number of a line.
use Rattle.std.proofs.Common.{ℕ, ℤ, suc, ◌≡◌, ◌<◌, ◌+◌, ◌-◌, ◌∙◌, List, [], ◌∷◌, ◌++◌, Option, Some, None, arith, refl, sym, ap, append_assoc}
use Rattle.std.specs.Prelude.{option_map, option_and_then}
use Rattle.trace_text.specs.Pieces.{word_at}
use Rattle.trace_text.specs.Spelling.{signed_of, signed_from}

joined_maps : (items : List ℤ) (z : ℤ) (o : Option (List ℤ)) → option_map (λ (more : List ℤ). (items ++ z ∷ []) ++ more) o ≡ option_map (λ (more : List ℤ). items ++ more) (option_map (λ (zs : List ℤ). z ∷ zs) o)
joined_maps items z None = refl
joined_maps items z (Some zs) = ap Some (append_assoc items (z ∷ []) zs)

pub value_step : (items new : List ℤ) (from k : ℕ) (words : List (List ℕ)) (z : ℤ) → k < 8 → signed_of (word_at words (from + k)) ≡ Some z → new ≡ items ++ z ∷ [] →
    option_map (λ (more : List ℤ). items ++ more) (signed_from (8 - k) (from + k) words) ≡ signed_from 8 from words →
    option_map (λ (more : List ℤ). new ++ more) (signed_from (8 - (k + 1)) (from + (k + 1)) words) ≡ signed_from 8 from words
value_step items new from k words z small is grown so_far =
    let e : 8 - k ≡ suc (8 - (k + 1)) = omega arith in
    let f : from + (k + 1) ≡ (from + k) + 1 = omega arith in
    let one : signed_from (8 - k) (from + k) words ≡ option_map (λ (zs : List ℤ). z ∷ zs) (signed_from (8 - (k + 1)) ((from + k) + 1) words)
    = ap (λ (n : ℕ). signed_from n (from + k) words) e ∙ ap (option_and_then (λ (y : ℤ). option_map (λ (zs : List ℤ). y ∷ zs) (signed_from (8 - (k + 1)) ((from + k) + 1) words))) is in
    rw (grown, f) (joined_maps items z (signed_from (8 - (k + 1)) ((from + k) + 1) words) ∙ sym (ap (option_map (λ (more : List ℤ). items ++ more)) one) ∙ so_far)
