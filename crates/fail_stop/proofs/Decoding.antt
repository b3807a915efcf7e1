-- Lemmas on images that are read word by word.
use Rattle.std.proofs.Common.{◌≡◌, ◌∙◌, ℕ, zero, suc, ℤ, pos, ◌+◌, ◌<◌, refl, arith, Bool, true, false, List, [], ◌∷◌, length}
use Rattle.std.specs.Prelude.{nat_eq, nat_lt, replicate, slice_index_or, slice_set, if◌then◌else◌}
use Rattle.std.proofs.lemmas.Bool.Decides.{nat_tests}
use Rattle.std.proofs.lemmas.Grind.{common_steps}

-- If an image has the first `n` values of `v` followed by zeros, and index `n` is set to `v n`, then the image has
-- the first `n + 1` values of `v` followed by zeros.
pub word_set : (image : List ℤ) (n : ℕ) (v : ℕ → ℤ) (x : ℤ) → length image ≡ 64 → n < 64 → x ≡ v n → ((i : ℕ) → i < 64 → slice_index_or image i (pos 0) ≡ (if nat_lt i n then v i else pos 0))
    → (i : ℕ) → i < 64 → slice_index_or (slice_set image n x) i (pos 0) ≡ (if nat_lt i (n + 1) then v i else pos 0)
word_set image n v x long low is before i small = by_place (nat_eq i n) refl where
  set_at : slice_index_or (slice_set image n x) i (pos 0) ≡ (if nat_eq i n then x else slice_index_or image i (pos 0))
  set_at = grind (arith, common_steps, nat_tests, long)

  by_place : (b : Bool) → nat_eq i n ≡ b → slice_index_or (slice_set image n x) i (pos 0) ≡ (if nat_lt i (n + 1) then v i else pos 0)
  by_place true here = let same : i ≡ n = grind (arith, nat_tests, here) in let in_ : nat_lt i (n + 1) ≡ true = grind (arith, nat_tests, same) in set_at ∙ rw (here, in_, same) is
  by_place false apart = let stays : nat_lt i (n + 1) ≡ nat_lt i n = grind (arith, nat_tests, apart) in set_at ∙ rw (apart, stays) (before i small)

pub none_read : (v : ℕ → ℤ) (i : ℕ) → slice_index_or (replicate 64 (pos 0)) i (pos 0) ≡ (if nat_lt i 0 then v i else pos 0)
none_read v i = let none : nat_lt i 0 ≡ false = grind (arith, nat_tests) in rw none (zeros_at 64 i) where
  zeros_at : (n i : ℕ) → slice_index_or (replicate n (pos 0)) i (pos 0) ≡ pos 0
  zeros_at zero i = refl
  zeros_at (suc n) zero = refl
  zeros_at (suc n) (suc i) = zeros_at n i

-- If a property holds for each of eight elements, then it holds for each element of their list.
pub each_of_eight : {A : Type 0} (none : A) (P : ℕ → A → Type 0) (a b c d e f g h : A) → P 0 a → P 1 b → P 2 c → P 3 d → P 4 e → P 5 f → P 6 g → P 7 h
    → (p : ℕ) → p < 8 → P p (slice_index_or (a ∷ b ∷ c ∷ d ∷ e ∷ f ∷ g ∷ h ∷ []) p none)
each_of_eight none P a b c d e f g h on_a on_b on_c on_d on_e on_f on_g on_h zero low = on_a
each_of_eight none P a b c d e f g h on_a on_b on_c on_d on_e on_f on_g on_h (suc zero) low = on_b
each_of_eight none P a b c d e f g h on_a on_b on_c on_d on_e on_f on_g on_h (suc (suc zero)) low = on_c
each_of_eight none P a b c d e f g h on_a on_b on_c on_d on_e on_f on_g on_h (suc (suc (suc zero))) low = on_d
each_of_eight none P a b c d e f g h on_a on_b on_c on_d on_e on_f on_g on_h (suc (suc (suc (suc zero)))) low = on_e
each_of_eight none P a b c d e f g h on_a on_b on_c on_d on_e on_f on_g on_h (suc (suc (suc (suc (suc zero))))) low = on_f
each_of_eight none P a b c d e f g h on_a on_b on_c on_d on_e on_f on_g on_h (suc (suc (suc (suc (suc (suc zero)))))) low = on_g
each_of_eight none P a b c d e f g h on_a on_b on_c on_d on_e on_f on_g on_h (suc (suc (suc (suc (suc (suc (suc zero))))))) low = on_h
each_of_eight none P a b c d e f g h on_a on_b on_c on_d on_e on_f on_g on_h (suc (suc (suc (suc (suc (suc (suc (suc p)))))))) low = absurd (omega arith)
