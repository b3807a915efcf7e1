-- The marks after a frame determine which processors committed the frame.
use Rattle.std.proofs.Common.{◌≡◌, ◌∙◌, ℕ, zero, suc, ◌-◌, ◌/◌, ◌<◌, ◌≤◌, ap, arith, length, Bool, true, false, List}
use Rattle.std.specs.Prelude.{◌==◌, if◌then◌else◌}
use Rattle.std.proofs.lemmas.Bool.Decides.{nat_tests}
use Rattle.scram_types.specs.Scripts.{ScriptParts}
use Rattle.scram_types.specs.Specification.{Parts}
use Rattle.bank_words.specs.Marks.{mark_word}
use Rattle.fault_script.specs.Times.{commits}
use Rattle.scram_kernel.specs.Drawing.{has_committed}
use Rattle.frame_model.specs.Storage.{image_bank_after, last_count, mark_after}
use Rattle.scram_kernel.specs.Marks.{AreMarks}

pub last_low : (spec : Parts) (script : ScriptParts) (p n : ℕ) → last_count spec script p n ≤ n
last_low spec script p zero = omega arith
last_low spec script p (suc n) = by_commit (commits spec script p n) (last_low spec script p n) where
  by_commit : {l m : ℕ} (b : Bool) → l ≤ m → (if b then suc m else l) ≤ suc m
  by_commit true low = omega arith
  by_commit false low = omega arith

pub bank_low : (spec : Parts) (script : ScriptParts) (p n : ℕ) → image_bank_after spec script p n ≤ 1
bank_low spec script p zero = omega arith
bank_low spec script p (suc n) = by_commit (commits spec script p n) (bank_low spec script p n) where
  by_commit : {l : ℕ} (b : Bool) → l ≤ 1 → (if b then 1 - l else l) ≤ 1
  by_commit true low = omega arith
  by_commit false low = low

told : (b : Bool) (last bank n : ℕ) → last ≤ n → bank ≤ 1 → (mark_word (if b then suc n else last) bank / 2 == suc n) ≡ b
told true last bank n low small = let half : mark_word (suc n) bank / 2 ≡ suc n = grind arith in grind (arith, nat_tests, half)
told false last bank n low small = let half : mark_word last bank / 2 ≡ last = grind arith in grind (arith, nat_tests, half)

-- Half of the mark after frame `n` is `n + 1` if and only if the processor committed frame `n`.
pub mark_tells : (spec : Parts) (script : ScriptParts) (p n : ℕ) → (mark_after spec script p (suc n) / 2 == suc n) ≡ commits spec script p n
mark_tells spec script p n =
    told (commits spec script p n) (last_count spec script p n) (image_bank_after spec script p (suc n)) n (last_low spec script p n) (bank_low spec script p (suc n))

pub committed_told : (spec : Parts) (script : ScriptParts) (n : ℕ) (marks : List ℕ) → AreMarks spec script (suc n) marks
    → (p : ℕ) → p < length spec.procs → has_committed marks n p ≡ commits spec script p n
committed_told spec script n marks are p low = ap (λ mark. mark / 2 == suc n) (are p low) ∙ mark_tells spec script p n
