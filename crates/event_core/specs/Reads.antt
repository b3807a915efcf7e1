-- Reads of the stored words.
use Rattle.std.specs.Prelude.{ℕ, ℤ, pos, List, [], ◌∷◌, nat_lt, if◌then◌else◌}
use Rattle.scram_types.specs.Specification.{Parts}
use Rattle.bank_words.specs.Marks.{pick}
use Rattle.bank_words.specs.Numbers.{decode}
use Rattle.fault_script.specs.Times.{words}
use Rattle.fail_stop.specs.Events.{BankWord, KernelWord, MarkWord}
use Rattle.fail_stop.specs.Listed.{stored_in}

-- The number of the bank of processor `p` that a reader in frame `f` reads.
abbrev pub bank_taken : List ℕ → ℕ → ℕ → ℕ
bank_taken stored f p = pick (stored_in stored (MarkWord p)) f

-- Word `i` of the image that a reader in frame `f` finds for processor `p`, or 0 if an image of the specification has
-- no word `i`.
abbrev pub word_read : Parts → List ℕ → ℕ → ℕ → ℕ → ℤ
word_read spec stored f p i = if nat_lt i (words spec) then decode (stored_in stored (BankWord p (bank_taken stored f p) i)) else pos 0

-- The kernel's twenty words in a list of stored words.
abbrev pub kernel_words_stored : List ℕ → List ℕ
kernel_words_stored stored =
    stored_in stored (KernelWord 0) ∷ stored_in stored (KernelWord 1) ∷ stored_in stored (KernelWord 2) ∷ stored_in stored (KernelWord 3)
    ∷ stored_in stored (KernelWord 4) ∷ stored_in stored (KernelWord 5) ∷ stored_in stored (KernelWord 6) ∷ stored_in stored (KernelWord 7)
    ∷ stored_in stored (KernelWord 8) ∷ stored_in stored (KernelWord 9) ∷ stored_in stored (KernelWord 10) ∷ stored_in stored (KernelWord 11)
    ∷ stored_in stored (KernelWord 12) ∷ stored_in stored (KernelWord 13) ∷ stored_in stored (KernelWord 14) ∷ stored_in stored (KernelWord 15)
    ∷ stored_in stored (KernelWord 16) ∷ stored_in stored (KernelWord 17) ∷ stored_in stored (KernelWord 18) ∷ stored_in stored (KernelWord 19) ∷ []
