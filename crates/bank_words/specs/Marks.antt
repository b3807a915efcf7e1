-- The marks of processors. A mark encodes a count and a bank. The count is the number of frames up to and including
-- the last frame that the processor committed, or 0 if it has committed none. The bank holds the processor's image.
use Rattle.std.specs.Prelude.{ℕ, ◌+◌, ◌-◌, ◌*◌, ◌/◌, ◌%◌, nat_le, if◌then◌else◌}

-- The mark that encodes the number `count` of frames up to and including the last committed frame, and the bank
-- `bank`, 0 or 1, that holds the processor's image.
abbrev pub mark_word : ℕ → ℕ → ℕ
mark_word count bank = 2 * count + bank

-- The bank that a reader in frame `f` takes: the marked bank if the count of the mark is at most `f`, or else the
-- other bank.
abbrev pub pick : ℕ → ℕ → ℕ
pick mark f = if nat_le (mark / 2) f then mark % 2 else 1 - mark % 2
