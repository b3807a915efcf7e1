-- The encoding of a summary in one word.
use Rattle.std.specs.Prelude.{ℕ, ◌+◌, ◌*◌, ◌/◌, ◌%◌, ◌<◌}
use Rattle.telemetry_tap.specs.declared.summaries.Summary.{Summary}

-- The word that encodes a summary. Each part of the summary has its own bits in the word.
abbrev pub summary_encode : Summary → ℕ
summary_encode s = s.frames + 65536 * s.begun + 4294967296 * s.running + 1099511627776 * s.up

-- The summary that a word encodes. Each of its parts is the number in the part's bits of the word.
abbrev pub summary_decode : ℕ → Summary
summary_decode word = record { frames = word % 65536; running = word / 4294967296 % 256; up = word / 1099511627776 % 256; begun = word / 65536 % 65536 }

-- Each part of a summary fits its bits in the word.
pub record FitsWord (s : Summary) : Type 0 where
  pub frames : s.frames < 65536
  pub begun : s.begun < 65536
  pub running : s.running < 256
  pub up : s.up < 256
