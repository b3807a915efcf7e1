-- Decoding a word and encoding a summary are inverse.
use Rattle.std.proofs.Common.{◌≡◌, ℕ, ◌+◌, ◌*◌, ◌/◌, ◌%◌, ◌<◌, arith}
use Rattle.std.specs.Prelude.{◌^◌}
use Rattle.telemetry_tap.specs.Laws.{SummariesComeBack}
use Rattle.telemetry_tap.specs.declared.summaries.Summary.{Summary}
use Rattle.telemetry_tap.specs.Words.{FitsWord, summary_decode, summary_encode}

frames_back : (a b c d : ℕ) → a < 65536 → b < 65536 → c < 256 → d < 256 → (a + 65536 * b + 4294967296 * c + 1099511627776 * d) % 65536 ≡ a
frames_back a b c d la lb lc ld = omega arith

begun_back : (a b c d : ℕ) → a < 65536 → b < 65536 → c < 256 → d < 256 → (a + 65536 * b + 4294967296 * c + 1099511627776 * d) / 65536 % 65536 ≡ b
begun_back a b c d la lb lc ld = omega arith

running_back : (a b c d : ℕ) → a < 65536 → b < 65536 → c < 256 → d < 256 → (a + 65536 * b + 4294967296 * c + 1099511627776 * d) / 4294967296 % 256 ≡ c
running_back a b c d la lb lc ld = omega arith

up_back : (a b c d : ℕ) → a < 65536 → b < 65536 → c < 256 → d < 256 → (a + 65536 * b + 4294967296 * c + 1099511627776 * d) / 1099511627776 % 256 ≡ d
up_back a b c d la lb lc ld = omega arith

pub summary_back : (s : Summary) → FitsWord s → summary_decode (summary_encode s) ≡ s
summary_back s fits =
    let one = frames_back s.frames s.begun s.running s.up fits.frames fits.begun fits.running fits.up in
    let two = begun_back s.frames s.begun s.running s.up fits.frames fits.begun fits.running fits.up in
    let three = running_back s.frames s.begun s.running s.up fits.frames fits.begun fits.running fits.up in
    let four = up_back s.frames s.begun s.running s.up fits.frames fits.begun fits.running fits.up in
    λ i. record { frames = one i; running = three i; up = four i; begun = two i }

word_back : (word : ℕ) → word < 2 ^ 48 → summary_encode (summary_decode word) ≡ word
word_back word low = omega arith

pub summaries_come_back : SummariesComeBack
summaries_come_back = (summary_back, word_back)
