-- The invariant `Kept`, which holds in each state of each schedule.
use Rattle.std.specs.Prelude.{◌≡◌, ℕ, suc, ◌+◌, ◌-◌, ◌*◌, ◌<◌, ◌≤◌, min, Bool, true, Option, Some, None, if◌then◌else◌, nat_lt, nat_eq}
use Rattle.fail_stop.specs.Flights.{Flight, word_in, mark_before, end_before, laid, bank_before}
use Rattle.fail_stop.specs.Events.{Place, At, Halted, Places, Word, ReleaseWord, KernelWord, MarkWord, EndWord, BankWord, IsStored}

-- The number of stores among the first `n` steps of a frame.
abbrev pub stores_made : Flight → ℕ → ℕ
stores_made m n = min (n - (m.procs + 1)) m.width

-- Whether the flip is among the first `n` steps of a frame.
abbrev pub is_flipped : Flight → ℕ → Bool
is_flipped m n = nat_lt (m.procs + 1 + m.width) n

-- The mark of processor `p`, if the processor is at this place.
abbrev pub mark_at : Flight → ℕ → Place → ℕ
mark_at m p (At f n) = if is_flipped m n then mark_before m p (suc f) else mark_before m p f
mark_at m p (Halted h) = mark_before m p (suc h)

-- The end word of processor `p`, if the processor is at this place.
abbrev pub end_at : Flight → ℕ → Place → ℕ
end_at m p (At f n) = end_before m p f
end_at m p (Halted h) = end_before m p (suc h)

-- Word `i` of bank `b` of processor `p`, if the processor is at this place.
abbrev pub bank_at : Flight → ℕ → Place → ℕ → ℕ → ℕ
bank_at m p (At f n) b i = laid m p f (stores_made m n) b i (bank_before m p f b i)
bank_at m p (Halted h) b i = bank_before m p (suc h) b i

-- Word `i` of the kernel's words while the kernel is in frame `k` after `j` steps.
abbrev pub kernel_at : Flight → ℕ → ℕ → ℕ → ℕ
kernel_at m k j i = if nat_lt i (j - m.procs) then word_in (m.kernel_image (suc k)) i else word_in (m.kernel_image k) i

-- The release word while the kernel is in frame `k`.
abbrev pub release_at : Flight → ℕ → ℕ
release_at m k = if nat_eq m.frames 0 then 0 else suc k

-- The value of each word, as a function of the places.
abbrev pub stored_word : Flight → Places → Word → ℕ
stored_word m at ReleaseWord = release_at m at.frame
stored_word m at (KernelWord i) = kernel_at m at.frame at.step i
stored_word m at (MarkWord p) = mark_at m p (at.proc p)
stored_word m at (EndWord p) = end_at m p (at.proc p)
stored_word m at (BankWord p b i) = bank_at m p (at.proc p) b i

-- The number of steps before the last event of a frame, given the step of the halt in the frame, if any.
abbrev pub last_step : Flight → Option ℕ → ℕ
last_step m None = m.procs + 2 + m.width
last_step m (Some s) = m.procs + 1 + s

-- Processor `p` may be in frame `f` after `n` steps while the kernel is in frame `k` after `j` steps.
pub record Running (m : Flight) (k j p f n : ℕ) : Type 0 where
  pub up : m.up p f ≡ true
  pub low : k ≤ f
  pub high : f ≤ suc k
  pub fresh : k < f → n ≡ 0
  pub within : n ≤ last_step m (m.halt p f)
  pub noted : p < j → k < f
  pub done : k < f → end_before m p f ≡ 2 * f

-- Processor `p` may have halted in frame `h` while the kernel is in frame `k` after `j` steps.
pub record Stopped (m : Flight) (k j p h : ℕ) : Type 0 where
  pub step : ℕ
  pub up : m.up p h ≡ true
  pub halts : m.halt p h ≡ Some step
  pub high : h ≤ k
  pub later : (r : ℕ) → m.restart p ≡ Some r → h < r → k ≤ r
  pub noted : p < j → (r : ℕ) → m.restart p ≡ Some r → h < r → k < r

-- Processor `p` may be at this place while the kernel is in frame `k` after `j` steps.
abbrev pub IsPlaced : Flight → ℕ → ℕ → ℕ → Place → Type 0
IsPlaced m k j p (At f n) = Running m k j p f n
IsPlaced m k j p (Halted h) = Stopped m k j p h

-- The kernel may be in frame `k` after `j` steps.
pub record IsKernel (m : Flight) (k j : ℕ) : Type 0 where
  pub below : 0 < m.frames → k < m.frames
  pub steps : j ≤ m.procs + 20
  pub ending : m.procs < j → suc k < m.frames

-- The invariant in the form that each event preserves: facts on places, and each word as a function of the places.
pub record Kept (m : Flight) (at : Places) (words : Word → ℕ) : Type 0 where
  pub kernel : IsKernel m at.frame at.step
  pub placed : (p : ℕ) → p < m.procs → IsPlaced m at.frame at.step p (at.proc p)
  pub words_are : (w : Word) → IsStored m w → words w ≡ stored_word m at w

-- The places at the opening: all actors are at the start of frame 0.
abbrev pub opening_places : Places
opening_places = record { proc = λ p. At 0 0; frame = 0; step = 0 }

-- The value of each word at the opening.
abbrev pub opening_words : Flight → Word → ℕ
opening_words m ReleaseWord = if nat_eq m.frames 0 then 0 else 1
opening_words m (KernelWord i) = word_in (m.kernel_image 0) i
opening_words m (MarkWord p) = 0
opening_words m (EndWord p) = 0
opening_words m (BankWord p b i) = if nat_eq b 0 then word_in (m.start p) i else 0
