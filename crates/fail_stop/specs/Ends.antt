-- The end of a flight, and the last store to a word.
use Rattle.std.specs.Prelude.{◌≡◌, ◌⊎◌, ℕ, suc, ◌-◌, ◌<◌, ◌≤◌, Some, if◌then◌else◌, nat_eq}
use Rattle.fail_stop.specs.Flights.{Flight, word_in, side, stores_in}
use Rattle.fail_stop.specs.Events.{Place, At, Halted, Places}

-- Processor `p` has flown all frames or has halted without a later restart.
abbrev pub IsDone : Flight → ℕ → Place → Type 0
IsDone m p (At f n) = f ≡ m.frames
IsDone m p (Halted h) = (r : ℕ) → m.restart p ≡ Some r → r ≤ h

-- The machine is over. Either the flight has no frame, or each processor has flown all frames or has halted for good,
-- and the kernel has made its last note.
abbrev pub IsOver : Flight → Places → Type 0
IsOver m at = (m.frames ≡ 0) ⊎ (((p : ℕ) → p < m.procs → IsDone m p (at.proc p)) × (suc at.frame ≡ m.frames) × (m.procs ≤ at.step))

-- Processor `p` stores word `i` of bank `b` in frame `g`.
abbrev pub Stores : Flight → ℕ → ℕ → ℕ → ℕ → Type 0
Stores m p g b i = (b ≡ 1 - side m p g) × (i < stores_in m p g)

-- Word `i` of bank `b` of processor `p` at the opening. Bank 0 holds the start image, and bank 1 holds zeros.
abbrev pub opening_word : Flight → ℕ → ℕ → ℕ → ℕ
opening_word m p b i = if nat_eq b 0 then word_in (m.start p) i else 0

-- The number `v` is the value that `p` stored last in word `i` of bank `b` in the frames below `f`, or the opening
-- word if `p` stored none there.
abbrev pub IsStoredLast : Flight → ℕ → ℕ → ℕ → ℕ → ℕ → Type 0
IsStoredLast m p f b i v =
    ((g : ℕ) × (g < f) × Stores m p g b i × (v ≡ word_in (m.draft p g) i) × ((later : ℕ) → g < later → later < f → Stores m p later b i → ⊥))
    ⊎ ((v ≡ opening_word m p b i) × ((g : ℕ) → g < f → Stores m p g b i → ⊥))
