-- The parts of a mission that the law of the event machine needs: sizes, processors that are up, halts and restarts,
-- images.
use Rattle.std.specs.Prelude.{◌≡◌, ℕ, zero, suc, ◌+◌, ◌-◌, ◌*◌, ◌<◌, ◌≤◌, min, Bool, true, false, ◌&&◌, List, get_or, Option, Some, None, if◌then◌else◌, nat_lt, nat_le, nat_eq}
use Rattle.bank_words.specs.Marks.{mark_word}

-- A flight as numbers and functions. The numbers count the frames, the processors, and the words of an image. The
-- functions return whether a processor is up in a frame, the step of a halt, the frame of a restart, the start image
-- of a processor, its draft in a frame, and the kernel's words of a frame.
pub record Flight : Type 0 where
  pub frames : ℕ
  pub procs : ℕ
  pub width : ℕ
  pub up : ℕ → ℕ → Bool
  pub halt : ℕ → ℕ → Option ℕ
  pub restart : ℕ → Option ℕ
  pub start : ℕ → List ℕ
  pub draft : ℕ → ℕ → List ℕ
  pub kernel_image : ℕ → List ℕ

-- Whether there is a restart, and it comes after frame `h` and no later than frame `g`.
abbrev pub back_by : Option ℕ → ℕ → ℕ → Bool
back_by None h g = false
back_by (Some r) h g = nat_lt h r && nat_le r g

-- The flight's `up` agrees with its halts and restarts. Each processor is up in frame 0. A processor that halts is
-- down from the next frame on, until its restart. The step of a halt is at most one more than the number of words of
-- an image.
pub record Flies (m : Flight) : Type 0 where
  pub first : (p : ℕ) → m.up p 0 ≡ true
  pub stays : (p f : ℕ) → m.up p f ≡ true → m.halt p f ≡ None → m.up p (suc f) ≡ true
  pub gone : (p h s g : ℕ) → m.up p h ≡ true → m.halt p h ≡ Some s → h < g → back_by (m.restart p) h g ≡ false → m.up p g ≡ false
  pub back : (p h s r : ℕ) → m.up p h ≡ true → m.halt p h ≡ Some s → m.restart p ≡ Some r → h < r → m.up p r ≡ true
  pub step : (p f s : ℕ) → m.halt p f ≡ Some s → s ≤ m.width + 1

-- Word `i` of an image, given as a list of words.
abbrev pub word_in : List ℕ → ℕ → ℕ
word_in image i = get_or image i 0

-- Whether a processor reaches its mark in a frame, given the step of its halt in the frame, if any: there is no halt,
-- or the halt comes after the flip.
abbrev pub reaches_mark : ℕ → Option ℕ → Bool
reaches_mark width None = true
reaches_mark width (Some s) = nat_lt width s

-- Whether processor `p` commits frame `f`: it is up in the frame and reaches its mark.
unfoldable pub is_committed : Flight → ℕ → ℕ → Bool
is_committed m p f = m.up p f && reaches_mark m.width (m.halt p f)

-- The image of processor `p` at the start of frame `f`.
unfoldable pub image_before : Flight → ℕ → ℕ → List ℕ
image_before m p zero = m.start p
image_before m p (suc f) = if is_committed m p f then m.draft p f else image_before m p f

-- The number of frames up to and including the last frame below `f` that processor `p` commits, or 0 if it commits
-- none.
unfoldable pub last_commit : Flight → ℕ → ℕ → ℕ
last_commit m p zero = 0
last_commit m p (suc f) = if is_committed m p f then suc f else last_commit m p f

-- The number of frames below `f` that processor `p` commits.
unfoldable pub commit_count : Flight → ℕ → ℕ → ℕ
commit_count m p zero = 0
commit_count m p (suc f) = if is_committed m p f then suc (commit_count m p f) else commit_count m p f

-- The bank that the mark of processor `p` names at the start of frame `f`.
unfoldable pub side : Flight → ℕ → ℕ → ℕ
side m p zero = 0
side m p (suc f) = if is_committed m p f then 1 - side m p f else side m p f

-- The mark of processor `p` at the start of frame `f`.
abbrev pub mark_before : Flight → ℕ → ℕ → ℕ
mark_before m p f = mark_word (last_commit m p f) (side m p f)

-- The end word of a processor after frame `f`, given the step of its halt in the frame, if any.
abbrev pub end_word_after : ℕ → Option ℕ → ℕ
end_word_after f None = 2 * suc f
end_word_after f (Some s) = 2 * f + 1

-- The end word of processor `p` at the start of frame `f`.
unfoldable pub end_before : Flight → ℕ → ℕ → ℕ
end_before m p zero = 0
end_before m p (suc f) = if m.up p f then end_word_after f (m.halt p f) else end_before m p f

-- The number of stores of a processor in a frame in which the processor is up. The number of words of an image is
-- given, and the step of the processor's halt in the frame, if any.
abbrev pub stores_by : ℕ → Option ℕ → ℕ
stores_by width None = width
stores_by width (Some s) = min s width

-- The number of stores that processor `p` makes in frame `f`.
unfoldable pub stores_in : Flight → ℕ → ℕ → ℕ
stores_in m p f = if m.up p f then stores_by m.width (m.halt p f) else 0

-- Word `i` of bank `b` of processor `p` after the first `s` stores in frame `f`, given the word `old` at the start of
-- the frame.
unfoldable pub laid : Flight → ℕ → ℕ → ℕ → ℕ → ℕ → ℕ → ℕ
laid m p f s b i old = if nat_eq b (1 - side m p f) && nat_lt i s then word_in (m.draft p f) i else old

-- Word `i` of bank `b` of processor `p` at the start of frame `f`: the word that `p` stored there last, or the opening
-- word.
unfoldable pub bank_before : Flight → ℕ → ℕ → ℕ → ℕ → ℕ
bank_before m p zero b i = if nat_eq b 0 then word_in (m.start p) i else 0
bank_before m p (suc f) b i = laid m p f (stores_in m p f) b i (bank_before m p f b i)
