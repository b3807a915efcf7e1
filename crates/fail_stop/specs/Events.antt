-- The event machine: places, words, the next event of an actor, and the effect of an event.
use Rattle.std.specs.Prelude.{◌≡◌, ℕ, zero, suc, ◌+◌, ◌-◌, ◌*◌, ◌/◌, ◌%◌, ◌<◌, Bool, true, false, not, ◌&&◌, ◌||◌, Option, Some, None, if◌then◌else◌, nat_lt, nat_le, nat_eq}
use Rattle.bank_words.specs.declared.events.Event.{Event}
use Rattle.bank_words.specs.declared.events.Event.TheVariants.{Start, Look, Store, Flip, Done, Halt, KNote, KStore, Release}
use Rattle.bank_words.specs.Marks.{mark_word}
use Rattle.scram_types.specs.Lookups.{proc_id}
use Rattle.fail_stop.specs.Flights.{Flight, word_in, back_by}

-- The place of a processor: a frame and the number of steps that the processor has made in it, or the frame in which it
-- has halted.
pub data Place : Type 0 where
  At : ℕ → ℕ → Place
  Halted : ℕ → Place

-- The place of each processor, the kernel's frame, and the number of steps that the kernel has made in its frame.
pub record Places : Type 0 where
  pub proc : ℕ → Place
  pub frame : ℕ
  pub step : ℕ

-- The shared words: the release, the kernel's twenty words, and the mark, the end word and the two banks of each
-- processor.
pub data Word : Type 0 where
  ReleaseWord : Word
  KernelWord : ℕ → Word
  MarkWord : ℕ → Word
  EndWord : ℕ → Word
  BankWord : ℕ → ℕ → ℕ → Word

-- Whether a processor halts after `n` steps of a frame, given the step of its halt in the frame, if any. A halt at
-- step `s` comes after the start, the looks and `s` further steps.
abbrev pub halts_at : Flight → ℕ → Option ℕ → Bool
halts_at m n None = false
halts_at m n (Some s) = nat_eq n (m.procs + 1 + s)

-- The event of processor `p` after `n` steps of a frame without a halt, or `None` after the last event. The order is
-- start, looks, stores, flip, done.
abbrev pub plan_step : Flight → ℕ → ℕ → Option Event
plan_step m p n =
    if nat_eq n 0 then Some (Start (proc_id p))
    else (if nat_le n m.procs then Some (Look (proc_id p) (proc_id (n - 1)))
    else (if nat_lt n (m.procs + 1 + m.width) then Some (Store (proc_id p) (n - (m.procs + 1)))
    else (if nat_eq n (m.procs + 1 + m.width) then Some (Flip (proc_id p))
    else (if nat_eq n (m.procs + 2 + m.width) then Some (Done (proc_id p)) else None))))

-- The event of processor `p` after `n` steps of frame `f`, or `None` after the last event. A halt replaces all events
-- that would follow.
abbrev pub plan : Flight → ℕ → ℕ → ℕ → Option Event
plan m p f n = if halts_at m n (m.halt p f) then Some (Halt (proc_id p)) else plan_step m p n

-- The next event of processor `p`, which has halted in frame `h`, given the release and the frame of its restart. It
-- is the start if that frame comes after `h` and is released, and `None` otherwise.
abbrev pub next_halted : ℕ → ℕ → ℕ → Option ℕ → Option Event
next_halted p h release None = None
next_halted p h release (Some r) = if nat_lt h r && nat_lt r release then Some (Start (proc_id p)) else None

-- The next event of processor `p`, given its place and the release, or `None` if there is none.
abbrev pub next_from : Flight → ℕ → ℕ → Place → Option Event
next_from m p release (At f zero) = if nat_lt f m.frames && nat_lt f release then Some (Start (proc_id p)) else None
next_from m p release (At f (suc n)) = plan m p f (suc n)
next_from m p release (Halted h) = next_halted p h release (m.restart p)

-- The next event of processor `p`, or `None` if there is none or `p` does not exist.
abbrev pub next_of : Flight → Places → (Word → ℕ) → ℕ → Option Event
next_of m at words p = if nat_lt p m.procs then next_from m p (words ReleaseWord) (at.proc p) else None

-- Whether the kernel may note processor `p` in frame `k`, given the end word `e` of `p`.
abbrev pub may_note : Flight → ℕ → ℕ → ℕ → Bool
may_note m p k e = nat_eq e (2 * suc k) || (nat_eq (e % 2) 1 && not (back_by (m.restart p) (e / 2) k))

-- The next event of the kernel, or `None` if there is none. In each frame the kernel notes each processor in order.
-- It then makes its twenty stores and releases the next frame, unless the frame is the last.
abbrev pub next_kernel : Flight → Places → (Word → ℕ) → Option Event
next_kernel m at words =
    if nat_lt at.frame m.frames
    then (if nat_lt at.step m.procs
    then (if may_note m at.step at.frame (words (EndWord at.step)) then Some (KNote (proc_id at.step)) else None)
    else (if nat_lt (suc at.frame) m.frames
    then (if nat_lt at.step (m.procs + 20) then Some (KStore (at.step - m.procs))
    else (if nat_eq at.step (m.procs + 20) then Some Release else None))
    else None))
    else None

-- The next event of the actor of an event, or `None` if the actor has none.
abbrev pub next_of_actor : Flight → Places → (Word → ℕ) → Event → Option Event
next_of_actor m at words (Start p) = next_of m at words p.0
next_of_actor m at words (Look p q) = next_of m at words p.0
next_of_actor m at words (Store p i) = next_of m at words p.0
next_of_actor m at words (Flip p) = next_of m at words p.0
next_of_actor m at words (Done p) = next_of m at words p.0
next_of_actor m at words (Halt p) = next_of m at words p.0
next_of_actor m at words (KNote p) = next_kernel m at words
next_of_actor m at words (KStore i) = next_kernel m at words
next_of_actor m at words Release = next_kernel m at words

-- An event is the next event of its actor.
abbrev pub IsNext : Flight → Places → (Word → ℕ) → Event → Type 0
IsNext m at words e = next_of_actor m at words e ≡ Some e

-- Whether processor `q` is the actor of an event.
abbrev pub is_actor : Event → ℕ → Bool
is_actor (Start p) q = nat_eq q p.0
is_actor (Look p i) q = nat_eq q p.0
is_actor (Store p i) q = nat_eq q p.0
is_actor (Flip p) q = nat_eq q p.0
is_actor (Done p) q = nat_eq q p.0
is_actor (Halt p) q = nat_eq q p.0
is_actor (KNote p) q = false
is_actor (KStore i) q = false
is_actor Release q = false

-- The place of a halted processor after its start, given the frame of its restart, if any. Without a restart the
-- place does not change.
abbrev pub back_at : Option ℕ → Place → Place
back_at None place = place
back_at (Some r) place = At r 1

-- The place after one further step. The place of a halted processor does not change.
abbrev pub one_on : Place → Place
one_on (At f n) = At f (suc n)
one_on (Halted h) = Halted h

-- The place after a start, given the frame of the processor's restart, if any. A processor that has not halted is one
-- step further. A halted processor has made one step of the frame of its restart. Without a restart its place does
-- not change.
abbrev pub started : Option ℕ → Place → Place
started restart (At f n) = At f (suc n)
started restart (Halted h) = back_at restart (Halted h)

-- The place at the start of the next frame. The place of a halted processor does not change.
abbrev pub frame_on : Place → Place
frame_on (At f n) = At (suc f) 0
frame_on (Halted h) = Halted h

-- The place after a halt in the frame of this place.
abbrev pub halted_there : Place → Place
halted_there (At f n) = Halted f
halted_there (Halted h) = Halted h

-- The place of processor `q` after an event of its own. An event of the kernel does not change the place.
abbrev pub moved : Flight → Event → ℕ → Place → Place
moved m (Start p) q place = started (m.restart q) place
moved m (Look p i) q place = one_on place
moved m (Store p i) q place = one_on place
moved m (Flip p) q place = one_on place
moved m (Done p) q place = frame_on place
moved m (Halt p) q place = halted_there place
moved m (KNote p) q place = place
moved m (KStore i) q place = place
moved m Release q place = place

-- The place of processor `q` after an event.
abbrev pub proc_after : Flight → Places → Event → ℕ → Place
proc_after m at e q = if is_actor e q then moved m e q (at.proc q) else at.proc q

-- The kernel's frame after an event.
abbrev pub frame_after : Places → Event → ℕ
frame_after at Release = suc at.frame
frame_after at (Start p) = at.frame
frame_after at (Look p i) = at.frame
frame_after at (Store p i) = at.frame
frame_after at (Flip p) = at.frame
frame_after at (Done p) = at.frame
frame_after at (Halt p) = at.frame
frame_after at (KNote p) = at.frame
frame_after at (KStore i) = at.frame

-- The number of steps that the kernel has made in its frame after an event.
abbrev pub step_after : Places → Event → ℕ
step_after at Release = 0
step_after at (KNote p) = suc at.step
step_after at (KStore i) = suc at.step
step_after at (Start p) = at.step
step_after at (Look p i) = at.step
step_after at (Store p i) = at.step
step_after at (Flip p) = at.step
step_after at (Done p) = at.step
step_after at (Halt p) = at.step

-- The frame of a place.
abbrev pub frame_of : Place → ℕ
frame_of (At f n) = f
frame_of (Halted h) = h

-- Whether a place is the place of a halted processor.
abbrev pub is_halted : Place → Bool
is_halted (At f n) = false
is_halted (Halted h) = true

-- The place of a processor after the whole of frame `f`, given the step of its halt in the frame, if any.
abbrev pub after_frame : ℕ → Option ℕ → Place
after_frame f None = At (suc f) 0
after_frame f (Some s) = Halted f

-- The word that an event writes and the new value of the word, or `None` if the event writes no word.
abbrev pub writes : Flight → Places → (Word → ℕ) → Event → Option (Word × ℕ)
writes m at words (Store p i) = Some (BankWord p.0 (1 - words (MarkWord p.0) % 2) i, word_in (m.draft p.0 (frame_of (at.proc p.0))) i)
writes m at words (Flip p) = Some (MarkWord p.0, mark_word (suc (frame_of (at.proc p.0))) (1 - words (MarkWord p.0) % 2))
writes m at words (Done p) = Some (EndWord p.0, 2 * suc (frame_of (at.proc p.0)))
writes m at words (Halt p) = Some (EndWord p.0, 2 * frame_of (at.proc p.0) + 1)
writes m at words (KStore i) = Some (KernelWord i, word_in (m.kernel_image (suc at.frame)) i)
writes m at words Release = Some (ReleaseWord, suc (suc at.frame))
writes m at words (Start p) = None
writes m at words (Look p i) = None
writes m at words (KNote p) = None

-- Whether two words are the same word.
abbrev pub same_word : Word → Word → Bool
same_word ReleaseWord ReleaseWord = true
same_word (KernelWord i) (KernelWord j) = nat_eq i j
same_word (MarkWord p) (MarkWord q) = nat_eq p q
same_word (EndWord p) (EndWord q) = nat_eq p q
same_word (BankWord p b i) (BankWord q c j) = nat_eq p q && (nat_eq b c && nat_eq i j)
same_word _ _ = false

-- The value of a word after an optional write.
abbrev pub written : Option (Word × ℕ) → (Word → ℕ) → Word → ℕ
written None words w = words w
written (Some t) words w = if same_word t.0 w then t.1 else words w

-- A word exists: its processor exists, and its indices are in range.
abbrev pub IsStored : Flight → Word → Type 0
IsStored m ReleaseWord = Unit {0}
IsStored m (KernelWord i) = i < 20
IsStored m (MarkWord p) = p < m.procs
IsStored m (EndWord p) = p < m.procs
IsStored m (BankWord p b i) = (p < m.procs) × (b < 2) × (i < m.width)

-- Event `e` takes the machine from places `at` and words `words` to places `at2` and words `words2`.
pub record Happens (m : Flight) (at : Places) (words : Word → ℕ) (e : Event) (at2 : Places) (words2 : Word → ℕ) : Type 0 where
  pub proc : (q : ℕ) → at2.proc q ≡ proc_after m at e q
  pub frame : at2.frame ≡ frame_after at e
  pub step : at2.step ≡ step_after at e
  pub words_are : (w : Word) → IsStored m w → words2 w ≡ written (writes m at words e) words w

-- The places after an event.
abbrev pub places_after : Flight → Places → Event → Places
places_after m at e = record { proc = proc_after m at e; frame = frame_after at e; step = step_after at e }
