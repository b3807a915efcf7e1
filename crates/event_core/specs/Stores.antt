-- The word of an event, and the ranges of an event's numbers.
use Rattle.std.specs.Prelude.{◌≡◌, ℕ, suc, ◌+◌, ◌^◌, ◌<◌}
use Rattle.bank_words.specs.declared.events.Event.{Event}
use Rattle.bank_words.specs.declared.events.Event.TheVariants.{Start, Look, Store, Flip, Done, Halt, KNote, KStore, Release}
use Rattle.event_core.specs.declared.places.Places.{Places as KeptPlaces}
use Rattle.event_core.specs.Places.{CanGoOn, kept_place}
use Rattle.fail_stop.specs.Events.{Places, frame_of}
use Rattle.fail_stop.specs.Flights.{Flight, word_in}

-- A word is valid for an event. For a store of a processor, it is the word of the processor's draft. For a store of
-- the kernel, it is the word of the kernel's next image. For any other event, the word is arbitrary.
abbrev pub IsEventWord : Flight → Places → Event → ℕ → Type 0
IsEventWord m at (Store p i) word = word ≡ word_in (m.draft p.0 (frame_of (at.proc p.0))) i
IsEventWord m at (KStore i) word = word ≡ word_in (m.kernel_image (suc at.frame)) i
IsEventWord m at (Start p) word = Unit {0}
IsEventWord m at (Look p q) word = Unit {0}
IsEventWord m at (Flip p) word = Unit {0}
IsEventWord m at (Done p) word = Unit {0}
IsEventWord m at (Halt p) word = Unit {0}
IsEventWord m at (KNote p) word = Unit {0}
IsEventWord m at Release word = Unit {0}

-- The numbers of an event are in range. The number of the processor that acts or is noted is below 8, and the index
-- of a stored word is within the bank or the kernel's words.
abbrev pub IsInside : Event → Type 0
IsInside (Store p i) = (p.0 < 8) × (i < 64)
IsInside (KStore i) = i < 20
IsInside (Start p) = p.0 < 8
IsInside (Look p q) = p.0 < 8
IsInside (Flip p) = p.0 < 8
IsInside (Done p) = p.0 < 8
IsInside (Halt p) = p.0 < 8
IsInside (KNote p) = p.0 < 8
IsInside Release = Unit {0}

-- The numbers that the event increases in the place of its actor can be increased by one without overflow.
abbrev pub CanMove : KeptPlaces → Event → Type 0
CanMove places (Start p) = CanGoOn (kept_place places.procs p.0)
CanMove places (Look p q) = CanGoOn (kept_place places.procs p.0)
CanMove places (Store p i) = CanGoOn (kept_place places.procs p.0)
CanMove places (Flip p) = CanGoOn (kept_place places.procs p.0)
CanMove places (Done p) = CanGoOn (kept_place places.procs p.0)
CanMove places (Halt p) = CanGoOn (kept_place places.procs p.0)
CanMove places (KNote p) = places.step + 1 < 2 ^ 32
CanMove places (KStore i) = places.step + 1 < 2 ^ 32
CanMove places Release = places.frame + 1 < 2 ^ 32
