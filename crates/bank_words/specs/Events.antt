-- The codes of events.
use Rattle.std.specs.Prelude.{ℕ, ◌+◌, ◌*◌, ◌/◌, ◌%◌, ◌<◌, ◌==◌, nat_lt, Option, Some, None, option_map, if◌then◌else◌}
use Rattle.scram_types.specs.Lookups.{proc_id}
use Rattle.bank_words.specs.declared.events.Event.{Event}
use Rattle.bank_words.specs.declared.events.Event.TheVariants.{Start, Look, Store, Flip, Done, Halt, KNote, KStore, Release}

-- The code of an event: 65536 times the number of its kind, plus the number in the event. The latter is 0 for an
-- event without a number, and 256 times the first number plus the second number for an event with two numbers.
abbrev pub event_code : Event → ℕ
event_code (Start p) = p.0
event_code (Look p q) = 65536 + 256 * p.0 + q.0
event_code (Store p i) = 131072 + 256 * p.0 + i
event_code (Flip p) = 196608 + p.0
event_code (Done p) = 262144 + p.0
event_code (Halt p) = 327680 + p.0
event_code (KNote p) = 393216 + p.0
event_code (KStore i) = 458752 + i
event_code Release = 524288

-- Each number in an event is at most 255.
abbrev pub IsEvent : Event → Type 0
IsEvent (Start p) = p.0 < 256
IsEvent (Look p q) = (p.0 < 256) × (q.0 < 256)
IsEvent (Store p i) = (p.0 < 256) × (i < 256)
IsEvent (Flip p) = p.0 < 256
IsEvent (Done p) = p.0 < 256
IsEvent (Halt p) = p.0 < 256
IsEvent (KNote p) = p.0 < 256
IsEvent (KStore i) = i < 256
IsEvent Release = 0 < 256

-- The number `n`, or `None` if it is above 255.
abbrev pub byte_of : ℕ → Option ℕ
byte_of n = if nat_lt n 256 then Some n else None

-- The event `event n`, or `None` if `n` is above 255.
abbrev pub naming : (ℕ → Event) → ℕ → Option Event
naming event n = option_map event (byte_of n)

-- The event of kind `kind` with the numbers that `n` encodes, or `None` if there is no such event.
abbrev pub event_in : ℕ → ℕ → Option Event
event_in kind n =
    if kind == 0 then naming (λ p. Start (proc_id p)) n
    else if kind == 1 then Some (Look (proc_id (n / 256)) (proc_id (n % 256)))
    else if kind == 2 then Some (Store (proc_id (n / 256)) (n % 256))
    else if kind == 3 then naming (λ p. Flip (proc_id p)) n
    else if kind == 4 then naming (λ p. Done (proc_id p)) n
    else if kind == 5 then naming (λ p. Halt (proc_id p)) n
    else if kind == 6 then naming (λ p. KNote (proc_id p)) n
    else if kind == 7 then naming KStore n
    else if kind == 8 then (if n == 0 then Some Release else None)
    else None

-- The event with this code, or `None` if no event has this code.
abbrev pub event_of : ℕ → Option Event
event_of code = event_in (code / 65536) (code % 65536)
