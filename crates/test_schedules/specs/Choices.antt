-- The choice of the actor that makes the next event. A rule asks the actors in an order, and chooses the first one
-- that has a next event.
use Rattle.std.specs.Prelude.{ℕ, zero, suc, ◌+◌, ◌-◌, ◌%◌, Bool, true, false, Option, Some, None, nat_eq, nat_lt, if◌then◌else◌}
use Rattle.rand_pcg.specs.Lcg.{Lcg, increment_of, started}
use Rattle.rand_pcg.specs.Pcg.{multiplier_64, pcg32}
use Rattle.bank_words.specs.declared.events.Event.{Event}
use Rattle.fail_stop.specs.Events.{Places, Word, next_kernel, next_of}
use Rattle.fail_stop.specs.Flights.{Flight}
use Rattle.test_schedules.specs.declared.choices.Chooser.{Chooser}
use Rattle.test_schedules.specs.declared.choices.Rule.{Rule}
use Rattle.test_schedules.specs.declared.choices.Rule.TheVariants.{InTurns, LeastFirst, GreatestFirst, KernelFirst, Seeded}

-- Whether the rule asks the processors in descending order.
abbrev pub is_backwards : Rule → Bool
is_backwards InTurns = false
is_backwards LeastFirst = false
is_backwards GreatestFirst = true
is_backwards KernelFirst = false
is_backwards (Seeded seed) = false

-- The next event of the actor at place `place` of the order, or `None` if the actor has none. The order has the
-- processors, in descending order if `backwards` is `true`, and then the kernel.
abbrev pub next_in_order : Flight → Places → (Word → ℕ) → Bool → ℕ → Option Event
next_in_order m at words backwards place =
    if nat_eq place m.procs then next_kernel m at words
    else next_of m at words (if backwards then m.procs - 1 - place else place)

-- The place and its event, or `rest` if the event is `None`. `rest` is the result for the places after `place`.
abbrev pub found_at : ℕ → Option Event → Option (ℕ × Event) → Option (ℕ × Event)
found_at place None rest = rest
found_at place (Some event) rest = Some (place, event)

-- The first place whose actor has a next event, with the event, or `None` if there is no such place. Only the given
-- number of places from `place` on are searched.
abbrev pub first_in : (ℕ → Option Event) → ℕ → ℕ → Option (ℕ × Event)
first_in next place zero = None
first_in next place (suc many) = found_at place (next place) (first_in next (suc place) many)

-- The first of two results if it is not `None`, or else the second.
abbrev pub either_found : Option (ℕ × Event) → Option (ℕ × Event) → Option (ℕ × Event)
either_found None other = other
either_found (Some found) other = Some found

-- The first place whose actor has a next event, with the event, or `None` if there is none. The places from `begin`
-- up to the kernel's place come first, and then the places before `begin`.
abbrev pub first_from : (ℕ → Option Event) → ℕ → ℕ → Option (ℕ × Event)
first_from next procs begin = either_found (first_in next begin (procs + 1 - begin)) (first_in next 0 begin)

-- The place after the place of the last event's actor. It is the first place if that actor is the kernel, or if there
-- has been no event.
abbrev pub place_in_turn : ℕ → Option ℕ → ℕ
place_in_turn procs None = 0
place_in_turn procs (Some place) = if nat_lt place procs then suc place else 0

-- The place that a rule asks first, given the number of processors, the place of the last event's actor, and a number
-- from the generator.
abbrev pub begin_by : Rule → ℕ → Option ℕ → ℕ → ℕ
begin_by InTurns procs last word = place_in_turn procs last
begin_by LeastFirst procs last word = 0
begin_by GreatestFirst procs last word = 0
begin_by KernelFirst procs last word = procs
begin_by (Seeded seed) procs last word = word % (procs + 1)

-- The generator of random numbers after a choice. A seeded rule takes one number for each choice, and other rules
-- take none.
abbrev pub generator_after : Rule → Lcg → Lcg
generator_after InTurns generator = generator
generator_after LeastFirst generator = generator
generator_after GreatestFirst generator = generator
generator_after KernelFirst generator = generator
generator_after (Seeded seed) generator = (pcg32 generator).1

-- The seed of a rule, or 0 if it has none.
abbrev pub seed_of : Rule → ℕ
seed_of InTurns = 0
seed_of LeastFirst = 0
seed_of GreatestFirst = 0
seed_of KernelFirst = 0
seed_of (Seeded seed) = seed

-- The chooser of a rule before the first choice.
abbrev pub first_chooser : Rule → Chooser
first_chooser rule = record { rule = rule; last = None; generator = started 64 multiplier_64 (seed_of rule) (increment_of 64 1) }

-- The chooser of a rule after it has chosen the actor at a place.
abbrev pub chooser_after : Chooser → ℕ → Chooser
chooser_after chooser place = record { rule = chooser.rule; last = Some place; generator = generator_after chooser.rule chooser.generator }

-- The place that a chooser asks first, given the number of processors.
abbrev pub begin_of : ℕ → Chooser → ℕ
begin_of procs chooser = begin_by chooser.rule procs chooser.last (pcg32 chooser.generator).0

-- The place of the actor that a chooser chooses, with the next event of that actor, or `None` if no actor has a next
-- event.
abbrev pub chosen : Flight → Places → (Word → ℕ) → Chooser → Option (ℕ × Event)
chosen m at words chooser = first_from (next_in_order m at words (is_backwards chooser.rule)) m.procs (begin_of m.procs chooser)
