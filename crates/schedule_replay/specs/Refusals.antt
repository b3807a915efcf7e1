-- The lines in which a schedule is refused.
use Rattle.std.specs.Prelude.{ℕ, List, ◌++◌, Option, Some, None, codes, decimal}
use Rattle.bank_words.specs.declared.events.Event.{Event}
use Rattle.scram_types.specs.Specification.{Parts}
use Rattle.schedule_replay.specs.declared.schedule_reading.ScheduleFault.{ScheduleFault}
use Rattle.schedule_replay.specs.Events.{event_text}

-- The text of an event in a line of a schedule, or `-` if there is no event.
abbrev pub event_or_dash : Parts → Option Event → List ℕ
event_or_dash spec (Some event) = event_text spec event
event_or_dash spec None = codes "-"

-- The refusal of a schedule's text that breaks a rule.
abbrev pub fault_line : ScheduleFault → List ℕ
fault_line fault = codes "refused: schedule rule " ++ decimal fault.rule ++ codes " at line " ++ decimal fault.line ++ codes "\n"

-- The refusal of an event that is not the next of its actor. It shows the event's index and the actor's next event.
abbrev pub illegal_line : Parts → ℕ → Event → Option Event → List ℕ
illegal_line spec index given next =
    codes "refused: schedule event " ++ decimal index ++ codes " " ++ event_text spec given ++ codes " next " ++ event_or_dash spec next ++ codes "\n"

-- The refusal of a schedule of `events` events that ends before the flight is over. It shows the event that would come
-- next.
abbrev pub short_line : Parts → ℕ → Event → List ℕ
short_line spec events next = codes "refused: schedule ends after " ++ decimal events ++ codes " events next " ++ event_text spec next ++ codes "\n"
