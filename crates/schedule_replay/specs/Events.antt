-- The events of a specification, and their text.
use Rattle.std.specs.Prelude.{ℕ, ◌<◌, List, [], ◌∷◌, ◌++◌, length, codes, decimal, ⊤}
use Rattle.scram_types.specs.Specification.{Each, Parts}
use Rattle.scram_types.specs.Lookups.{proc_name}
use Rattle.bank_words.specs.declared.events.Event.{Event}
use Rattle.bank_words.specs.declared.events.Event.TheVariants.{Start, Look, Store, Flip, Done, Halt, KNote, KStore, Release}
use Rattle.fault_script.specs.Times.{words as width_of}

-- The specification has the event: its processors exist, a `Store` has the index of a word of an image, and a
-- `KStore` has the index of one of the kernel's 20 words.
abbrev pub HasEvent : Parts → Event → Type 0
HasEvent spec (Start p) = p.0 < length spec.procs
HasEvent spec (Look p q) = (p.0 < length spec.procs) × (q.0 < length spec.procs)
HasEvent spec (Store p i) = (p.0 < length spec.procs) × (i < width_of spec)
HasEvent spec (Flip p) = p.0 < length spec.procs
HasEvent spec (Done p) = p.0 < length spec.procs
HasEvent spec (Halt p) = p.0 < length spec.procs
HasEvent spec (KNote p) = p.0 < length spec.procs
HasEvent spec (KStore i) = i < 20
HasEvent spec Release = ⊤

-- The specification has each event of a list.
abbrev pub HasEvents : Parts → List Event → Type 0
HasEvents spec events = Each (HasEvent spec) events

-- The text of an event in a line of a schedule.
abbrev pub event_text : Parts → Event → List ℕ
event_text spec (Start p) = codes "start " ++ proc_name spec p.0
event_text spec (Look p q) = codes "look " ++ proc_name spec p.0 ++ codes " " ++ proc_name spec q.0
event_text spec (Store p i) = codes "store " ++ proc_name spec p.0 ++ codes " " ++ decimal i
event_text spec (Flip p) = codes "flip " ++ proc_name spec p.0
event_text spec (Done p) = codes "done " ++ proc_name spec p.0
event_text spec (Halt p) = codes "halt " ++ proc_name spec p.0
event_text spec (KNote p) = codes "note " ++ proc_name spec p.0
event_text spec (KStore i) = codes "kstore " ++ decimal i
event_text spec Release = codes "release"

-- The line of an event, with its line feed.
abbrev pub event_line : Parts → Event → List ℕ
event_line spec event = event_text spec event ++ codes "\n"

-- The text of a schedule, with a line for each event, in order.
abbrev pub schedule_text : Parts → List Event → List ℕ
schedule_text spec [] = []
schedule_text spec (event ∷ events) = event_line spec event ++ schedule_text spec events
