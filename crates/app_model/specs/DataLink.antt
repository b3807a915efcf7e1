-- The data link's area after a frame in which it ran.
use Rattle.std.specs.Prelude.{ℕ, ℤ, pos, ◌-ℤ◌, ◌+ℤ◌, ◌==◌, List, [], ◌∷◌, if◌then◌else◌}
use Rattle.std.specs.Int.{int_min}
use Rattle.std.specs.Ordering.{int_eq}
use Rattle.app_model.specs.declared.seen.Seen.{Seen}
use Rattle.kind_table.specs.declared.kinds.autopilot.TheConstants as autopilot
use Rattle.kind_table.specs.declared.kinds.data_link.TheConstants.{DROPPED, FAST, KIND, QUEUED, SENT}
use Rattle.kind_table.specs.declared.kinds.every_kind.TheConstants.{STATUS}
use Rattle.kind_table.specs.declared.kinds.flight_control.TheConstants as flight_control
use Rattle.kind_table.specs.declared.kinds.navigator.TheConstants as navigator
use Rattle.kind_table.specs.declared.kinds.power_monitor.TheConstants as power_monitor
use Rattle.app_model.specs.Reads.{own_word, lead_word, ticks_after}

-- The number of new messages of kind `kind`: 1 if the status of its lowest-numbered application is 1, and 0
-- otherwise.
unfoldable pub fresh_of : ℕ → Seen → ℤ
fresh_of kind seen = if int_eq (lead_word kind seen STATUS) (pos 1) then pos 1 else pos 0

-- The number of new messages of kinds 0 to 3 in this frame.
unfoldable pub fresh : Seen → ℤ
fresh seen = ((fresh_of autopilot.KIND seen +ℤ fresh_of flight_control.KIND seen) +ℤ fresh_of power_monitor.KIND seen) +ℤ fresh_of navigator.KIND seen

-- The maximum number of messages sent in a frame: 4 in `fast`, and 1 in every other mode.
unfoldable pub rate_after : Seen → ℤ
rate_after seen = if seen.mode.0 == FAST then pos 4 else pos 1

-- The number of messages that wait before any message is sent.
unfoldable pub waiting : Seen → ℤ
waiting seen = own_word KIND seen QUEUED +ℤ fresh seen

-- The number of messages sent in this frame.
unfoldable pub going : Seen → ℤ
going seen = int_min (rate_after seen) (waiting seen)

-- The number of messages that are kept for the next frame, at most 64.
unfoldable pub queued_after : Seen → ℤ
queued_after seen = int_min (waiting seen -ℤ going seen) (pos 64)

-- The number of messages sent so far, counted up to 1,000,000.
unfoldable pub sent_after : Seen → ℤ
sent_after seen = int_min (own_word KIND seen SENT +ℤ going seen) (pos 1000000)

-- The number of messages that are dropped in this frame: they are not sent and find no room in the queue.
unfoldable pub left_over : Seen → ℤ
left_over seen = (waiting seen -ℤ going seen) -ℤ queued_after seen

-- The number of messages dropped so far, counted up to 1,000,000.
unfoldable pub dropped_after : Seen → ℤ
dropped_after seen = int_min (own_word KIND seen DROPPED +ℤ left_over seen) (pos 1000000)

-- The data link's area after a frame in which it ran.
unfoldable pub data_link_ran : Seen → List ℤ
data_link_ran seen = pos 1 ∷ queued_after seen ∷ sent_after seen ∷ rate_after seen ∷ dropped_after seen ∷ pos 0 ∷ ticks_after KIND seen ∷ pos 0 ∷ []
