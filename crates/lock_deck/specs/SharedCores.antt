-- Drafts and snapshots of a mission, and the kinds of result of a turn.
use Rattle.std.specs.Prelude.{◌≡◌, ℕ, Bool, true, false}
use Rattle.coverage_check.specs.Missions.{MissionParts}
use Rattle.fail_stop.specs.declared.snapshots.Draft.{Draft}
use Rattle.fail_stop.specs.declared.snapshots.Snapshot.{Snapshot}
use Rattle.fail_stop.specs.Drafts.{IsSnapshot}
use Rattle.fail_stop.specs.Flights.{word_in}
use Rattle.fail_stop.specs.ScriptFlights.{draft_words}
use Rattle.frame_model.specs.Flights.{draft}
use Rattle.lock_deck.specs.declared.made.Made.{Made}
use Rattle.lock_deck.specs.declared.made.Made.TheVariants.{Nothing, Started, Moved, Saw, Done, Halted}

-- The draft `made` is the draft of processor `p` in frame `made.frame` of the mission.
abbrev pub IsDraftOf : MissionParts → ℕ → Draft → Type 0
IsDraftOf mission p made = made.image ≡ draft mission.spec mission.script p made.frame

-- The number is word `i` of the draft of processor `p` in frame `f` of the mission.
abbrev pub IsDraftWord : MissionParts → ℕ → ℕ → ℕ → ℕ → Type 0
IsDraftWord mission p f i word = word ≡ word_in (draft_words mission.spec mission.script p f) i

-- The snapshot is a snapshot of the mission in the frame of the snapshot's kernel image.
abbrev pub IsSnapshotOf : MissionParts → Snapshot → Type 0
IsSnapshotOf mission snap = IsSnapshot mission.spec mission.script snap.kernel.frame snap

-- If the result of a turn is a snapshot, then a condition holds for the snapshot.
abbrev pub IfSaw : Made → (Snapshot → Type 0) → Type 0
IfSaw Nothing Fact = Unit {0}
IfSaw Started Fact = Unit {0}
IfSaw Moved Fact = Unit {0}
IfSaw (Saw snap) Fact = Fact snap
IfSaw Done Fact = Unit {0}
IfSaw (Halted frame) Fact = Unit {0}

-- Whether the result of a turn is a start.
abbrev pub is_start : Made → Bool
is_start Nothing = false
is_start Started = true
is_start Moved = false
is_start (Saw snap) = false
is_start Done = false
is_start (Halted frame) = false

-- Whether the result of a turn is a halt.
abbrev pub is_halt : Made → Bool
is_halt Nothing = false
is_halt Started = false
is_halt Moved = false
is_halt (Saw snap) = false
is_halt Done = false
is_halt (Halted frame) = true
