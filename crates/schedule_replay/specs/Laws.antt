-- The law that a list of events has only one answer apart from out of memory.
use Rattle.std.specs.Prelude.{◌≡◌, ◌≢◌, List, Result, Err}
use Rattle.bank_words.specs.declared.events.Event.{Event}
use Rattle.scram_types.specs.Scripts.{ScriptParts}
use Rattle.scram_types.specs.Specification.{Parts}
use Rattle.scram_types.specs.declared.rows.Flown.{Flown}
use Rattle.schedule_replay.specs.declared.replays.ReplayError.{ReplayError}
use Rattle.schedule_replay.specs.declared.replays.ReplayError.TheVariants.{NoMemory}
use Rattle.schedule_replay.specs.Replaying.{AnswersReplay}

-- Any two answers to a list of events, neither of which is out of memory, are the same.
abbrev pub OneAnswer : Type 0
OneAnswer = (spec : Parts) (script : ScriptParts) (list : List Event) → (one other : Result Flown ReplayError)
    → one ≢ Err NoMemory → other ≢ Err NoMemory → AnswersReplay spec script list one → AnswersReplay spec script list other → one ≡ other
