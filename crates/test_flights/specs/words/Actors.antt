-- The actors of a flight of two processors on a table of words.
use Rattle.std.specs.Prelude.{◌≡◌, length}
use Rattle.coverage_check.specs.Missions.{MissionParts}
use Rattle.word_table.specs.declared.tables.WordTable.{WordTable}
use Rattle.word_table.specs.Tables.{IsKernelSeatOf, mission_in, proc_of}
use Rattle.word_deck.specs.Crews.{IsCrewOf}
use Rattle.test_flights.specs.declared.words.crews.Actors.{Actors}
use Rattle.test_flights.specs.declared.words.crews.Pair.{Pair}

-- The pair has the two processors of a table of words, each of them between two turns.
pub record PairFits {X : Type 0} {Y : X → Type 0} (words : WordTable) (pair : Pair X Y) : Type 0 where
  pub two : length (mission_in words).spec.procs ≡ 2
  pub first_is : proc_of pair.first.seat ≡ 0
  pub second_is : proc_of pair.second.seat ≡ 1
  pub first_fits : IsCrewOf words pair.first
  pub second_fits : IsCrewOf words pair.second

-- The two processors and the kernel belong to a table of words of `mission`. Each of them is between two turns.
pub record ActorsFit {X : Type 0} {Y : X → Type 0} (words : WordTable) (mission : MissionParts) (actors : Actors X Y) : Type 0 where
  pub same : mission_in words ≡ mission
  pub flown : actors.kernel.mission.now ≡ mission
  pub kernel : IsKernelSeatOf words actors.kernel.kseat
  pub pair : PairFits words actors.pair
