-- The rule of the table, which relates its words and views.
use Rattle.std.specs.Prelude.{◌≡◌, ◌≢◌, ◌⊎◌, ◌<◌, ℕ, zero, suc, List, [], ◌∷◌, length, Option, Some, None}
use mathlib.Core.Option.{some}
use lib.ListN.{get_elem?}
use Rattle.atomic_table.specs.Table.{State}
use Rattle.coverage_check.specs.Missions.{MissionParts}
use Rattle.fail_stop.specs.Events.{Places}
use Rattle.fail_stop.specs.Flights.{Flight}
use Rattle.fail_stop.specs.Kept.{Kept}
use Rattle.fail_stop.specs.Listed.{stored_in, word_index_count}
use Rattle.word_table.specs.declared.actors.Actor.{Actor}
use Rattle.word_table.specs.declared.actors.Actor.TheVariants.{Runs, Kernel}
use Rattle.word_table.specs.declared.actors.View.{View}
use Rattle.word_table.specs.Actors.{StandsAt, mission_flight, who}

-- Each actor of a list has view `j` as its home, and is at its place in `at`.
abbrev pub Hosts : Places → (Option ℕ → ℕ) → ℕ → List Actor → Type 0
Hosts at home j [] = Unit {0}
Hosts at home j (a ∷ rest) = (home (who a) ≡ j) × StandsAt at a × Hosts at home j rest

-- No actor of a list is actor `o`, which is the number of a processor or `None` for the kernel.
abbrev pub IsNotIn : Option ℕ → List Actor → Type 0
IsNotIn o [] = Unit {0}
IsNotIn o (a ∷ rest) = (who a ≢ o) × IsNotIn o rest

-- The actors of a list are all different.
abbrev pub AreApart : List Actor → Type 0
AreApart [] = Unit {0}
AreApart (a ∷ rest) = IsNotIn (who a) rest × AreApart rest

-- Some actor of a list is actor `o`, which is the number of a processor or `None` for the kernel.
abbrev pub IsAmong : Option ℕ → List Actor → Type 0
IsAmong o [] = ⊥
IsAmong o (a ∷ rest) = (who a ≡ o) ⊎ IsAmong o rest

-- An actor belongs to a flight: it is the kernel or one of the flight's processors.
abbrev pub IsActorOf : Flight → Option ℕ → Type 0
IsActorOf m (Some p) = p < m.procs
IsActorOf m None = Unit {0}

-- View `j` exists and has actor `o`.
pub record IsViewOf (views : List View) (o : Option ℕ) (j : ℕ) : Type 0 where
  pub view : View
  pub there : get_elem? views j ≡ some view
  pub among : IsAmong o view.actors

-- The rule for a flight and its mission. The law of events holds for the words and for the places of the actors. Each
-- actor of the flight is at its place and in exactly one view, its home. Each view with an actor contains the
-- mission.
pub record Ruled (m : Flight) (mission : MissionParts) (s : State (Unit {0}) View) : Type 0 where
  pub at : Places
  pub home : Option ℕ → ℕ
  pub long : length s.words ≡ word_index_count
  pub kept : Kept m at (stored_in s.words)
  pub each : (j : ℕ) (v : View) → get_elem? s.views j ≡ some v → Hosts at home j v.actors
  pub planned : (j : ℕ) (v : View) → get_elem? s.views j ≡ some v → v.actors ≢ [] → v.mission ≡ Some mission
  pub apart : (j : ℕ) (v : View) → get_elem? s.views j ≡ some v → AreApart v.actors
  pub has_view : (o : Option ℕ) → IsActorOf m o → IsViewOf s.views o (home o)

-- The rule for the table of a mission.
abbrev pub IsRuled : MissionParts → State (Unit {0}) View → Type 0
IsRuled mission s = Ruled (mission_flight mission) mission s

-- The kernel and the `n` processors from `p` on, each at its opening place. The kernel is last.
abbrev pub opening_actors : ℕ → ℕ → List Actor
opening_actors p zero = Kernel 0 0 ∷ []
opening_actors p (suc n) = Runs p 0 0 ∷ opening_actors (suc p) n

-- The view of the first seat, which has all actors.
abbrev pub first_view : MissionParts → View
first_view mission = record { mission = Some mission; tries = 0; actors = opening_actors 0 (length mission.spec.procs) }
