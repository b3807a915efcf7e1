-- Lemmas on the effect of a step on a seat, given the mission and the actors of its view.
use Rattle.std.proofs.Common.{◌≡◌, ◌∙◌, ℕ, suc, ◌<◌, Bool, true, false, refl, ap, subst, arith, List, [], ◌∷◌, map}
use Rattle.std.specs.Prelude.{Option, Some, IfSome, nat_eq, nat_lt}
use Rattle.std.proofs.lemmas.Bool.Decides.{nat_tests}
use Rattle.coverage_check.specs.Missions.{MissionParts}
use Rattle.fail_stop.specs.Events.{At, Halted, Place, may_note}
use Rattle.fail_stop.specs.Flights.{Flight}
use Rattle.word_table.specs.declared.actors.Actor.{Actor}
use Rattle.word_table.specs.declared.actors.Actor.TheVariants.{Kernel, Runs}
use Rattle.word_table.specs.declared.actors.View.{View}
use Rattle.word_table.specs.Actors.{Waits, actor_at, awaited, begun, frame_awaited, mission_flight, one_more, with_actor, with_actors}
use Rattle.word_table.specs.Plays.{AwaitsEnd, AwaitsRelease, GoesOrTries, MovesIfWaiting, Has, IsFound, Sat, ShowsWord, StepsIf, IsAfterNote, IsAfterStart, can_note, each_actor, may_start, word_due}

pub third : {A B C : Type 0} → A × B × C → C
third t = t.2

pub second : {A B : Type 0} → A × B → B
second t = t.1

pub first : {A B : Type 0} → A × B → A
first t = t.0

pub shown_to : (mission : MissionParts) (v : View) (actors : List Actor) (i n : ℕ) → v.mission ≡ Some mission → v.actors ≡ actors → ShowsWord v i n → IsFound (mission_flight mission) actors i n
shown_to mission v actors i n planned alone shows =
    subst (λ (l : List Actor). IsFound (mission_flight mission) l i n) alone
    (subst (λ (o : Option MissionParts). IfSome o (λ mission. IsFound (mission_flight mission) v.actors i n)) planned shows)

-- A load confirms a store if and only if it finds the word to be stored.
module _ (mission : MissionParts) (v : View) (after : Sat) (n word : ℕ) (a : Actor) (planned : v.mission ≡ Some mission) (alone : v.actors ≡ a ∷ []) (due : word_due (mission_flight mission) (a ∷ []) ≡ word)
    (told : IfSome v.mission (λ mission. StepsIf (nat_eq n (word_due (mission_flight mission) v.actors)) v after)) where
  confirm_told : (b : Bool) → nat_eq n word ≡ b → StepsIf b v after
  confirm_told b is =
      let by_mission : StepsIf (nat_eq n (word_due (mission_flight mission) v.actors)) v after =
      subst (λ (o : Option MissionParts). IfSome o (λ mission. StepsIf (nat_eq n (word_due (mission_flight mission) v.actors)) v after)) planned told in
      let by_actors : StepsIf (nat_eq n (word_due (mission_flight mission) (a ∷ []))) v after =
      subst (λ (l : List Actor). StepsIf (nat_eq n (word_due (mission_flight mission) l)) v after) alone by_mission in
      subst (λ c. StepsIf c v after) is (subst (λ w. StepsIf (nat_eq n w) v after) due by_actors)

  pub unconfirmed : (n ≡ word → ⊥) → Has after v
  unconfirmed other = confirm_told false (grind (arith, nat_tests, other))

  pub confirmed : n ≡ word → Has after (each_actor one_more v)
  confirmed same = confirm_told true (grind (arith, nat_tests, same))

by_true : (b : Bool) (go : Actor → Actor) (v : View) (after : Sat) → b ≡ true → GoesOrTries b go v after → Has after (each_actor go v)
by_true true go v after is told = told
by_true false go v after is told = cc

awaited_at : (m : Flight) (p : ℕ) (x : Place) → awaited m (actor_at p x) ≡ frame_awaited m p x
awaited_at m p (At f n) = refl
awaited_at m p (Halted h) = refl

begun_at : (m : Flight) (p : ℕ) (x : Place) → begun m (actor_at p x) ≡ Runs p (frame_awaited m p x) 1
begun_at m p (At f n) = refl
begun_at m p (Halted h) = refl

awaits_at : (m : Flight) (p : ℕ) (x : Place) → Waits m p x → AwaitsRelease m 0 (actor_at p x ∷ [])
awaits_at m p (At f n) waits = (refl, waits)
awaits_at m p (Halted h) waits = (refl, waits)

module _ (mission : MissionParts) (v : View) (after : Sat) (n p : ℕ) (x : Place) (planned : v.mission ≡ Some mission) (alone : v.actors ≡ actor_at p x ∷ []) (waits : Waits (mission_flight mission) p x)
    (told : IfSome v.mission (λ mission. IsAfterStart (mission_flight mission) 0 n v after)) where
  abbrev m : Flight
  m = mission_flight mission

  start_told : GoesOrTries (nat_lt (frame_awaited m p x) n) (begun m) v after
  start_told =
      let by_mission : IsAfterStart m 0 n v after = subst (λ (o : Option MissionParts). IfSome o (λ mission. IsAfterStart (mission_flight mission) 0 n v after)) planned told in
      let by_actors : MovesIfWaiting (AwaitsRelease m 0 (actor_at p x ∷ [])) (nat_lt (awaited m (actor_at p x)) n) (begun m) v after =
      subst (λ (l : List Actor). MovesIfWaiting (AwaitsRelease m 0 l) (may_start m l n) (begun m) v after) alone by_mission in
      subst (λ f. GoesOrTries (nat_lt f n) (begun m) v after) (awaited_at m p x) (by_actors.0 (awaits_at m p x waits))

  pub start_made : frame_awaited m p x < n → after ≡ (with_actor v (Runs p (frame_awaited m p x) 1), [])
  start_made low =
      let ready : nat_lt (frame_awaited m p x) n ≡ true = grind (arith, nat_tests, low) in
      let has = by_true (nat_lt (frame_awaited m p x) n) (begun m) v after ready start_told in
      let view : after.0 ≡ with_actor v (Runs p (frame_awaited m p x) 1) = has.0 ∙ ap (λ (l : List Actor). with_actors v (map (begun m) l)) alone ∙ ap (with_actor v) (begun_at m p x) in
      both after view has.1
    where
      both : (s : Sat) {w : View} → s.0 ≡ w → s.1 ≡ [] → s ≡ (w, [])
      both (a, b) is empty = rw (is, empty) refl

-- If the kernel waits for the end of processor `p` and the end may be noted, it notes it.
pub note_made : (mission : MissionParts) (v : View) (after : Sat) (i n k p : ℕ) → v.mission ≡ Some mission → v.actors ≡ Kernel k p ∷ [] → AwaitsEnd (mission_flight mission) i (Kernel k p ∷ [])
    → may_note (mission_flight mission) p k n ≡ true → IfSome v.mission (λ mission. IsAfterNote (mission_flight mission) i n v after) → after.0.actors ≡ Kernel k (suc p) ∷ []
note_made mission v after i n k p planned alone awaits may told =
    let has = by_true (may_note (mission_flight mission) p k n) one_more v after may (by_actors.0 awaits) in
    ap (λ (w : View). w.actors) has.0 ∙ rw alone refl
  where
    by_mission : IsAfterNote (mission_flight mission) i n v after
    by_mission = subst (λ (o : Option MissionParts). IfSome o (λ mission. IsAfterNote (mission_flight mission) i n v after)) planned told

    by_actors : MovesIfWaiting (AwaitsEnd (mission_flight mission) i (Kernel k p ∷ [])) (may_note (mission_flight mission) p k n) one_more v after
    by_actors = subst (λ (l : List Actor). MovesIfWaiting (AwaitsEnd (mission_flight mission) i l) (can_note (mission_flight mission) l n) one_more v after) alone by_mission
