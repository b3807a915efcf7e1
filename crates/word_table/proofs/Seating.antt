-- A step of a seat keeps `Ruled`, the rule on the words and views of a table.
use Rattle.std.proofs.Common.{◌≡◌, ◌≢◌, ◌⊎◌, ℕ, zero, suc, ◌<◌, ◌≤◌, false, refl, sym, ap, subst, ◌∙◌, inl, inr, arith, List, [], ◌∷◌, map, length}
use Rattle.std.specs.Prelude.{Option, Some, None, IfSome, nat_eq, slice_index, slice_set}
use Rattle.std.proofs.lemmas.Grind.{common_steps}
use mathlib.Core.Option.{some, some-injective, some-ne-none}
use native.Mathlib.Decide.{ℕ_discrete}
use lib.ListN.{get_elem?}
use Rattle.scram_types.specs.Specification.{IsSpec}
use Rattle.bank_words.specs.declared.events.Event.{Event}
use Rattle.coverage_check.specs.Missions.{MissionParts}
use Rattle.fault_script.specs.Fits.{Fits}
use Rattle.atomic_table.specs.Table.{State, keeps, stepped}
use Rattle.atomic_table.proofs.Lists.{at_set, set_else, set_here}
use Rattle.fail_stop.specs.Events.{Place, At, Halted, Places, IsNext, writes, is_actor, moved, places_after, frame_after, step_after}
use Rattle.fail_stop.specs.Flights.{Flies, Flight}
use Rattle.fail_stop.specs.Listed.{HoldsWords, Moves, list_after, stored_in, word_index_count}
use Rattle.fail_stop.proofs.ListLaw.{list_keeps}
use Rattle.fail_stop.proofs.Moves.{nat_eq_other, nat_eq_self}
use Rattle.fail_stop.proofs.ScriptBorder.{script_flies}
use Rattle.word_table.specs.declared.actors.Actor.{Actor}
use Rattle.word_table.specs.declared.actors.Actor.TheVariants.{Runs, Stopped, Kernel}
use Rattle.word_table.specs.declared.actors.View.{View}
use Rattle.word_table.specs.Actors.{StandsAt, actor_at, mission_flight, who, with_actor, with_actors}
use Rattle.word_table.specs.Plays.{AllStand, IsFound, ShowsWord, each_actor}
use Rattle.word_table.specs.Rule.{AreApart, Hosts, IsAmong, IsViewOf, Ruled}

-- A flight meets the conditions of the law of events, and has at most 8 processors and at most 64 words in an image.
pub record IsSound (m : Flight) : Type 0 where
  pub flies : Flies m
  pub few : m.procs ≤ 8
  pub narrow : m.width ≤ 64

pub sound : (mission : MissionParts) → IsSpec mission.spec → Fits mission.spec mission.script → IsSound (mission_flight mission)
sound mission facts fits = record { flies = script_flies mission.spec mission.script fits; few = facts.procs_count.few; narrow = omega (arith, facts.apps_count.few) }

pub moves_so : (m : Flight) (at : Places) (e : Event) → Moves m at e (places_after m at e)
moves_so m at e = record { proc = λ q. refl; frame = refl; step = refl }

holds_words : (m : Flight) (list : List ℕ) → IsSound m → length list ≡ word_index_count → HoldsWords m list
holds_words m list y long = record { procs = y.few; width = y.narrow; long = long }

pub long_set : (l : List ℕ) (i n : ℕ) → length (slice_set l i n) ≡ length l
long_set l i n = grind (arith, common_steps)

pub set_same : (l : List ℕ) (i : ℕ) → slice_set l i (slice_index l i) ≡ l
set_same [] i = refl
set_same (x ∷ xs) zero = refl
set_same (x ∷ xs) (suc i) = ap (λ (z : List ℕ). x ∷ z) (set_same xs i)

pub who_at : (p : ℕ) (x : Place) → who (actor_at p x) ≡ Some p
who_at p (At f n) = refl
who_at p (Halted h) = refl

pub stand_of : (at : Places) (p : ℕ) (x : Place) → StandsAt at (actor_at p x) → at.proc p ≡ x
stand_of at p (At f n) h = h
stand_of at p (Halted h) s = s

pub stand_at : (at : Places) (p : ℕ) (x : Place) → at.proc p ≡ x → StandsAt at (actor_at p x)
stand_at at p (At f n) h = h
stand_at at p (Halted h) s = s

proc_still : (m : Flight) (at : Places) (e : Event) (p q : ℕ) (x : Place) → ((r : ℕ) → is_actor e r ≡ nat_eq r p) → Some q ≢ Some p → at.proc q ≡ x → (places_after m at e).proc q ≡ x
proc_still m at e p q x c n h = rw (c q, nat_eq_other q p (λ i. n (ap (λ (z : ℕ). Some z) i))) h

-- An event of processor `p` leaves every other actor at its place.
stands_still : (m : Flight) (at : Places) (e : Event) (p : ℕ) (a : Actor) → ((q : ℕ) → is_actor e q ≡ nat_eq q p) → frame_after at e ≡ at.frame → step_after at e ≡ at.step → who a ≢ Some p → StandsAt at a → StandsAt (places_after m at e) a
stands_still m at e p (Runs q f n) c fr st d h = proc_still m at e p q (At f n) c d h
stands_still m at e p (Stopped q g) c fr st d h = proc_still m at e p q (Halted g) c d h
stands_still m at e p (Kernel k j) c fr st d h = (fr ∙ h.0, st ∙ h.1)

hosts_still : (m : Flight) (at : Places) (e : Event) (p : ℕ) (home : Option ℕ → ℕ) (j : ℕ) (l : List Actor) → ((q : ℕ) → is_actor e q ≡ nat_eq q p) → frame_after at e ≡ at.frame → step_after at e ≡ at.step
    → j ≢ home (Some p) → Hosts at home j l → Hosts (places_after m at e) home j l
hosts_still m at e p home j [] c fr st n h = tt
hosts_still m at e p home j (a ∷ rest) c fr st n h = (h.0, stands_still m at e p a c fr st (λ i. n (sym h.0 ∙ ap home i)) h.1, hosts_still m at e p home j rest c fr st n h.2)

one_apart : (s : State (Unit {0}) View) (id : ℕ) (w : View) → AreApart w.actors → ((j : ℕ) (v : View) → get_elem? s.views j ≡ some v → AreApart v.actors)
    → (j : ℕ) (u : View) → ((j ≡ id) × (w ≡ u)) ⊎ ((j ≢ id) × (get_elem? s.views j ≡ some u)) → AreApart u.actors
one_apart s id w a r j u (inl b) = rw (← b.1) a
one_apart s id w a r j u (inr b) = r j u b.1

within : (l : List View) (i : ℕ) (v : View) → get_elem? l i ≡ some v → i < length l
within [] i v there = absurd (some-ne-none v (sym there))
within (x ∷ l) zero v there = omega arith
within (x ∷ l) (suc i) v there = let low = within l i v there in omega (arith, low)

pub view_same : (views : List View) (i j : ℕ) (v w : View) → i ≡ j → get_elem? views i ≡ some v → get_elem? views j ≡ some w → v ≡ w
view_same views i j v w same there here = some-injective v w (sym there ∙ ap (λ k. get_elem? views k) same ∙ here)

pub set_there : (views : List View) (id : ℕ) (v w : View) → get_elem? views id ≡ some v → get_elem? (slice_set views id w) id ≡ some w
set_there views id v w here = set_here views id w (within views id v here)

-- If a view is replaced by one that has at least its actors, each actor is still in the view in which it was.
pub view_after : (views : List View) (id : ℕ) (v w : View) → get_elem? views id ≡ some v → ((o : Option ℕ) → IsAmong o v.actors → IsAmong o w.actors) → (o : Option ℕ) (j : ℕ) → IsViewOf views o j → IsViewOf (slice_set views id w) o j
view_after views id v w here stays o j is = by_place (ℕ_discrete j id)
  where
    by_place : Dec (j ≡ id) → IsViewOf (slice_set views id w) o j
    by_place (yes d) = record {
      view = w;
      there = ap (λ k. get_elem? (slice_set views id w) k) d ∙ set_there views id v w here;
      among = stays o (subst (λ (u : View). IsAmong o u.actors) (view_same views j id is.view v d is.there here) is.among);
    }
    by_place (no d) = record { view = is.view; there = set_else views id j w d ∙ is.there; among = is.among }

pub one_moved : (v : View) (a b : Actor) → v.actors ≡ a ∷ [] → who a ≡ who b → (o : Option ℕ) → IsAmong o v.actors → IsAmong o (b ∷ [])
one_moved v a b alone same o is = by_actor (subst (λ (l : List Actor). IsAmong o l) alone is)
  where
    by_actor : IsAmong o (a ∷ []) → IsAmong o (b ∷ [])
    by_actor (inl here) = inl (sym same ∙ here)
    by_actor (inr none) = inr none

pub alone_moved : (v : View) (a : Actor) (go : Actor → Actor) → v.actors ≡ a ∷ [] → with_actor v (go a) ≡ each_actor go v
alone_moved v a go alone = ap (λ (l : List Actor). with_actors v (map go l)) (sym alone)

module _ (m : Flight) (mission : MissionParts) (s : State (Unit {0}) View) (id : ℕ) (v : View) (y : IsSound m) (r : Ruled m mission s) (here : get_elem? s.views id ≡ some v) where
  -- An event of processor `p`, made by the seat of `p`, keeps the rule.
  module _ (p : ℕ) (x : Place) (alone : v.actors ≡ actor_at p x ∷ []) where
    hosted : Hosts r.at r.home id (actor_at p x ∷ [])
    hosted = rw alone at (r.each id v here)

    at_home : r.home (Some p) ≡ id
    at_home = ap r.home (sym (who_at p x)) ∙ hosted.0

    pub stands : r.at.proc p ≡ x
    stands = stand_of r.at p x hosted.1

    has_mission : v.mission ≡ Some mission
    has_mission = r.planned id v here (λ n. let b : actor_at p x ∷ [] ≡ [] = sym alone ∙ n in cc)

    module _ (e : Event) (c : (q : ℕ) → is_actor e q ≡ nat_eq q p) (fr : frame_after r.at e ≡ r.at.frame) (st : step_after r.at e ≡ r.at.step) (i n : ℕ) (next : IsNext m r.at (stored_in s.words) e)
        (put : slice_set s.words i n ≡ list_after s.words (writes m r.at (stored_in s.words) e)) where
      stands_after : StandsAt (places_after m r.at e) (actor_at p (moved m e p x))
      stands_after = stand_at (places_after m r.at e) p (moved m e p x) (rw (c p, nat_eq_self p) (ap (λ (z : Place). moved m e p z) stands))

      each_after : (j : ℕ) (w : View) → ((j ≡ id) × (with_actor v (actor_at p (moved m e p x)) ≡ w)) ⊎ ((j ≢ id) × (get_elem? s.views j ≡ some w)) → Hosts (places_after m r.at e) r.home j w.actors
      each_after j w (inl a) = rw (← a.1, a.0) (ap r.home (who_at p (moved m e p x)) ∙ at_home, stands_after, tt)
      each_after j w (inr b) = hosts_still m r.at e p r.home j w.actors c fr st (λ q. b.0 (q ∙ at_home)) (r.each j w b.1)

      plan_after : (j : ℕ) (w : View) → ((j ≡ id) × (with_actor v (actor_at p (moved m e p x)) ≡ w)) ⊎ ((j ≢ id) × (get_elem? s.views j ≡ some w)) → w.actors ≢ [] → w.mission ≡ Some mission
      plan_after j w (inl a) g = rw (← a.1) has_mission
      plan_after j w (inr b) g = r.planned j w b.1 g

      ruled_after : Ruled m mission (stepped s i n id [] (with_actor v (actor_at p (moved m e p x))) keeps)
      ruled_after = record {
        at = places_after m r.at e;
        home = r.home;
        long = long_set s.words i n ∙ r.long;
        kept = rw put (list_keeps m r.at s.words e (places_after m r.at e) y.flies (holds_words m s.words y r.long) r.kept next (moves_so m r.at e));
        each = λ j w g. each_after j w (at_set s.views id j (with_actor v (actor_at p (moved m e p x))) w g);
        planned = λ j w g. plan_after j w (at_set s.views id j (with_actor v (actor_at p (moved m e p x))) w g);
        apart = λ j w g. one_apart s id (with_actor v (actor_at p (moved m e p x))) (tt, tt) r.apart j w (at_set s.views id j (with_actor v (actor_at p (moved m e p x))) w g);
        has_view = λ o is. view_after s.views id v (with_actor v (actor_at p (moved m e p x))) here (one_moved v (actor_at p x) (actor_at p (moved m e p x)) alone (who_at p x ∙ sym (who_at p (moved m e p x)))) o (r.home o) (r.has_view o is);
      }

      pub stepped_by : (go : Actor → Actor) → go (actor_at p x) ≡ actor_at p (moved m e p x) → Ruled m mission (stepped s i n id [] (each_actor go v) keeps)
      stepped_by go is =
          subst (λ (w : View). Ruled m mission (stepped s i n id [] w keeps)) (ap (with_actor v) (sym is) ∙ alone_moved v (actor_at p x) go alone) ruled_after

  -- An event of the kernel, made by the kernel's seat, keeps the rule.
  module _ (k j : ℕ) (alone : v.actors ≡ Kernel k j ∷ []) where
    kernel_hosted : Hosts r.at r.home id (Kernel k j ∷ [])
    kernel_hosted = rw alone at (r.each id v here)

    pub kernel_stands : (r.at.frame ≡ k) × (r.at.step ≡ j)
    kernel_stands = kernel_hosted.1

    kernel_mission : v.mission ≡ Some mission
    kernel_mission = r.planned id v here (λ n. let b : Kernel k j ∷ [] ≡ [] = sym alone ∙ n in cc)

    module _ (e : Event) (c : (q : ℕ) → is_actor e q ≡ false) (k2 j2 : ℕ) (fr : frame_after r.at e ≡ k2) (st : step_after r.at e ≡ j2) (i n : ℕ) (next : IsNext m r.at (stored_in s.words) e)
        (put : slice_set s.words i n ≡ list_after s.words (writes m r.at (stored_in s.words) e)) where
      others_still : (a : Actor) → who a ≢ None → StandsAt r.at a → StandsAt (places_after m r.at e) a
      others_still (Runs q f t) d h = rw (c q) h
      others_still (Stopped q g) d h = rw (c q) h
      others_still (Kernel a b) d h = absurd (d refl)

      others_hosted : (q : ℕ) (l : List Actor) → q ≢ r.home None → Hosts r.at r.home q l → Hosts (places_after m r.at e) r.home q l
      others_hosted q [] d h = tt
      others_hosted q (a ∷ rest) d h = (h.0, others_still a (λ o. d (sym h.0 ∙ ap r.home o)) h.1, others_hosted q rest d h.2)

      kernel_each : (q : ℕ) (w : View) → ((q ≡ id) × (with_actor v (Kernel k2 j2) ≡ w)) ⊎ ((q ≢ id) × (get_elem? s.views q ≡ some w)) → Hosts (places_after m r.at e) r.home q w.actors
      kernel_each q w (inl a) = rw (← a.1, a.0) (kernel_hosted.0, (fr, st), tt)
      kernel_each q w (inr b) = others_hosted q w.actors (λ z. b.0 (z ∙ kernel_hosted.0)) (r.each q w b.1)

      kernel_plan : (q : ℕ) (w : View) → ((q ≡ id) × (with_actor v (Kernel k2 j2) ≡ w)) ⊎ ((q ≢ id) × (get_elem? s.views q ≡ some w)) → w.actors ≢ [] → w.mission ≡ Some mission
      kernel_plan q w (inl a) g = rw (← a.1) kernel_mission
      kernel_plan q w (inr b) g = r.planned q w b.1 g

      kernel_ruled : Ruled m mission (stepped s i n id [] (with_actor v (Kernel k2 j2)) keeps)
      kernel_ruled = record {
        at = places_after m r.at e;
        home = r.home;
        long = long_set s.words i n ∙ r.long;
        kept = rw put (list_keeps m r.at s.words e (places_after m r.at e) y.flies (holds_words m s.words y r.long) r.kept next (moves_so m r.at e));
        each = λ q w g. kernel_each q w (at_set s.views id q (with_actor v (Kernel k2 j2)) w g);
        planned = λ q w g. kernel_plan q w (at_set s.views id q (with_actor v (Kernel k2 j2)) w g);
        apart = λ q w g. one_apart s id (with_actor v (Kernel k2 j2)) (tt, tt) r.apart q w (at_set s.views id q (with_actor v (Kernel k2 j2)) w g);
        has_view = λ o is. view_after s.views id v (with_actor v (Kernel k2 j2)) here (one_moved v (Kernel k j) (Kernel k2 j2) alone refl) o (r.home o) (r.has_view o is);
      }

      pub kernel_by : (go : Actor → Actor) → go (Kernel k j) ≡ Kernel k2 j2 → Ruled m mission (stepped s i n id [] (each_actor go v) keeps)
      kernel_by go is = subst (λ (w : View). Ruled m mission (stepped s i n id [] w keeps)) (ap (with_actor v) (sym is) ∙ alone_moved v (Kernel k j) go alone) kernel_ruled

  -- A load that is not an event keeps the rule.
  module _ (w : View) (i : ℕ) (same : w.actors ≡ v.actors) (plan : w.mission ≡ v.mission) where
    load_each : (j : ℕ) (u : View) → ((j ≡ id) × (w ≡ u)) ⊎ ((j ≢ id) × (get_elem? s.views j ≡ some u)) → Hosts r.at r.home j u.actors
    load_each j u (inl a) = rw (← a.1, a.0, same) (r.each id v here)
    load_each j u (inr b) = r.each j u b.1

    load_plan : (j : ℕ) (u : View) → ((j ≡ id) × (w ≡ u)) ⊎ ((j ≢ id) × (get_elem? s.views j ≡ some u)) → u.actors ≢ [] → u.mission ≡ Some mission
    load_plan j u (inl a) g = rw (← a.1) (plan ∙ r.planned id v here (λ n. g (ap (λ (z : View). z.actors) (sym a.1) ∙ same ∙ n)))
    load_plan j u (inr b) g = r.planned j u b.1 g

    pub loaded : Ruled m mission (stepped s i (slice_index s.words i) id [] w keeps)
    loaded = record {
      at = r.at;
      home = r.home;
      long = long_set s.words i (slice_index s.words i) ∙ r.long;
      kept = rw (set_same s.words i) r.kept;
      each = λ j u g. load_each j u (at_set s.views id j w u g);
      planned = λ j u g. load_plan j u (at_set s.views id j w u g);
      apart = λ j u g. one_apart s id w (rw same (r.apart id v here)) r.apart j u (at_set s.views id j w u g);
      has_view = λ o is. view_after s.views id v w here (λ q among. subst (λ (l : List Actor). IsAmong q l) (sym same) among) o (r.home o) (r.has_view o is);
    }

pub all_stand : (at : Places) (home : Option ℕ → ℕ) (j : ℕ) (l : List Actor) → Hosts at home j l → AllStand at l
all_stand at home j [] h = tt
all_stand at home j (a ∷ rest) h = (h.1, all_stand at home j rest h.2)

-- A load finds a word that the view of its seat may find.
pub shown : (mission : MissionParts) (s : State (Unit {0}) View) (id : ℕ) (v : View) (i : ℕ) → Ruled (mission_flight mission) mission s → get_elem? s.views id ≡ some v → v.mission ≡ Some mission → ShowsWord v i (slice_index s.words i)
shown mission s id v i r here planned =
    subst (λ (o : Option MissionParts). IfSome o (λ mission. IsFound (mission_flight mission) v.actors i (slice_index s.words i))) (sym planned)
    (record { at = r.at; list = s.words; kept = r.kept; value = refl; stand = all_stand r.at r.home id v.actors (r.each id v here) })
