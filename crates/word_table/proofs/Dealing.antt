-- The opening satisfies `Ruled`, the rule on the words and views of a table. Splits and joins keep the rule.
use Rattle.std.proofs.Common.{◌≡◌, ◌≢◌, ◌⊎◌, ℕ, zero, suc, ◌+◌, ◌<◌, ◌≤◌, Bool, true, false, refl, sym, ap, subst, ◌∙◌, inl, inr, arith, List, [], ◌∷◌, ◌++◌, length}
use Rattle.std.specs.Prelude.{Option, Some, None, nat_eq, if◌then◌else◌, slice_set}
use Rattle.std.proofs.lemmas.Bool.{eq-eqb}
use Rattle.std.proofs.lemmas.Bool.Decides.{nat_tests}
use Rattle.std.proofs.lemmas.Grind.{common_steps}
use mathlib.Core.Option.{some, some-injective, some-ne-none}
use native.Mathlib.Decide.{ℕ_discrete}
use lib.ListN.{get_elem?}
use Rattle.atomic_table.specs.Table.{State, Splits, Joins}
use Rattle.atomic_table.specs.Table as table
use Rattle.atomic_table.proofs.Lists.{at_last, at_longer, at_set, set_else}
use Rattle.coverage_check.specs.Missions.{MissionParts}
use Rattle.fail_stop.specs.Events.{IsStored, Places, Word}
use Rattle.fail_stop.specs.Flights.{Flight}
use Rattle.fail_stop.specs.Kept.{Kept, opening_places, opening_words}
use Rattle.fail_stop.specs.Listed.{stored_in, word_index_count}
use Rattle.fail_stop.proofs.Keeps.{opens}
use Rattle.fail_stop.proofs.Moves.{nat_eq_other}
use Rattle.word_table.specs.declared.actors.Actor.{Actor}
use Rattle.word_table.specs.declared.actors.View.{View}
use Rattle.word_table.specs.Actors.{mission_flight, who, with_actor, with_actors}
use Rattle.word_table.specs.Plays.{all_actors, first_actor, first_of, other_actors, others_of, spent}
use Rattle.word_table.specs.Rule.{AreApart, Hosts, IsActorOf, IsAmong, IsNotIn, IsViewOf, Ruled, first_view, opening_actors}
use Rattle.word_table.proofs.Seating.{IsSound, set_there, view_after, view_same}

opt_eq : Option ℕ → Option ℕ → Bool
opt_eq None None = true
opt_eq (Some a) (Some b) = nat_eq a b
opt_eq _ _ = false

opt_same : (o : Option ℕ) → opt_eq o o ≡ true
unfolding opt_eq
opt_same None = refl
opt_same (Some a) = grind (arith, nat_tests)

opt_other : (o q : Option ℕ) → o ≢ q → opt_eq o q ≡ false
unfolding opt_eq
opt_other None None n = absurd (n refl)
opt_other None (Some b) n = refl
opt_other (Some a) None n = refl
opt_other (Some a) (Some b) n = let d : a ≢ b = λ e. n (ap (λ (x : ℕ). Some x) e) in grind (arith, nat_tests)

-- The home of each actor, which is the view that contains it, after actor `o` has moved to view `n`. The homes of the
-- other actors are unchanged.
moved_home : (Option ℕ → ℕ) → Option ℕ → ℕ → Option ℕ → ℕ
moved_home home o n q = if opt_eq q o then n else home q

home_there : (home : Option ℕ → ℕ) (o : Option ℕ) (n : ℕ) → moved_home home o n o ≡ n
unfolding moved_home
home_there home o n = rw (opt_same o) refl

home_else : (home : Option ℕ → ℕ) (o : Option ℕ) (n : ℕ) (q : Option ℕ) → q ≢ o → moved_home home o n q ≡ home q
unfolding moved_home
home_else home o n q d = rw (opt_other q o d) refl

hosts_not : (at : Places) (home : Option ℕ → ℕ) (o : Option ℕ) (n j : ℕ) (l : List Actor) → IsNotIn o l → Hosts at home j l → Hosts at (moved_home home o n) j l
hosts_not at home o n j [] d h = tt
hosts_not at home o n j (a ∷ rest) d h = (home_else home o n (who a) d.0 ∙ h.0, h.1, hosts_not at home o n j rest d.1 h.2)

not_in_of : (at : Places) (home : Option ℕ → ℕ) (o : Option ℕ) (j : ℕ) (l : List Actor) → j ≢ home o → Hosts at home j l → IsNotIn o l
not_in_of at home o j [] n h = tt
not_in_of at home o j (a ∷ rest) n h = ((λ e. n (sym h.0 ∙ ap home e)), not_in_of at home o j rest n h.2)

at_end : (l : List View) (a b : View) (j : ℕ) → get_elem? (l ++ a ∷ []) j ≡ some b → ((j < length l) × (get_elem? l j ≡ some b)) ⊎ ((j ≡ length l) × (a ≡ b))
at_end [] a b zero e = inr (refl, some-injective a b e)
at_end [] a b (suc j) e = absurd (some-ne-none b (sym e))
at_end (x ∷ xs) a b zero e = inl (omega arith, e)
at_end (x ∷ xs) a b (suc j) e = end_more xs a b j (at_end xs a b j e)
  where
    end_more : (xs : List View) (a b : View) (j : ℕ) → ((j < length xs) × (get_elem? xs j ≡ some b)) ⊎ ((j ≡ length xs) × (a ≡ b)) → ((suc j < suc (length xs)) × (get_elem? xs j ≡ some b)) ⊎ ((suc j ≡ suc (length xs)) × (a ≡ b))
    end_more xs a b j (inl t) = inl (omega (arith, t.0), t.1)
    end_more xs a b j (inr t) = inr (ap (λ (z : ℕ). suc z) t.0, t.1)

long_views : (l : List View) (i : ℕ) (v : View) → length (slice_set l i v) ≡ length l
long_views l i v = grind (arith, common_steps)

differs_of : (q o : Option ℕ) (l : List Actor) → IsNotIn q l → IsAmong o l → o ≢ q
differs_of q o [] apart none = absurd none
differs_of q o (a ∷ rest) apart (inl is) = λ e. apart.0 (is ∙ e)
differs_of q o (a ∷ rest) apart (inr more) = differs_of q o rest apart.1 more

-- A split, which moves the first actor of a view to a new view, keeps the rule.
module _ (m : Flight) (mission : MissionParts) (id : ℕ) (v : View) (a : Actor) (rest : List Actor) (alone : v.actors ≡ a ∷ rest) (s : State (Unit {0}) View) (r : Ruled m mission s) (here : get_elem? s.views id ≡ some v) where
  hosted : Hosts r.at r.home id (a ∷ rest)
  hosted = rw alone at (r.each id v here)

  differ : AreApart (a ∷ rest)
  differ = rw alone at (r.apart id v here)

  planned_here : v.mission ≡ Some mission
  planned_here = r.planned id v here (λ n. let b : a ∷ rest ≡ [] = sym alone ∙ n in cc)

  module _ (n : ℕ) (is : length s.views ≡ n) where
    split_set : (j : ℕ) (u : View) → ((j ≡ id) × (with_actors v rest ≡ u)) ⊎ ((j ≢ id) × (get_elem? s.views j ≡ some u)) → Hosts r.at (moved_home r.home (who a) n) j u.actors
    split_set j u (inl t) = rw (← t.1, t.0) (hosts_not r.at r.home (who a) n id rest differ.0 hosted.2)
    split_set j u (inr t) = hosts_not r.at r.home (who a) n j u.actors (not_in_of r.at r.home (who a) j u.actors (λ e. t.0 (e ∙ hosted.0)) (r.each j u t.1)) (r.each j u t.1)

    split_each : (j : ℕ) (u : View) → ((j < length (slice_set s.views id (with_actors v rest))) × (get_elem? (slice_set s.views id (with_actors v rest)) j ≡ some u)) ⊎ ((j ≡ length (slice_set s.views id (with_actors v rest))) × (with_actor v a ≡ u)) → Hosts r.at (moved_home r.home (who a) n) j u.actors
    split_each j u (inl t) = split_set j u (at_set s.views id j (with_actors v rest) u t.1)
    split_each j u (inr t) =
        let e : j ≡ n = t.0 ∙ long_views s.views id (with_actors v rest) ∙ is in
        rw (← t.1, e) (home_there r.home (who a) n, hosted.1, tt)

    abbrev split_views : List View
    split_views = slice_set s.views id (with_actors v rest) ++ with_actor v a ∷ []

    split_left : (o : Option ℕ) → r.home o ≡ id → IsAmong o rest → IsViewOf split_views o (r.home o)
    split_left o same among = record {
      view = with_actors v rest;
      there = ap (λ k. get_elem? split_views k) same ∙ at_longer (slice_set s.views id (with_actors v rest)) (with_actor v a ∷ []) id (with_actors v rest) (set_there s.views id v (with_actors v rest) here);
      among = among;
    }

    split_new : (o : Option ℕ) → who a ≡ o → IsViewOf split_views o (moved_home r.home (who a) n o)
    split_new o same = record {
      view = with_actor v a;
      there =
          ap (λ k. get_elem? split_views k) (ap (moved_home r.home (who a) n) (sym same) ∙ home_there r.home (who a) n)
          ∙ at_last (slice_set s.views id (with_actors v rest)) (with_actor v a) n (long_views s.views id (with_actors v rest) ∙ is);
      among = inl same;
    }

    split_here : (o : Option ℕ) → r.home o ≡ id → IsAmong o (a ∷ rest) → IsViewOf split_views o (moved_home r.home (who a) n o)
    split_here o same (inl own) = split_new o own
    split_here o same (inr more) = subst (IsViewOf split_views o) (sym (home_else r.home (who a) n o (differs_of (who a) o rest differ.0 more))) (split_left o same more)

    split_viewed : (o : Option ℕ) → IsViewOf s.views o (r.home o) → Dec (r.home o ≡ id) → IsViewOf split_views o (moved_home r.home (who a) n o)
    split_viewed o had (yes d) =
        split_here o d (subst (λ (l : List Actor). IsAmong o l) alone (subst (λ (u : View). IsAmong o u.actors) (view_same s.views (r.home o) id had.view v d had.there here) had.among))
    split_viewed o had (no d) =
        let other : o ≢ who a = λ e. d (ap r.home e ∙ hosted.0) in
        subst (IsViewOf split_views o) (sym (home_else r.home (who a) n o other)) record {
          view = had.view;
          there = at_longer (slice_set s.views id (with_actors v rest)) (with_actor v a ∷ []) (r.home o) had.view (set_else s.views id (r.home o) (with_actors v rest) d ∙ had.there);
          among = had.among;
        }

  split_plan_set : (j : ℕ) (u : View) → ((j ≡ id) × (with_actors v rest ≡ u)) ⊎ ((j ≢ id) × (get_elem? s.views j ≡ some u)) → u.actors ≢ [] → u.mission ≡ Some mission
  split_plan_set j u (inl t) g = rw (← t.1) planned_here
  split_plan_set j u (inr t) g = r.planned j u t.1 g

  split_plan : (j : ℕ) (u : View) → ((j < length (slice_set s.views id (with_actors v rest))) × (get_elem? (slice_set s.views id (with_actors v rest)) j ≡ some u)) ⊎ ((j ≡ length (slice_set s.views id (with_actors v rest))) × (with_actor v a ≡ u)) → u.actors ≢ [] → u.mission ≡ Some mission
  split_plan j u (inl t) g = split_plan_set j u (at_set s.views id j (with_actors v rest) u t.1) g
  split_plan j u (inr t) g = rw (← t.1) planned_here

  split_apart_set : (j : ℕ) (u : View) → ((j ≡ id) × (with_actors v rest ≡ u)) ⊎ ((j ≢ id) × (get_elem? s.views j ≡ some u)) → AreApart u.actors
  split_apart_set j u (inl t) = rw (← t.1) differ.1
  split_apart_set j u (inr t) = r.apart j u t.1

  split_apart : (j : ℕ) (u : View) → ((j < length (slice_set s.views id (with_actors v rest))) × (get_elem? (slice_set s.views id (with_actors v rest)) j ≡ some u)) ⊎ ((j ≡ length (slice_set s.views id (with_actors v rest))) × (with_actor v a ≡ u)) → AreApart u.actors
  split_apart j u (inl t) = split_apart_set j u (at_set s.views id j (with_actors v rest) u t.1)
  split_apart j u (inr t) = rw (← t.1) (tt, tt)

  split_rule : Ruled m mission record { words = s.words; homes = s.homes; views = slice_set s.views id (with_actors v rest) ++ with_actor v a ∷ [] }
  split_rule = record {
    at = r.at;
    home = moved_home r.home (who a) (length s.views);
    long = r.long;
    kept = r.kept;
    each = λ j u g. split_each (length s.views) refl j u (at_end (slice_set s.views id (with_actors v rest)) (with_actor v a) u j g);
    planned = λ j u g. split_plan j u (at_end (slice_set s.views id (with_actors v rest)) (with_actor v a) u j g);
    apart = λ j u g. split_apart j u (at_end (slice_set s.views id (with_actors v rest)) (with_actor v a) u j g);
    has_view = λ o is. split_viewed (length s.views) refl o (r.has_view o is) (ℕ_discrete (r.home o) id);
  }

pub split_allows : (m : Flight) (mission : MissionParts) (id : ℕ) (v : View) (a : Actor) (rest : List Actor) → v.actors ≡ a ∷ rest → Splits {S = Unit {0}} (Ruled m mission) id v (other_actors v) (first_actor v)
split_allows m mission id v a rest alone =
    subst (λ (l : List Actor). Splits {S = Unit {0}} (Ruled m mission) id v (with_actors v (others_of l)) (with_actors v (first_of l))) (sym alone) (λ s r here. split_rule m mission id v a rest alone s r here)

-- Lemmas on a join, in which view `id` takes the actors of another view.
joined_home : (Option ℕ → ℕ) → ℕ → ℕ → Option ℕ → ℕ
joined_home home id other q = if nat_eq (home q) other then id else home q

join_to : (home : Option ℕ → ℕ) (id other : ℕ) (q : Option ℕ) → home q ≡ other → joined_home home id other q ≡ id
unfolding joined_home
join_to home id other q e = let b : nat_eq (home q) other ≡ true = eq-eqb (home q) other e in rw b refl

join_else : (home : Option ℕ → ℕ) (id other : ℕ) (q : Option ℕ) → home q ≢ other → joined_home home id other q ≡ home q
unfolding joined_home
join_else home id other q e = let b : nat_eq (home q) other ≡ false = nat_eq_other (home q) other e in rw b refl

hosts_to : (at : Places) (home : Option ℕ → ℕ) (id other : ℕ) (l : List Actor) → Hosts at home other l → Hosts at (joined_home home id other) id l
hosts_to at home id other [] h = tt
hosts_to at home id other (a ∷ rest) h = (join_to home id other (who a) h.0, h.1, hosts_to at home id other rest h.2)

hosts_else : (at : Places) (home : Option ℕ → ℕ) (id other j : ℕ) (l : List Actor) → j ≢ other → Hosts at home j l → Hosts at (joined_home home id other) j l
hosts_else at home id other j [] n h = tt
hosts_else at home id other j (a ∷ rest) n h = (join_else home id other (who a) (λ e. n (sym h.0 ∙ e)) ∙ h.0, h.1, hosts_else at home id other j rest n h.2)

hosts_append : (at : Places) (home : Option ℕ → ℕ) (j : ℕ) (l k : List Actor) → Hosts at home j l → Hosts at home j k → Hosts at home j (l ++ k)
hosts_append at home j [] k a b = b
hosts_append at home j (x ∷ l) k a b = (a.0, a.1, hosts_append at home j l k a.2 b)

not_append : (o : Option ℕ) (l k : List Actor) → IsNotIn o l → IsNotIn o k → IsNotIn o (l ++ k)
not_append o [] k a b = b
not_append o (x ∷ l) k a b = (a.0, not_append o l k a.1 b)

apart_append : (at : Places) (home : Option ℕ → ℕ) (id other : ℕ) (l k : List Actor) → other ≢ id → Hosts at home id l → Hosts at home other k → AreApart l → AreApart k → AreApart (l ++ k)
apart_append at home id other [] k n hl hk a b = b
apart_append at home id other (x ∷ l) k n hl hk a b =
    (not_append (who x) l k a.0 (not_in_of at home (who x) other k (λ e. n (e ∙ hl.0)) hk), apart_append at home id other l k n hl.2 hk a.1 b)

in_front : (o : Option ℕ) (l k : List Actor) → IsAmong o l → IsAmong o (l ++ k)
in_front o [] k none = absurd none
in_front o (a ∷ l) k (inl is) = inl is
in_front o (a ∷ l) k (inr more) = inr (in_front o l k more)

in_back : (o : Option ℕ) (l k : List Actor) → IsAmong o k → IsAmong o (l ++ k)
in_back o [] k among = among
in_back o (a ∷ l) k among = inr (in_back o l k among)

module _ (m : Flight) (mission : MissionParts) (id : ℕ) (v : View) (other : ℕ) (w : View) (some_actor : v.actors ≢ []) (s : State (Unit {0}) View) (r : Ruled m mission s) (here : get_elem? s.views id ≡ some v) (n : other ≢ id) (there : get_elem? s.views other ≡ some w) where
  hosts_both : Hosts r.at (joined_home r.home id other) id (v.actors ++ w.actors)
  hosts_both = hosts_append r.at (joined_home r.home id other) id v.actors w.actors (hosts_else r.at r.home id other id v.actors (λ e. n (sym e)) (r.each id v here)) (hosts_to r.at r.home id other w.actors (r.each other w there))

  join_inner : (j : ℕ) (u : View) → j ≢ other → ((j ≡ id) × (all_actors v w ≡ u)) ⊎ ((j ≢ id) × (get_elem? s.views j ≡ some u)) → Hosts r.at (joined_home r.home id other) j u.actors
  join_inner j u d (inl t) = rw (← t.1, t.0) hosts_both
  join_inner j u d (inr t) = hosts_else r.at r.home id other j u.actors d (r.each j u t.1)

  join_each : (j : ℕ) (u : View) → ((j ≡ other) × (spent ≡ u)) ⊎ ((j ≢ other) × (get_elem? (slice_set s.views id (all_actors v w)) j ≡ some u)) → Hosts r.at (joined_home r.home id other) j u.actors
  join_each j u (inl t) = rw (← t.1) tt
  join_each j u (inr t) = join_inner j u t.0 (at_set s.views id j (all_actors v w) u t.1)

  join_plan_inner : (j : ℕ) (u : View) → ((j ≡ id) × (all_actors v w ≡ u)) ⊎ ((j ≢ id) × (get_elem? s.views j ≡ some u)) → u.actors ≢ [] → u.mission ≡ Some mission
  join_plan_inner j u (inl t) g = rw (← t.1) (r.planned id v here some_actor)
  join_plan_inner j u (inr t) g = r.planned j u t.1 g

  join_plan : (j : ℕ) (u : View) → ((j ≡ other) × (spent ≡ u)) ⊎ ((j ≢ other) × (get_elem? (slice_set s.views id (all_actors v w)) j ≡ some u)) → u.actors ≢ [] → u.mission ≡ Some mission
  join_plan j u (inl t) g = absurd (g (ap (λ (z : View). z.actors) (sym t.1)))
  join_plan j u (inr t) g = join_plan_inner j u (at_set s.views id j (all_actors v w) u t.1) g

  join_apart_inner : (j : ℕ) (u : View) → ((j ≡ id) × (all_actors v w ≡ u)) ⊎ ((j ≢ id) × (get_elem? s.views j ≡ some u)) → AreApart u.actors
  join_apart_inner j u (inl t) = rw (← t.1) (apart_append r.at r.home id other v.actors w.actors n (r.each id v here) (r.each other w there) (r.apart id v here) (r.apart other w there))
  join_apart_inner j u (inr t) = r.apart j u t.1

  join_apart : (j : ℕ) (u : View) → ((j ≡ other) × (spent ≡ u)) ⊎ ((j ≢ other) × (get_elem? (slice_set s.views id (all_actors v w)) j ≡ some u)) → AreApart u.actors
  join_apart j u (inl t) = rw (← t.1) tt
  join_apart j u (inr t) = join_apart_inner j u (at_set s.views id j (all_actors v w) u t.1)

  abbrev join_views : List View
  join_views = slice_set (slice_set s.views id (all_actors v w)) other spent

  join_viewed : (o : Option ℕ) → IsViewOf s.views o (r.home o) → Dec (r.home o ≡ other) → IsViewOf join_views o (joined_home r.home id other o)
  join_viewed o had (yes d) = record {
    view = all_actors v w;
    there =
        ap (λ k. get_elem? join_views k) (join_to r.home id other o d)
        ∙ set_else (slice_set s.views id (all_actors v w)) other id spent (λ e. n (sym e)) ∙ set_there s.views id v (all_actors v w) here;
    among = in_back o v.actors w.actors (subst (λ (u : View). IsAmong o u.actors) (view_same s.views (r.home o) other had.view w d had.there there) had.among);
  }
  join_viewed o had (no d) =
      let first : IsViewOf (slice_set s.views id (all_actors v w)) o (r.home o) = view_after s.views id v (all_actors v w) here (λ q. in_front q v.actors w.actors) o (r.home o) had in
      subst (IsViewOf join_views o) (sym (join_else r.home id other o d)) record {
        view = first.view;
        there = set_else (slice_set s.views id (all_actors v w)) other (r.home o) spent d ∙ first.there;
        among = first.among;
      }

  join_rule : Ruled m mission record { words = s.words; homes = s.homes; views = slice_set (slice_set s.views id (all_actors v w)) other spent }
  join_rule = record {
    at = r.at;
    home = joined_home r.home id other;
    long = r.long;
    kept = r.kept;
    each = λ j u g. join_each j u (at_set (slice_set s.views id (all_actors v w)) other j spent u g);
    planned = λ j u g. join_plan j u (at_set (slice_set s.views id (all_actors v w)) other j spent u g);
    apart = λ j u g. join_apart j u (at_set (slice_set s.views id (all_actors v w)) other j spent u g);
    has_view = λ o is. join_viewed o (r.has_view o is) (ℕ_discrete (r.home o) other);
  }

was_there : (l : List View) (id other : ℕ) (b w : View) → other ≢ id → ((other ≡ id) × (b ≡ w)) ⊎ ((other ≢ id) × (get_elem? l other ≡ some w)) → get_elem? l other ≡ some w
was_there l id other b w n (inl t) = absurd (n t.0)
was_there l id other b w n (inr t) = t.1

pub join_allows : (m : Flight) (mission : MissionParts) (id : ℕ) (v : View) (other : ℕ) (w : View) → v.actors ≢ [] → Joins {S = Unit {0}} (Ruled m mission) id v other w (all_actors v w) spent
join_allows m mission id v other w some_actor = λ s r here n there.
    join_rule m mission id v other w some_actor s r here n (was_there s.views id other (all_actors v w) w n (at_set s.views id other (all_actors v w) w there))

-- Lemmas on the opening, in which the first view has all actors.
not_below : (k p n : ℕ) → k < p → IsNotIn (Some k) (opening_actors p n)
not_below k p zero low = ((λ e. cc), tt)
not_below k p (suc n) low = ((λ e. let same : p ≡ k = cc in omega (arith, low, same)), not_below k (suc p) n (omega (arith, low)))

opening_apart : (p n : ℕ) → AreApart (opening_actors p n)
opening_apart p zero = (tt, tt)
opening_apart p (suc n) = (not_below p (suc p) n (omega arith), opening_apart (suc p) n)

opening_hosted : (p n : ℕ) → Hosts opening_places (λ q. 0) 0 (opening_actors p n)
opening_hosted p zero = (refl, (refl, refl), tt)
opening_hosted p (suc n) = (refl, refl, opening_hosted (suc p) n)

kernel_in : (p n : ℕ) → IsAmong None (opening_actors p n)
kernel_in p zero = inl refl
kernel_in p (suc n) = inr (kernel_in (suc p) n)

processor_in : (q p n : ℕ) → p ≤ q → q < p + n → IsAmong (Some q) (opening_actors p n)
processor_in q p zero low high = absurd (omega (arith, low, high))
processor_in q p (suc n) low high = by_place (ℕ_discrete p q) (λ d. processor_in q (suc p) n (omega (arith, low, d)) (omega (arith, high)))
  where
    by_place : Dec (p ≡ q) → (p ≢ q → IsAmong (Some q) (opening_actors (suc p) n)) → IsAmong (Some q) (opening_actors p (suc n))
    by_place (yes d) later = inl (ap (λ (z : ℕ). Some z) d)
    by_place (no d) later = inr (later d)

opening_in : (m : Flight) (o : Option ℕ) → IsActorOf m o → IsAmong o (opening_actors 0 m.procs)
opening_in m None is = kernel_in 0 m.procs
opening_in m (Some p) low = processor_in p 0 m.procs (omega arith) (omega (arith, low))

one_view : (v u : View) (j : ℕ) → get_elem? (v ∷ []) j ≡ some u → (j ≡ 0) × (v ≡ u)
one_view v u zero e = (refl, some-injective v u e)
one_view v u (suc j) e = absurd (some-ne-none u (sym e))

module _ (mission : MissionParts) (list : List ℕ) (y : IsSound (mission_flight mission)) (long : length list ≡ word_index_count)
    (are : (w : Word) → IsStored (mission_flight mission) w → stored_in list w ≡ opening_words (mission_flight mission) w) where
  abbrev m : Flight
  m = mission_flight mission

  opened : Kept m opening_places (stored_in list)
  opened = let k : Kept m opening_places (opening_words m) = opens m y.flies in record { kernel = k.kernel; placed = k.placed; words_are = λ w l. are w l ∙ k.words_are w l }

  pub opening_rule : Ruled m mission (table.opening list [] (first_view mission))
  opening_rule = record {
    at = opening_places;
    home = λ q. 0;
    long = long;
    kept = opened;
    each = λ j u g. let o = one_view (first_view mission) u j g in
        subst (λ (w : View). Hosts opening_places (λ q. 0) j w.actors) o.1 (subst (λ (z : ℕ). Hosts opening_places (λ q. 0) z (first_view mission).actors) (sym o.0) (opening_hosted 0 m.procs));
    planned = λ j u g n. let o = one_view (first_view mission) u j g in rw (← o.1) refl;
    apart = λ j u g. let o = one_view (first_view mission) u j g in subst (λ (w : View). AreApart w.actors) o.1 (opening_apart 0 m.procs);
    has_view = λ o is. record { view = first_view mission; there = refl; among = opening_in m o is };
  }
