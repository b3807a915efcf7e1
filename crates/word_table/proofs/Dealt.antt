-- Lemmas on the seats that an opening deals.
use Rattle.std.proofs.Common.{◌≡◌, ◌⊎◌, ◌∙◌, ℕ, zero, suc, ◌+◌, ◌-◌, ◌<◌, refl, sym, ap, inl, inr, arith, List, [], ◌∷◌, ◌++◌, length}
use Rattle.std.specs.Prelude.{Some, slice_get}
use Rattle.coverage_check.specs.Missions.{MissionParts}
use Rattle.fail_stop.specs.Events.{At}
use Rattle.word_table.specs.declared.actors.Actor.{Actor}
use Rattle.word_table.specs.declared.actors.Actor.TheVariants.{Runs}
use Rattle.word_table.specs.declared.actors.View.{View}
use Rattle.word_table.specs.declared.seats.Seat.{Seat}
use Rattle.word_table.specs.declared.tables.WordTable.{WordTable}
use Rattle.word_table.specs.Actors.{with_actors}
use Rattle.word_table.specs.Keeping.{IsFlown}
use Rattle.word_table.specs.Plays.{Sat, first_actor, first_of, other_actors, others_of}
use Rattle.word_table.specs.Rule.{first_view, opening_actors}
use Rattle.word_table.specs.Tables.{IsSeatOf, mission_in, seat_place, proc_of}

-- The list holds the seats of the first processors, each at its opening place.
pub record AreDealt (words : WordTable) (seats : List Seat) : Type 0 where
  pub each : (p : ℕ) (seat : Seat) → slice_get seats p ≡ Some seat → IsSeatOf words seat × (proc_of seat ≡ p) × (seat_place seat ≡ At 0 0)

at_end : (l : List Seat) (a b : Seat) (j : ℕ) → slice_get (l ++ a ∷ []) j ≡ Some b → (slice_get l j ≡ Some b) ⊎ ((j ≡ length l) × (a ≡ b))
at_end [] a b zero there = inr (refl, cc)
at_end [] a b (suc j) there = absurd (let e = there in cc)
at_end (x ∷ l) a b zero there = inl there
at_end (x ∷ l) a b (suc j) there = end_more (at_end l a b j there)
  where
    end_more : (slice_get l j ≡ Some b) ⊎ ((j ≡ length l) × (a ≡ b)) → (slice_get (x ∷ l) (suc j) ≡ Some b) ⊎ ((suc j ≡ length (x ∷ l)) × (a ≡ b))
    end_more (inl t) = inl t
    end_more (inr t) = inr (ap (λ (z : ℕ). suc z) t.0, t.1)

pub one_dealt : (words : WordTable) (seats : List Seat) (x : Seat) → AreDealt words seats → IsSeatOf words x → proc_of x ≡ length seats → seat_place x ≡ At 0 0 → AreDealt words (seats ++ x ∷ [])
one_dealt words seats x dealt is own place = record { each = λ p seat there. by_end p seat (at_end seats x seat p there) }
  where
    by_end : (p : ℕ) (seat : Seat) → (slice_get seats p ≡ Some seat) ⊎ ((p ≡ length seats) × (x ≡ seat)) → IsSeatOf words seat × (proc_of seat ≡ p) × (seat_place seat ≡ At 0 0)
    by_end p seat (inl t) = dealt.each p seat t
    by_end p seat (inr t) = rw (← t.1) (is, own ∙ sym t.0, place)

pub long_one : (l : List Seat) (x : Seat) → length (l ++ x ∷ []) ≡ length l + 1
long_one [] x = refl
long_one (y ∷ l) x = let more = long_one l x in omega (arith, more)

-- A seat with the table's id and mission, at the opening place of one of the mission's processors, is a seat of the
-- table.
pub dealt_is : (words : WordTable) (seat : Seat) → IsFlown (mission_in words) → seat.inner.table_id ≡ words.table.shared.table_id → seat.inner.me.0.mission ≡ Some (mission_in words) → proc_of seat < length (mission_in words).spec.procs → seat_place seat ≡ At 0 0
    → IsSeatOf words seat
dealt_is words seat holds table mission low place =
    record { holds = holds; table = table; mission = mission; proc = low; in_flight = rw place (omega arith, λ none. absurd (omega (arith, none))) }

pub opening_first : (p n : ℕ) → p < n → opening_actors p (n - p) ≡ Runs p 0 0 ∷ opening_actors (suc p) (n - suc p)
opening_first p n low = let more : n - p ≡ suc (n - suc p) = omega (arith, low) in ap (opening_actors p) more

-- The view that a split leaves is the first view without its first actor. The view of the new seat has this actor
-- only.
abbrev alone_with : View → Sat
alone_with v = (v, [])

pub one_left : (mission : MissionParts) (me after : Sat) (p q n : ℕ) → p < n → q ≡ suc p → me ≡ (with_actors (first_view mission) (opening_actors p (n - p)), []) → after ≡ (other_actors me.0, me.1)
    → after ≡ (with_actors (first_view mission) (opening_actors q (n - q)), [])
one_left mission me after p q n low next is left =
    let split : (other_actors me.0, me.1) ≡ alone_with (with_actors (first_view mission) (others_of (opening_actors p (n - p)))) = rw is refl in
    let more : alone_with (with_actors (first_view mission) (others_of (opening_actors p (n - p)))) ≡ alone_with (with_actors (first_view mission) (opening_actors (suc p) (n - suc p))) =
    ap (λ (l : List Actor). alone_with (with_actors (first_view mission) (others_of l))) (opening_first p n low) in
    left ∙ split ∙ more ∙ ap (λ k. alone_with (with_actors (first_view mission) (opening_actors k (n - k)))) (sym next)

pub first_given : (mission : MissionParts) (me : Sat) (p n : ℕ) → p < n → me ≡ (with_actors (first_view mission) (opening_actors p (n - p)), []) → me.0.actors ≡ Runs p 0 0 ∷ opening_actors (suc p) (n - suc p)
first_given mission me p n low is = ap (λ (s : Sat). s.0.actors) is ∙ opening_first p n low

pub given : (v : View) (a : Actor) (rest : List Actor) (after : Sat) → v.actors ≡ a ∷ rest → after ≡ (first_actor v, []) → after.0.actors ≡ a ∷ []
given v a rest after alone is = ap (λ (s : Sat). s.0.actors) is ∙ ap first_of alone
