-- Lemmas on lists whose items satisfy a property that depends on the item's index. They state what holds after the
-- last item is removed or an item is appended.
use Rattle.std.proofs.Common.{◌≡◌, ◌∙◌, ℕ, zero, suc, ap, sym, subst, refl, arith, List, [], ◌∷◌, ◌++◌, length}
use Rattle.std.specs.Prelude.{All, Option, Some, option_to_list, slice_get}
use Rattle.std.proofs.lemmas.List.Elements.{All-append, All-pop}
use Rattle.std.proofs.lemmas.List.{length-append, length-map, map-append}
use Rattle.std.proofs.lemmas.Option.{slice_get_within}
use Rattle.fail_stop.specs.Events.{At}
use Rattle.scram_types.proofs.Items.{first_part, next_part}
use Rattle.fault_script.proofs.Ends.{before, end, place_of}
use Rattle.word_table.specs.declared.seats.Seat.{Seat}
use Rattle.word_table.specs.declared.tables.WordTable.{WordTable}
use Rattle.word_table.specs.Tables.{IsSeatOf, proc_of, seat_place}
use Rattle.word_deck.specs.declared.crews.Crew.{Crew}
use Rattle.word_deck.specs.Crews.{IsCrewOf}
use Rattle.word_deck.specs.Flights.{AreCrewsOf, AreLanded, AreOpen, numbers_in}
use Rattle.word_deck.specs.Landing.{IsLanded}

-- Each item of the list satisfies the property together with the item's index.
abbrev pub EachAt : {A : Type 0} → (ℕ → A → Type 0) → List A → Type 0
EachAt {A} Fact xs = (i : ℕ) (x : A) → slice_get xs i ≡ Some x → Fact i x

pub last_at : {A : Type 0} (Fact : ℕ → A → Type 0) (xs ys : List A) (x : A) → xs ≡ ys ++ x ∷ [] → EachAt Fact xs → Fact (length ys) x
last_at Fact xs ys x same each = each (length ys) x (ap (λ list. slice_get list (length ys)) same ∙ next_part ys [] x)

pub front_at : {A : Type 0} (Fact : ℕ → A → Type 0) (xs ys : List A) (x : A) → xs ≡ ys ++ x ∷ [] → EachAt Fact xs → EachAt Fact ys
front_at Fact xs ys x same each = λ i y there. each i y (ap (λ list. slice_get list i) same ∙ first_part ys (x ∷ []) i y there)

pub more_at : {A : Type 0} (Fact : ℕ → A → Type 0) (xs : List A) (x : A) → EachAt Fact xs → Fact (length xs) x → EachAt Fact (xs ++ x ∷ [])
more_at Fact xs x each fact = λ i y there. elim (place_of xs x i y there) [
  | before is _ ↦ each i y is
  | end at same ↦ subst (λ z. Fact i z) (sym same) (subst (λ k. Fact k x) (sym at) fact)
]

pub popped : {A : Type 0} (xs ys : List A) (o : Option A) (x : A) → xs ≡ ys ++ option_to_list o → o ≡ Some x → xs ≡ ys ++ x ∷ []
popped xs ys o x all is = all ∙ ap (λ p. ys ++ option_to_list p) is

all_one : {A : Type 0} (Fact : A → Type 0) (x : A) → Fact x → All Fact (x ∷ [])
all_one Fact x fact zero d low = fact
all_one Fact x fact (suc k) d low = absurd (omega (arith, low))

last_same : {A : Type 0} (xs ys : List A) (x y : A) → xs ++ x ∷ [] ≡ ys ++ y ∷ [] → (xs ≡ ys) × (x ≡ y)
last_same [] [] x y e = (refl, cc)
last_same [] (b ∷ ys) x y e = let long : 1 ≡ suc (length (ys ++ y ∷ [])) = ap length e in absurd (omega (arith, long, length-append ys (y ∷ [])))
last_same (a ∷ xs) [] x y e = let long : suc (length (xs ++ x ∷ [])) ≡ 1 = ap length e in absurd (omega (arith, long, length-append xs (x ∷ [])))
last_same (a ∷ xs) (b ∷ ys) x y e =
    let head : a ≡ b = cc in
    let tail : xs ++ x ∷ [] ≡ ys ++ y ∷ [] = cc in
    let rest = last_same xs ys x y tail in (ap (λ z. z ∷ xs) head ∙ ap (λ zs. b ∷ zs) rest.0, rest.1)

-- Lemmas on the numbers of crews after a crew is appended or is removed from the end. If there is a number, there is
-- a crew.

module _ {X : Type 0} {Y : X → Type 0} where
  pub numbers_more : (own all : List (Crew X Y)) (crew : Crew X Y) (p : ℕ) → all ≡ own ++ crew ∷ [] → proc_of crew.seat ≡ p → numbers_in all ≡ numbers_in own ++ p ∷ []
  numbers_more own all crew p same is = ap numbers_in same ∙ map-append (λ (c : Crew X Y). proc_of c.seat) own (crew ∷ []) ∙ ap (λ n. numbers_in own ++ n ∷ []) is

  pub numbers_less : (numbers : List ℕ) (xs ys : List (Crew X Y)) (o : Option (Crew X Y)) (crew : Crew X Y) (p : ℕ) → numbers_in xs ≡ numbers ++ p ∷ [] → xs ≡ ys ++ option_to_list o → o ≡ Some crew
      → (numbers_in ys ≡ numbers) × (proc_of crew.seat ≡ p)
  numbers_less numbers xs ys o crew p are all is =
      last_same (numbers_in ys) numbers (proc_of crew.seat) p (sym (map-append (λ (c : Crew X Y). proc_of c.seat) ys (crew ∷ [])) ∙ sym (ap numbers_in (popped xs ys o crew all is)) ∙ are)

  pub numbers_some : (numbers : List ℕ) (xs : List (Crew X Y)) (p : ℕ) → numbers_in xs ≡ numbers ++ p ∷ [] → length xs ≡ 0 → ⊥
  numbers_some numbers xs p are none =
      let long : length xs ≡ length (numbers ++ p ∷ []) = sym (length-map xs (λ (c : Crew X Y). proc_of c.seat)) ∙ ap length are in
      omega (arith, long, none, length-append numbers (p ∷ []))

-- Lemmas on the crews that fly in the caller's turns.

module _ {X : Type 0} {Y : X → Type 0} (words : WordTable) where
  pub crews_more : (own all : List (Crew X Y)) (crew : Crew X Y) → AreCrewsOf words own → IsCrewOf words crew → all ≡ own ++ crew ∷ [] → AreCrewsOf words all
  crews_more own all crew are fits same =
      subst (AreCrewsOf words) (sym same) (All-append (λ (c : Crew X Y). IsCrewOf words c) own (crew ∷ []) are (all_one (λ (c : Crew X Y). IsCrewOf words c) crew fits))

  pub crews_less : (xs ys : List (Crew X Y)) (o : Option (Crew X Y)) (crew : Crew X Y) → xs ≡ ys ++ option_to_list o → o ≡ Some crew → AreCrewsOf words xs
      → AreCrewsOf words ys × IsCrewOf words crew
  crews_less xs ys o crew all is are =
      let both = All-pop (λ (c : Crew X Y). IsCrewOf words c) xs ys (Some crew) (popped xs ys o crew all is) are in (both.0, both.1)

-- Lemmas on the seats of processors that have not started or have landed, after one seat is removed or appended.
pub open_front : (words : WordTable) (xs ys : List Seat) (o : Option Seat) (seat : Seat) → xs ≡ ys ++ option_to_list o → o ≡ Some seat → AreOpen words xs → AreOpen words ys
open_front words xs ys o seat all is are = front_at (λ p s. IsSeatOf words s × (proc_of s ≡ p) × (seat_place s ≡ At 0 0)) xs ys seat (popped xs ys o seat all is) are

pub open_last : (words : WordTable) (xs ys : List Seat) (o : Option Seat) (seat : Seat) → xs ≡ ys ++ option_to_list o → o ≡ Some seat → AreOpen words xs
    → IsSeatOf words seat × (proc_of seat ≡ length ys) × (seat_place seat ≡ At 0 0)
open_last words xs ys o seat all is are = last_at (λ p s. IsSeatOf words s × (proc_of s ≡ p) × (seat_place s ≡ At 0 0)) xs ys seat (popped xs ys o seat all is) are

pub landed_more : (words : WordTable) (xs all : List Seat) (seat : Seat) (p : ℕ) → AreLanded words xs → length xs ≡ p → IsLanded words p seat → all ≡ xs ++ seat ∷ [] → AreLanded words all
landed_more words xs all seat p are count is same = rw same (more_at (IsLanded words) xs seat are (rw count is))

pub landed_none : (words : WordTable) (xs : List Seat) → length xs ≡ 0 → AreLanded words xs
landed_none words xs none = λ p seat there. absurd (omega (arith, none, slice_get_within xs p seat there))
