-- The opening list holds the opening words.
use Rattle.std.proofs.Common.{◌≡◌, ◌∙◌, ℕ, zero, suc, ◌+◌, ◌-◌, ◌*◌, ◌/◌, ◌%◌, ◌<◌, ◌≤◌, refl, ap, sym, arith, Bool, true, false, List, [], ◌∷◌, length}
use Rattle.std.specs.Prelude.{ℤ, pos, Option, nat_eq, nat_lt, if◌then◌else◌, map, slice_get, slice_index, slice_index_or, Some, None}
use Rattle.std.proofs.lemmas.Bool.Decides.{nat_tests}
use Rattle.scram_types.specs.declared.ids.ProcId.{ProcId}
use Rattle.scram_types.specs.Eights.{eight}
use Rattle.scram_types.specs.Scripts.{ScriptParts}
use Rattle.scram_types.specs.Searches.{listed_below}
use Rattle.scram_types.specs.Specification.{IsSpec, Parts}
use Rattle.scram_types.proofs.Eights.{eight_at}
use Rattle.scram_types.proofs.Searches.{get_listed, length_listed}
use Rattle.bank_words.specs.Numbers.{encode}
use Rattle.frame_model.specs.Flights.{image_after, is_proc, slot_after}
use Rattle.frame_model.specs.States.{area_at, start_area_of, start_keeper_of, zeros}
use Rattle.frame_model.proofs.Slots.{slot_is}
use Rattle.fail_stop.specs.Events.{BankWord, EndWord, IsStored, KernelWord, MarkWord, ReleaseWord, Word}
use Rattle.fail_stop.specs.Flights.{word_in}
use Rattle.fail_stop.specs.Kept.{opening_words}
use Rattle.fail_stop.specs.Laws.{IsOpening}
use Rattle.fail_stop.specs.Listed.{index_of, stored_in, word_index_count}
use Rattle.fail_stop.specs.ScriptFlights.{flight_of, image_words_after, kernel_words}
use Rattle.fail_stop.specs.Openings.{opening_at, opening_list, proc_opening, start_word}

-- Word `i` of a list of encoded numbers is the encoding of number `i`.
pub encoded_at : (xs : List ℤ) (i : ℕ) → word_in (map encode xs) i ≡ encode (slice_index_or xs i (pos 0))
encoded_at [] i = refl
encoded_at (x ∷ xs) zero = refl
encoded_at (x ∷ xs) (suc i) = encoded_at xs i

pub slot_word : (spec : Parts) (script : ScriptParts) (p f a i : ℕ) → a < 8 → i < 8 → slice_index_or (image_after spec script p f) (8 * a + i) (pos 0) ≡ slice_index_or (slot_after spec script p f a) i (pos 0)
slot_word spec script p f a i low small =
    sym (eight_at (λ i. slice_index_or (image_after spec script p f) (8 * a + i) (pos 0)) i (pos 0) small)
    ∙ ap (λ slot. slice_index_or slot i (pos 0)) (slot_is spec script p f a low)

pub image_word : (spec : Parts) (script : ScriptParts) (p f i : ℕ) → i < 64 → word_in (image_words_after spec script p f) i ≡ encode (slice_index_or (slot_after spec script p f (i / 8)) (i % 8) (pos 0))
image_word spec script p f i low =
    let at : i ≡ 8 * (i / 8) + i % 8 = omega arith in
    encoded_at (image_after spec script p f) i
    ∙ ap (λ n. encode (slice_index_or (image_after spec script p f) n (pos 0))) at
    ∙ ap encode (slot_word spec script p f (i / 8) (i % 8) (omega (arith, low)) (omega arith))

chosen : (b : Bool) (x : List ℤ) (i : ℕ) → i < 8 → encode (slice_index_or (if b then x else zeros) i (pos 0)) ≡ (if b then encode (slice_index_or x i (pos 0)) else 0)
chosen true x i low = refl
chosen false x i low = ap encode (eight_at (λ j. pos 0) i (pos 0) low)

start_is : (spec : Parts) (script : ScriptParts) (p i : ℕ) → i < 64 → start_word (eight (start_area_of spec)) (eight (start_keeper_of spec)) p i ≡ word_in (image_words_after spec script p 0) i
start_is spec script p i low =
    let a : i / 8 < 8 = omega (arith, low) in
    ap (λ k. if is_proc p k then encode (slice_index_or (area_at (eight (start_area_of spec)) (i / 8)) (i % 8) (pos 0)) else 0) (eight_at (start_keeper_of spec) (i / 8) None a)
    ∙ ap (λ area. if is_proc p (start_keeper_of spec (i / 8)) then encode (slice_index_or area (i % 8) (pos 0)) else 0) (eight_at (start_area_of spec) (i / 8) zeros a)
    ∙ sym (chosen (is_proc p (start_keeper_of spec (i / 8))) (start_area_of spec (i / 8)) (i % 8) (omega arith))
    ∙ sym (image_word spec script p 0 i low)

abbrev first_of : Parts → ScriptParts → ℕ → ℕ
first_of spec script n = opening_at script.frames (kernel_words spec script 0) (eight (start_area_of spec)) (eight (start_keeper_of spec)) n

abbrev proc_of : Parts → ℕ → ℕ → ℕ
proc_of spec p r = proc_opening (eight (start_area_of spec)) (eight (start_keeper_of spec)) p r

get_is : (xs : List ℕ) (k x : ℕ) → slice_get xs k ≡ Some x → slice_index xs k ≡ x
get_is [] k x e = cc
get_is (y ∷ ys) zero x e = cc
get_is (y ∷ ys) (suc k) x e = get_is ys k x e

index_listed : (value : ℕ → ℕ) (n k : ℕ) → k < n → slice_index (listed_below value n) k ≡ value k
index_listed value n k low = get_is (listed_below value n) k (value k) (get_listed value n k low)

proc_at : (spec : Parts) (script : ScriptParts) (p r n : ℕ) → r < 136 → n ≡ 32 + 136 * p + r → first_of spec script n ≡ proc_of spec p r
proc_at spec script p r n low is =
    let no_release : nat_eq n 0 ≡ false = grind (arith, nat_tests, is) in
    let no_gap : nat_lt n 8 ≡ false = grind (arith, nat_tests, is) in
    let no_kernel : nat_lt n 28 ≡ false = grind (arith, nat_tests, is) in
    let whose : (n - 32) / 136 ≡ p = omega (arith, is, low) in
    let which : (n - 32) % 136 ≡ r = omega (arith, is, low) in
    rw (no_release, no_gap, no_kernel, whose, which) refl

word_at_opening : (spec : Parts) (script : ScriptParts) (w : Word) → length spec.procs ≤ 8 → 8 * length spec.apps ≤ 64 → IsStored (flight_of spec script) w
    → first_of spec script (index_of w) ≡ opening_words (flight_of spec script) w
word_at_opening spec script ReleaseWord few narrow s = refl
word_at_opening spec script (KernelWord i) few narrow s =
    let no_release : nat_eq (8 + i) 0 ≡ false = grind (arith, nat_tests) in
    let no_gap : nat_lt (8 + i) 8 ≡ false = grind (arith, nat_tests) in
    let here : nat_lt (8 + i) 28 ≡ true = grind (arith, nat_tests, s) in
    let which : 8 + i - 8 ≡ i = omega arith in
    rw (no_release, no_gap, here, which) refl
word_at_opening spec script (MarkWord p) few narrow s = proc_at spec script p 0 (32 + 136 * p) (omega arith) (omega arith)
word_at_opening spec script (EndWord p) few narrow s = proc_at spec script p 1 (33 + 136 * p) (omega arith) (omega arith)
word_at_opening spec script (BankWord p zero i) few narrow s =
    let low = s.2 in
    let high : nat_lt (8 + i) 8 ≡ false = grind (arith, nat_tests) in
    let inside : nat_lt (8 + i) 72 ≡ true = grind (arith, nat_tests, low, narrow) in
    let which : 8 + i - 8 ≡ i = omega arith in
    proc_at spec script p (8 + i) (40 + 136 * p + 64 * 0 + i) (omega (arith, low, narrow)) (omega arith) ∙ rw (high, inside, which) (start_is spec script p i (omega (arith, low, narrow)))
word_at_opening spec script (BankWord p (suc zero) i) few narrow s =
    let low = s.2 in
    let high : nat_lt (72 + i) 8 ≡ false = grind (arith, nat_tests) in
    let past : nat_lt (72 + i) 72 ≡ false = grind (arith, nat_tests) in
    proc_at spec script p (72 + i) (40 + 136 * p + 64 * 1 + i) (omega (arith, low, narrow)) (omega arith) ∙ rw (high, past) refl
word_at_opening spec script (BankWord p (suc (suc b)) i) few narrow s = let two = s.1 in absurd (omega (arith, two))

index_low : (spec : Parts) (script : ScriptParts) (w : Word) → length spec.procs ≤ 8 → 8 * length spec.apps ≤ 64 → IsStored (flight_of spec script) w → index_of w < 1120
index_low spec script ReleaseWord few narrow s = omega arith
index_low spec script (KernelWord i) few narrow s = omega (arith, s)
index_low spec script (MarkWord p) few narrow s = omega (arith, s, few)
index_low spec script (EndWord p) few narrow s = omega (arith, s, few)
index_low spec script (BankWord p b i) few narrow s = let x = s.0 in let y = s.1 in let z = s.2 in omega (arith, x, y, z, few, narrow)

pub list_whole : (frames : ℕ) (first : List ℕ) (areas : List (List ℤ)) (keepers : List (Option ProcId)) (n : ℕ) → n ≡ word_index_count
    → listed_below (opening_at frames first areas keepers) n ≡ opening_list frames first areas keepers
unfolding opening_list
list_whole frames first areas keepers n is = ap (listed_below (opening_at frames first areas keepers)) is

listed_whole : (spec : Parts) (script : ScriptParts) (w : Word) (n : ℕ) → n ≡ word_index_count → length spec.procs ≤ 8 → 8 * length spec.apps ≤ 64 → IsStored (flight_of spec script) w
    → stored_in (listed_below (first_of spec script) n) w ≡ opening_words (flight_of spec script) w
listed_whole spec script w n is few narrow s =
    let low = index_low spec script w few narrow s in
    index_listed (first_of spec script) n (index_of w) (omega (arith, low, is)) ∙ word_at_opening spec script w few narrow s

pub opening_listed : (spec : Parts) (script : ScriptParts) (list : List ℕ) (w : Word) → list ≡ opening_list script.frames (kernel_words spec script 0) (eight (start_area_of spec)) (eight (start_keeper_of spec))
    → length spec.procs ≤ 8 → 8 * length spec.apps ≤ 64 → IsStored (flight_of spec script) w → stored_in list w ≡ opening_words (flight_of spec script) w
unfolding opening_list
opening_listed spec script list w is few narrow s = ap (λ l. stored_in l w) is ∙ listed_whole spec script w word_index_count refl few narrow s

pub opening_long : (frames : ℕ) (first : List ℕ) (areas : List (List ℤ)) (keepers : List (Option ProcId)) → length (opening_list frames first areas keepers) ≡ word_index_count
unfolding opening_list
opening_long frames first areas keepers = length_listed (opening_at frames first areas keepers) word_index_count

pub list_opens : (spec : Parts) (script : ScriptParts) → IsSpec spec
    → IsOpening spec script (opening_list script.frames (kernel_words spec script 0) (eight (start_area_of spec)) (eight (start_keeper_of spec)))
list_opens spec script facts =
    let narrow = facts.apps_count.few in
    let at : (w : Word) → IsStored (flight_of spec script) w → stored_in (opening_list script.frames (kernel_words spec script 0) (eight (start_area_of spec)) (eight (start_keeper_of spec))) w ≡ opening_words (flight_of spec script) w =
    λ w s. opening_listed spec script _ w refl facts.procs_count.few (omega (arith, narrow)) s in
    record {
      long = opening_long script.frames (kernel_words spec script 0) (eight (start_area_of spec)) (eight (start_keeper_of spec));
      released = λ some. let flown : nat_eq script.frames 0 ≡ false = grind (arith, nat_tests, some) in at ReleaseWord tt ∙ rw flown refl;
      unreleased = λ none. at ReleaseWord tt ∙ rw none refl;
      kernel = λ i low. at (KernelWord i) low;
      mark = λ p low. at (MarkWord p) low;
      end = λ p low. at (EndWord p) low;
      image = λ p i low small. at (BankWord p 0 i) (low, omega arith, small);
      empty = λ p i low small. at (BankWord p 1 i) (low, omega arith, small);
    }
