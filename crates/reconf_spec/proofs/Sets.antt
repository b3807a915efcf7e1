-- A set is read back from the names of its members.
use Rattle.std.proofs.Common.{◌≡◌, ◌<◌, ◌+◌, ◌*◌, ◌^◌, ◌%◌, ℕ, zero, suc, Bool, true, false, cond, ◌≤◌, List, [], ◌∷◌, ◌++◌, length, arith, refl, ap, ◌∙◌, sym, subst, append_assoc}
use Rattle.std.specs.Prelude.{bit_or, Ok, Some}
use Rattle.std.specs.Int.{bit_at}
use Rattle.std.proofs.Math.Nat.{mod-eq_of_lt}
use Rattle.std.proofs.lemmas.Nat.{mod-pow-add, or_comm, or_shifted}
use Rattle.std.proofs.lemmas.Nat.Bits.{bit_at_above, bit_at-lt, bit_at-zero}
use Rattle.std.proofs.lemmas.List.{length-append}
use Rattle.serde_json.specs.Data.{Data, string}
use Rattle.serde_json.specs.Events.{items_len}
use Rattle.serde_json.specs.View.{items_of}
use Rattle.scram_doc.specs.Paths.{item_path}
use Rattle.scram_types.specs.Specification.{NamesDiffer}
use Rattle.scram_types.specs.Bits.{has_bit}
use Rattle.spec_reading.specs.Sets.{read_into, read_set}
use Rattle.scram_doc.specs.Lists.{folded_from}
use Rattle.scram_types.specs.Lookups.{number_from}
use Rattle.reconf_spec.specs.Texts.{names_data, set_data}
use Rattle.scram_types.proofs.FoundByName.{found_named}
use Rattle.scram_types.proofs.Items.{next_part}
use Rattle.scram_doc.proofs.ReadBack.{within_back}

pow_positive : (k : ℕ) → 0 < 2 ^ k
pow_positive zero = omega arith
pow_positive (suc k) = let rest = pow_positive k in omega (arith, rest)

low_part : (n k : ℕ) → n % 2 ^ k < 2 ^ k
low_part n k = let positive = pow_positive k in omega (arith, positive)

-- The lower `k + 1` bits of a number consist of bit `k` and the lower `k` bits.
one_bit_more : (n k : ℕ) → n % 2 ^ suc k ≡ bit_at n k * 2 ^ k + n % 2 ^ k
one_bit_more n k = let next : suc k ≡ 1 + k = omega arith in rw (next) (mod-pow-add n 1 k)

with_bit : (n k : ℕ) → bit_at n k ≡ 1 → bit_or (n % 2 ^ k) (2 ^ k) ≡ n % 2 ^ suc k
with_bit n k is =
    or_comm (n % 2 ^ k) (2 ^ k) ∙ (ap (λ (m : ℕ). bit_or m (n % 2 ^ k)) (let one : 2 ^ k ≡ 1 * 2 ^ k = omega arith in one)
    ∙ (or_shifted 1 k (n % 2 ^ k) (low_part n k) ∙ (ap (λ (b : ℕ). b * 2 ^ k + n % 2 ^ k) (sym is) ∙ sym (one_bit_more n k))))

without_bit : (n k : ℕ) → bit_at n k ≡ 0 → n % 2 ^ k ≡ n % 2 ^ suc k
without_bit n k is = sym (one_bit_more n k ∙ (ap (λ (b : ℕ). b * 2 ^ k + n % 2 ^ k) is ∙ (let nothing : 0 * 2 ^ k + n % 2 ^ k ≡ n % 2 ^ k = omega arith in nothing)))

not_yet : (n k : ℕ) → has_bit (n % 2 ^ k) k ≡ false
not_yet n k = let above = bit_at_above (n % 2 ^ k) k k (low_part n k) (omega arith) in rw (above) refl

into_read : {A : Type 0} (name : A → List ℕ) (xs before after : List A) (x : A) (unknown barred : ℕ) (at : List ℕ) (n : ℕ)
    → NamesDiffer name xs → before ++ x ∷ after ≡ xs → bit_at n (length before) ≡ 1 → has_bit barred (length before) ≡ false
    → read_into name xs unknown barred at (n % 2 ^ length before) (string (name x)) ≡ Ok (n % 2 ^ suc (length before))
into_read {A} name xs before after x unknown barred at n differ whole is free =
    let there : number_from name 0 xs (name x) ≡ Some (0 + length before) =
    subst (λ (ys : List A). number_from name 0 ys (name x) ≡ Some (0 + length before)) whole
    (found_named name 0 (length before) (before ++ x ∷ after) x (subst (NamesDiffer name) (sym whole) differ) (next_part before after x)) in
    let number : 0 + length before ≡ length before = omega arith in
    rw (there, number, not_yet n (length before), free, with_bit n (length before) is) refl

bit_cases : (b : ℕ) → b < 2 → (P : Type 0) → (b ≡ 0 → P) → (b ≡ 1 → P) → P
bit_cases zero below P off on = off refl
bit_cases (suc zero) below P off on = on refl
bit_cases (suc (suc b)) below P off on = absurd (omega (arith, below))

-- No number is in both sets.
abbrev pub IsFree : ℕ → ℕ → Type 0
IsFree set barred = (p : ℕ) → has_bit set p ≡ true → has_bit barred p ≡ false

names_back : {A : Type 0} (name : A → List ℕ) (xs before after : List A) (unknown barred : ℕ) (at : List ℕ) (i n : ℕ)
    → NamesDiffer name xs → before ++ after ≡ xs → n < 2 ^ length xs → IsFree n barred
    → folded_from (read_into name xs unknown barred) at i (n % 2 ^ length before) (items_of (names_data name n (length before) after)) ≡ Ok n
names_back {A} name xs before [] unknown barred at i n differ whole below free =
    let long : length before ≡ length xs = sym (omega (arith, length-append before [])) ∙ ap (λ (ys : List A). length ys) whole in
    let all : n % 2 ^ length before ≡ n = rw (long) (mod-eq_of_lt below) in
    ap (λ (m : ℕ). Ok m) all
names_back name xs before (x ∷ after) unknown barred at i n differ whole below free =
    let longer : length (before ++ x ∷ []) ≡ suc (length before) = length-append before (x ∷ []) ∙ omega arith in
    let joined : (before ++ x ∷ []) ++ after ≡ xs = append_assoc before (x ∷ []) after ∙ whole in
    let rest = λ (j : ℕ). subst (λ (k : ℕ). folded_from (read_into name xs unknown barred) at j (n % 2 ^ k) (items_of (names_data name n k after)) ≡ Ok n) longer
    (names_back name xs (before ++ x ∷ []) after unknown barred at j n differ joined below free) in
    bit_cases (bit_at n (length before)) (bit_at-lt n (length before)) _
    (λ off. rw (off, without_bit n (length before) off) (rest i))
    (λ on. rw (on, into_read name xs before after x unknown barred (item_path at i) n differ whole on (free (length before) (rw (on) refl))) (rest (suc i)))

few_names_by : (b : Bool) (name : List ℕ) (rest : List Data) (most : ℕ) → items_len (items_of rest) ≤ most → items_len (items_of (cond b (string name ∷ rest) rest)) ≤ suc most
few_names_by true name rest most few = omega (arith, few)
few_names_by false name rest most few = omega (arith, few)

few_names : {A : Type 0} (name : A → List ℕ) (set n : ℕ) (xs : List A) → items_len (items_of (names_data name set n xs)) ≤ length xs
few_names name set n [] = omega arith
few_names name set n (x ∷ xs) = few_names_by (has_bit set n) (name x) (names_data name set (suc n) xs) (length xs) (few_names name set (suc n) xs)

pub set_back : {A : Type 0} (name : A → List ℕ) (xs : List A) (unknown barred most : ℕ) (at : List ℕ) (set : ℕ) → length xs ≤ most → NamesDiffer name xs → set < 2 ^ length xs → IsFree set barred
    → read_set name xs unknown barred most at (set_data name xs set) ≡ Ok set
set_back name xs unknown barred most at set few differ below free =
    let count = few_names name set 0 xs in
    let none : set % 2 ^ 0 ≡ 0 = omega arith in
    rw (within_back 0 most at (items_of (names_data name set 0 xs)) (omega arith) (omega (arith, count, few)))
    (subst (λ (n : ℕ). folded_from (read_into name xs unknown barred) at 0 n (items_of (names_data name set 0 xs)) ≡ Ok set) none
    (names_back name xs [] xs unknown barred at 0 set differ refl below free))

-- No number is in both a set and the empty set.
pub all_free : (set : ℕ) → IsFree set 0
all_free set p is = rw (bit_at-zero p) refl
