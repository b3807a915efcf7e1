-- A configuration can run if and only if the processors of its places are up. `all_up` holds for a set of processors
-- if and only if each processor in the set is up.
use Rattle.std.proofs.Common.{◌≡◌, ℕ, zero, suc, ◌<◌, ◌^◌, ◌/◌, ◌%◌, refl, arith, sym, ap, ◌∙◌, true, List}
use mathlib.Core.Logic.{inl, inr}
use Rattle.std.specs.Prelude.{Option, Some, None, bit_and, slice_get}
use Rattle.std.specs.Int.{bit_at}
use Rattle.std.proofs.Math.Nat.{mod-eq_of_lt, mod-one}
use Rattle.std.proofs.lemmas.Bool.Decides.{nat_tests}
use Rattle.std.proofs.lemmas.Nat.{and_le_l, and_mod, and_shr}
use Rattle.scram_types.proofs.Naturals.{equal_test}
use Rattle.scram_types.proofs.Items.{all_pass, each_passes}
use Rattle.scram_types.specs.declared.rows.Env.{Env}
use Rattle.scram_types.specs.declared.specification.Place.{Place}
use Rattle.scram_types.specs.Bits.{has_bit}
use Rattle.scram_types.proofs.BitSets.{twice, low_bits, bit_cases}
use Rattle.choice_table.specs.Environments.{is_up_in}
use Rattle.choice_table.specs.Choices.{all_up, is_place_up, places_of}
use Rattle.choice_table.specs.Laws.{RunsWherePlacesAreUp, SetsAreUpByMembers}

up_places : (v : Env) (places : List (Option Place)) → ((a : ℕ) (place : Place) → slice_get places a ≡ Some (Some place) → is_up_in v place.proc.0 ≡ true)
    → (a : ℕ) (place : Option Place) → slice_get places a ≡ Some place → is_place_up v place ≡ true
up_places v places h a None e = refl
up_places v places h a (Some place) e = h a place e

pub runs_where_up : RunsWherePlacesAreUp
runs_where_up spec c v = (
  λ runs a place e. each_passes (is_place_up v) (places_of spec c) runs a (Some place) e,
  λ up. all_pass (is_place_up v) (places_of spec c) (up_places v (places_of spec c) up),
)

-- Bit `p` of `bit_and a b` is the bitwise AND of bit `p` of `a` and bit `p` of `b`.
common_bit : (a b p : ℕ) → bit_at (bit_and a b) p ≡ bit_and (bit_at a p) (bit_at b p)
common_bit a b p = ap (λ n. n % 2) (and_shr a b p) ∙ and_mod (a / 2 ^ p) (b / 2 ^ p) 1

bit_known : (set p : ℕ) → has_bit set p ≡ true → bit_at set p ≡ 1
bit_known set p h = grind (arith, nat_tests)

bit_told : (set p : ℕ) → bit_at set p ≡ 1 → has_bit set p ≡ true
bit_told set p h = rw (h) refl

-- If the bitwise AND of a set and the processors that are up is the set, each processor of the set is up.
members : (set : ℕ) (v : Env) → all_up set v ≡ true → (p : ℕ) → has_bit set p ≡ true → is_up_in v p ≡ true
members set v h p e =
    let all : bit_and set v.up ≡ set = grind (arith, nat_tests) in
    let one = bit_known set p e in
    let common : bit_and (bit_at set p) (bit_at v.up p) ≡ bit_at set p = sym (common_bit set v.up p) ∙ ap (λ n. bit_at n p) all in
    elim (bit_cases v.up p) [
      | inl z ↦ (let clash = rw (one, z) at common in absurd (omega (arith, clash)))
      | inr o ↦ bit_told v.up p o
    ]

-- If each processor of a set is up, the bitwise AND of the set and the processors that are up has the same bits as
-- the set.
same_bit : (set up p : ℕ) → ((q : ℕ) → has_bit set q ≡ true → has_bit up q ≡ true) → bit_at (bit_and set up) p ≡ bit_at set p
same_bit set up p h = elim (bit_cases set p) [
  | inl z ↦ (let small = and_le_l (bit_at set p) (bit_at up p) in let common = common_bit set up p in omega arith)
  | inr o ↦ common_bit set up p ∙ rw (o, bit_known up p (h p (bit_told set p o))) refl
]

common_low : (set up n : ℕ) → ((p : ℕ) → has_bit set p ≡ true → has_bit up p ≡ true) → bit_and set up % 2 ^ n ≡ set % 2 ^ n
common_low set up zero h = mod-one (bit_and set up) ∙ sym (mod-one set)
common_low set up (suc n) h =
    rw (low_bits (bit_and set up) n, low_bits set n, same_bit set up n h, common_low set up n h) refl

below_power : (n : ℕ) → n < 2 ^ n
below_power zero = omega arith
below_power (suc n) = let before = below_power n in let both = twice n in omega arith

whole : (set : ℕ) (v : Env) → ((p : ℕ) → has_bit set p ≡ true → is_up_in v p ≡ true) → all_up set v ≡ true
whole set v h =
    let wide = below_power set in
    let small = and_le_l set v.up in
    let room : bit_and set v.up < 2 ^ set = omega arith in
    let same : bit_and set v.up ≡ set = sym (mod-eq_of_lt room) ∙ common_low set v.up set h ∙ mod-eq_of_lt wide in
    equal_test (bit_and set v.up) set same

pub sets_by_members : SetsAreUpByMembers
sets_by_members set v = (members set v, whole set v)
