-- A flight on two units satisfies `PairCoreKeeps` at the opening. Once the flight is over, the kernel of each unit
-- that has not halted has ended all frames.
use Rattle.std.proofs.Common.{◌≡◌, ◌∙◌, ◌⊎◌, ℕ, suc, ◌<◌, refl, ap, sym, subst, arith, Bool, true, false, inl, inr, List, [], ◌∷◌, ◌++◌, length}
use Rattle.std.specs.Prelude.{Option, Some, None, drop, is_some, nat_le, slice_index_or, take, if◌then◌else◌}
use Rattle.std.proofs.lemmas.Bool.Decides.{nat_tests}
use Rattle.scram_types.specs.Specification.{IsSpec}
use Rattle.scram_kernel.specs.Kernels.{KernelParts, kernel_after}
use Rattle.fail_stop.specs.declared.flyers.Flyer.{Flyer}
use Rattle.fail_stop.specs.Events.{At, Place}
use Rattle.fail_stop.specs.Flyers.{AreFlyersAt, IsFlyerAt}
use Rattle.kernel_pair.specs.Cores.{PairCoreKeeps, IsKernelOf, places_in}
use Rattle.kernel_pair.specs.Laws.{OneUnitStays, PairHolds}
use Rattle.kernel_pair.specs.Machines.{PairParts, pair_flight, pair_in}
use Rattle.kernel_pair.specs.Pairs.{IsFirstUnit, IsPairOpening, IsPairOver, Pair}

none_noted : (n j k : ℕ) → 0 < n → j ≡ 0 → k ≡ 0 → (if nat_le n j then suc k else k) ≡ 0
none_noted n j k l a b = grind (arith, nat_tests)

module _ (k : PairParts) (facts : IsSpec k.spec) (opening : IsPairOpening (pair_flight k) (pair_in k)) where
  kernel_opens : (u : ℕ) → u < 2 → (kernel : KernelParts) → kernel ≡ kernel_after k.spec k.script 0 → IsKernelOf k u kernel
  kernel_opens u l kernel is =
      let x : IsFirstUnit (pair_flight k) ((pair_in k).unit u) = opening.units u l in
      is ∙ ap (λ (n : ℕ). kernel_after k.spec k.script n) (sym (none_noted (length k.spec.procs) ((pair_in k).unit u).step ((pair_in k).unit u).frame facts.procs_count.enough x.step x.frame))

  pub core_opens : {X : Type 0} {Y : X → Type 0} (first second : KernelParts) (flyers : List (Flyer X Y)) → ((p : ℕ) → p < 8 → places_in (pair_in k) p ≡ At 0 0)
      → first ≡ kernel_after k.spec k.script 0 → second ≡ kernel_after k.spec k.script 0 → AreFlyersAt (pair_flight k) (λ p. At 0 0) flyers → PairCoreKeeps k first second flyers
  core_opens {X} {Y} first second flyers places one other are = record {
    first = kernel_opens 0 (omega arith) first one;
    second = kernel_opens 1 (omega arith) second other;
    flyers = record { count = are.count; each = λ p none l. subst (λ (place : Place). IsFlyerAt {X = X} {Y = Y} (pair_flight k) p place (slice_index_or flyers p none)) (sym (places p l)) (are.each p none l) };
  }

none_of : (o : Option ℕ) → is_some o ≡ false → o ≡ None
none_of None e = refl
none_of (Some t) e = cc

pub first_stays : (s : Pair) (halted : Bool) → halted ≡ is_some (s.unit 0).stopped → halted ≡ false → (s.unit 0).stopped ≡ None
first_stays s halted is e = none_of (s.unit 0).stopped (sym is ∙ e)

pub second_stays : (s : Pair) (halted : Bool) → ((s.unit 0).stopped ≡ None) ⊎ ((s.unit 1).stopped ≡ None) → halted ≡ is_some (s.unit 0).stopped → halted ≡ true → (s.unit 1).stopped ≡ None
second_stays s halted (inl none) is e = let some : is_some (s.unit 0).stopped ≡ true = sym is ∙ e in let no : is_some (s.unit 0).stopped ≡ false = ap is_some none in cc
second_stays s halted (inr none) is e = none

-- If the pair is over, then the kernel of a unit that has not halted has ended all frames.
pub all_ended : (k : PairParts) (u : ℕ) (kernel : KernelParts) → PairHolds k.spec k.script k.halt (pair_in k) → IsPairOver (pair_flight k) (pair_in k) → u < 2 → ((pair_in k).unit u).stopped ≡ None → IsKernelOf k u kernel
    → kernel.past ≡ kernel.script.frames
all_ended k u kernel holds over l going is =
    let stays : OneUnitStays (pair_flight k) (pair_in k) = holds.one_stays in
    ap (λ (x : KernelParts). x.past) is ∙ stays.noted_all over u l going ∙ sym (ap (λ (x : KernelParts). x.script.frames) is)

-- If a list is written over the front of another list, then it is the front of the result.
pub written_back : {A : Type 0} (xs ys : List A) (n : ℕ) → n ≡ length ys → take n (ys ++ drop (length ys) xs) ≡ ys
written_back {A} xs ys n is = ap (λ (m : ℕ). take m (ys ++ drop (length ys) xs)) is ∙ front ys (drop (length ys) xs)
  where
    front : (ys zs : List A) → take (length ys) (ys ++ zs) ≡ ys
    front [] zs = refl
    front (y ∷ ys) zs = ap (λ (l : List A). y ∷ l) (front ys zs)
