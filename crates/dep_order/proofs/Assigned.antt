-- Ranks that are assigned one after another.
use Rattle.std.proofs.Common.{◌≡◌, ℕ, zero, suc, ◌+◌, ◌<◌, ◌≤◌, ◌≢◌, refl, arith, ap, sym, ◌∙◌, List, [], ◌∷◌, length, set}
use mathlib.Core.Logic.{inl, inr}
use Rattle.std.specs.Prelude.{Option, Some, None, max, option_and_then, slice_get}
use Rattle.scram_types.specs.declared.ids.AppId.{AppId}
use Rattle.scram_types.specs.declared.specification.AppSpec.{AppSpec}
use Rattle.scram_types.proofs.Options.{same_some, none_some}
use Rattle.scram_types.proofs.Naturals.{same_or_not}
use Rattle.dep_order.specs.Ranking.{IsSound, rank_in, ready}

pub count_none : List (Option ℕ) → ℕ
count_none [] = 0
count_none (None ∷ ranks) = suc (count_none ranks)
count_none (Some r ∷ ranks) = count_none ranks

pub none_most : (ranks : List (Option ℕ)) → count_none ranks ≤ length ranks
unfolding count_none
none_most [] = omega arith
none_most (None ∷ ranks) = let rest = none_most ranks in omega arith
none_most (Some r ∷ ranks) = let rest = none_most ranks in omega arith

pub none_given : (ranks : List (Option ℕ)) (a r : ℕ) → slice_get ranks a ≡ Some None → count_none (set ranks a (Some r)) + 1 ≡ count_none ranks
unfolding count_none
none_given [] a r e = none_some None e
none_given (None ∷ ranks) zero r e = omega arith
none_given (Some s ∷ ranks) zero r e = none_some s (sym (same_some (Some s) None e))
none_given (None ∷ ranks) (suc a) r e = let rest = none_given ranks a r e in omega arith
none_given (Some s ∷ ranks) (suc a) r e = none_given ranks a r e

pub get_set_same : {A : Type 0} (xs : List A) (i : ℕ) (x y : A) → slice_get xs i ≡ Some y → slice_get (set xs i x) i ≡ Some x
get_set_same [] i x y e = none_some y e
get_set_same (z ∷ zs) zero x y e = refl
get_set_same (z ∷ zs) (suc i) x y e = get_set_same zs i x y e

pub get_set_other : {A : Type 0} (xs : List A) (i j : ℕ) (x : A) → i ≢ j → slice_get (set xs i x) j ≡ slice_get xs j
get_set_other [] i j x other = refl
get_set_other (z ∷ zs) zero zero x other = absurd (other refl)
get_set_other (z ∷ zs) zero (suc j) x other = refl
get_set_other (z ∷ zs) (suc i) zero x other = refl
get_set_other (z ∷ zs) (suc i) (suc j) x other = get_set_other zs i j x (λ same. other (ap suc same))

-- If an application without a rank is assigned a rank, it has that rank. The ranks of the other applications do not
-- change.
module _ (ranks : List (Option ℕ)) (a r : ℕ) (unranked : slice_get ranks a ≡ Some None) where
  none_there : rank_in ranks a ≡ None
  none_there = rw (unranked) refl

  given : rank_in (set ranks a (Some r)) a ≡ Some r
  given = rw (get_set_same ranks a (Some r) None unranked) refl

  kept : (b s : ℕ) → rank_in ranks b ≡ Some s → rank_in (set ranks a (Some r)) b ≡ Some s
  kept b s e = elim (same_or_not a b) [
    | inl same ↦ none_some s (sym none_there ∙ ap (rank_in ranks) same ∙ e)
    | inr other ↦ rw (get_set_other ranks a b (Some r) other) e
  ]

  ready_one : (least : ℕ) (needed : ℕ) (needs : List AppId) (t : ℕ) (rank : Option ℕ) → rank_in ranks needed ≡ rank
      → ((more : ℕ) → ready more ranks needs ≡ Some t → ready more (set ranks a (Some r)) needs ≡ Some t)
      → option_and_then (λ (rank : ℕ). ready (max least (rank + 1)) ranks needs) rank ≡ Some t
      → option_and_then (λ (rank : ℕ). ready (max least (rank + 1)) (set ranks a (Some r)) needs) (rank_in (set ranks a (Some r)) needed) ≡ Some t
  ready_one least needed needs t None is rest e = none_some t e
  ready_one least needed needs t (Some s) is rest e = rw (kept needed s is) (rest (max least (s + 1)) e)

  pub ready_kept : (needs : List AppId) (t least : ℕ) → ready least ranks needs ≡ Some t → ready least (set ranks a (Some r)) needs ≡ Some t
  ready_kept [] t least e = e
  ready_kept (needed ∷ needs) t least e = ready_one least needed.0 needs t (rank_in ranks needed.0) refl (ready_kept needs t) e

  pub sound_step : (apps : List AppSpec) (app : AppSpec) → slice_get apps a ≡ Some app → ready 0 ranks app.needs ≡ Some r → IsSound apps ranks → IsSound apps (set ranks a (Some r))
  sound_step apps app there rank sound b s other_app other e = elim (same_or_not a b) [
    | inl same ↦ (
        let rank_same : r ≡ s = same_some r s (sym given ∙ ap (rank_in (set ranks a (Some r))) same ∙ e) in
        let app_same : app ≡ other_app = same_some app other_app (sym there ∙ ap (slice_get apps) same ∙ other) in
        let new = ready_kept app.needs r 0 rank in
        ap (λ (x : AppSpec). ready 0 (set ranks a (Some r)) x.needs) (sym app_same) ∙ new ∙ ap Some rank_same)
    | inr apart ↦ (
        let old : rank_in ranks b ≡ Some s = rw (get_set_other ranks a b (Some r) apart) at e in
        ready_kept other_app.needs s 0 (sound b s other_app other old))
  ]

  pub small_step : r + count_none ranks ≤ 8 → ((b s : ℕ) → rank_in ranks b ≡ Some s → s + count_none ranks < 8)
      → (b s : ℕ) → rank_in (set ranks a (Some r)) b ≡ Some s → s + count_none (set ranks a (Some r)) < 8
  small_step room small b s e =
      let fewer = none_given ranks a r unranked in
      elim (same_or_not a b) [
        | inl same ↦ (
            let rank_same : r ≡ s = same_some r s (sym given ∙ ap (rank_in (set ranks a (Some r))) same ∙ e) in
            omega arith)
        | inr apart ↦ (
            let old : rank_in ranks b ≡ Some s = rw (get_set_other ranks a b (Some r) apart) at e in
            let before = small b s old in
            omega arith)
      ]

-- If each rank found is less than 8 minus `room`, the rank that needs determine is at most 8 minus `room`.
ready_room_one : (ranks : List (Option ℕ)) (room least t : ℕ) (needs : List AppId) (rank : Option ℕ) → ((s : ℕ) → rank ≡ Some s → s + room < 8)
    → ((more : ℕ) → more + room ≤ 8 → ready more ranks needs ≡ Some t → t + room ≤ 8) → least + room ≤ 8
    → option_and_then (λ (rank : ℕ). ready (max least (rank + 1)) ranks needs) rank ≡ Some t → t + room ≤ 8
ready_room_one ranks room least t needs None small rest few e = none_some t e
ready_room_one ranks room least t needs (Some s) small rest few e = let one = small s refl in rest (max least (s + 1)) (omega arith) e

pub ready_room : (ranks : List (Option ℕ)) (room : ℕ) → ((b s : ℕ) → rank_in ranks b ≡ Some s → s + room < 8)
    → (needs : List AppId) (t least : ℕ) → least + room ≤ 8 → ready least ranks needs ≡ Some t → t + room ≤ 8
ready_room ranks room small [] t least few e = let same = same_some least t e in omega arith
ready_room ranks room small (needed ∷ needs) t least few e =
    ready_room_one ranks room least t needs (rank_in ranks needed.0) (small needed.0) (λ more. ready_room ranks room small needs t more) few e
