-- If each application has the rank that its needs determine, ranks fall along the needs. Therefore the needs have no
-- cycle.
use Rattle.std.proofs.Common.{◌≡◌, ℕ, zero, suc, ◌+◌, ◌<◌, refl, arith, ap, sym, ◌∙◌, List, [], ◌∷◌, length, get_or, subst}
use Rattle.std.specs.Prelude.{All, Option, Some, max, option_and_then, slice_get, slice_index}
use Rattle.std.proofs.lemmas.Option.{get_or_from_slice_get, slice_get-get_or, slice_get_within}
use Rattle.scram_types.specs.declared.ids.AppId.{AppId}
use Rattle.scram_types.specs.declared.specification.AppSpec.{AppSpec}
use Rattle.scram_types.specs.Specification.{Each}
use Rattle.scram_types.proofs.Options.{same_some, none_some}
use Rattle.dep_order.specs.Ranks.{IsRanking, NeedsInRange, NeedsInTurn, RanksFall, RankingExcludesCycles, rank_after}
use Rattle.dep_order.specs.Ranking.{AreSmall, IsSound, rank_in, ready}

module _ (ranks : List (Option ℕ)) (listed : List ℕ) (count : ℕ) (long : length listed ≡ count) (same : (a : ℕ) → a < count → rank_in ranks a ≡ slice_get listed a) where
  found : (a : ℕ) → a < count → rank_in ranks a ≡ Some (slice_index listed a)
  found a inside = same a inside ∙ slice_get-get_or listed a 0 (rw (long) inside)

  ready_is : (needs : List AppId) → Each (λ (needed : AppId). needed.0 < count) needs → (t least : ℕ) → ready least ranks needs ≡ Some t → t ≡ max least (rank_after listed needs)
  ready_is [] each t least e = let this = same_some least t e in omega arith
  ready_is (needed ∷ needs) each t least e =
      let next : ready (max least (slice_index listed needed.0 + 1)) ranks needs ≡ Some t =
      ap (option_and_then (λ (rank : ℕ). ready (max least (rank + 1)) ranks needs)) (sym (found needed.0 (each 0 needed refl))) ∙ e in
      let rest = ready_is needs (λ i x there. each (suc i) x there) t (max least (slice_index listed needed.0 + 1)) next in
      omega arith

  pub is_ranking : (apps : List AppSpec) → length apps ≡ count → NeedsInRange apps → IsSound apps ranks → IsRanking apps listed
  is_ranking apps all needs sound = record {
    count = long ∙ sym all;
    ranked = λ a app there.
        let inside : a < count = rw (← all) (slice_get_within apps a app there) in
        let given = sound a (slice_index listed a) app there (found a inside) in
        let in_range : Each (λ (needed : AppId). needed.0 < count) app.needs = rw (← all) (needs a app there) in
        let value = ready_is app.needs in_range (slice_index listed a) 0 given in
        let value_alone : slice_index listed a ≡ rank_after listed app.needs = omega arith in
        slice_get-get_or listed a 0 (rw (long) inside) ∙ ap Some value_alone;
  }

  pub all_small : AreSmall ranks → All (λ (r : ℕ). r < 8) listed
  all_small small = λ k d inside.
      let at_zero = small k (slice_index listed k) (found k (rw (← long) inside)) in
      let here : get_or listed k d ≡ slice_index listed k = get_or_from_slice_get listed k (slice_index listed k) d (slice_get-get_or listed k 0 inside) in
      rw (here) at_zero

below_after : (ranks : List ℕ) (needs : List AppId) (k : ℕ) (needed : AppId) → slice_get needs k ≡ Some needed → slice_index ranks needed.0 < rank_after ranks needs
below_after ranks [] k needed e = none_some needed e
below_after ranks (n ∷ needs) zero needed e = let this : slice_index ranks n.0 ≡ slice_index ranks needed.0 = ap (λ (x : AppId). slice_index ranks x.0) (same_some n needed e) in omega arith
below_after ranks (n ∷ needs) (suc k) needed e = let rest = below_after ranks needs k needed e in omega arith

pub ranks_fall : (apps : List AppSpec) (ranks : List ℕ) → IsRanking apps ranks → RanksFall apps ranks
ranks_fall apps ranks ranking = λ a k app needed there named.
    let value = get_or_from_slice_get ranks a (rank_after ranks app.needs) 0 (ranking.ranked a app there) in
    let less = below_after ranks app.needs k needed named in
    omega arith

falls_in_turn : (apps : List AppSpec) (ranks : List ℕ) → RanksFall apps ranks → (a : AppId) (rest : List AppId) (end : AppId) → NeedsInTurn apps (a ∷ rest) end
    → slice_index ranks end.0 < slice_index ranks a.0
falls_in_turn apps ranks fall a [] end turn = fall a.0 turn.place turn.app end turn.there turn.named
falls_in_turn apps ranks fall a (b ∷ rest) end turn =
    let first = fall a.0 turn.0.place turn.0.app b turn.0.there turn.0.named in
    let further = falls_in_turn apps ranks fall b rest end turn.1 in
    omega arith

pub no_cycle : RankingExcludesCycles
no_cycle apps ranks cycle ranking circle =
    let turn = subst (λ (l : List AppId). NeedsInTurn apps l circle.first) circle.is circle.closed in
    let less = falls_in_turn apps ranks (ranks_fall apps ranks ranking) circle.first circle.others circle.first turn in
    omega arith
