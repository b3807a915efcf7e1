-- Cycles of needs, listed from the lowest-numbered application on.
use Rattle.std.proofs.Common.{◌≡◌, ℕ, zero, suc, ◌+◌, ◌-◌, ◌<◌, ◌≤◌, ◌≢◌, refl, arith, ◌⊎◌, ap, sym, ◌∙◌, List, [], ◌∷◌, ◌++◌, length, get_or, drop, take, subst}
use mathlib.Core.Logic.{inl, inr}
use Rattle.std.specs.Prelude.{AllPairs}
use Rattle.std.proofs.lemmas.List.{append-nil, drop_more, get_or-append-add, get_or-drop, get_or-take, get_or_append_left, get_or_default, length-append, length-drop, length-take-le, take_all}
use Rattle.scram_types.specs.declared.ids.AppId.{AppId}
use Rattle.scram_types.specs.declared.specification.AppSpec.{AppSpec}
use Rattle.dep_order.specs.Ranks.{IsCycle, NeedsInTurn}
use Rattle.dep_order.proofs.Walks.{turn_join}

turn_drop : (apps : List AppSpec) (path : List AppId) (n : ℕ) (end : AppId) → NeedsInTurn apps path end → NeedsInTurn apps (drop n path) end
turn_drop apps path zero end turn = turn
turn_drop apps [] (suc n) end turn = tt
turn_drop apps (a ∷ []) (suc zero) end turn = tt
turn_drop apps (a ∷ []) (suc (suc n)) end turn = tt
turn_drop apps (a ∷ b ∷ rest) (suc n) end turn = turn_drop apps (b ∷ rest) n end turn.1

turn_take : (apps : List AppSpec) (path : List AppId) (n : ℕ) (d end : AppId) → n < length path → NeedsInTurn apps path end → NeedsInTurn apps (take n path) (get_or path n d)
turn_take apps [] n d end inside turn = absurd (omega arith)
turn_take apps (a ∷ rest) zero d end inside turn = tt
turn_take apps (a ∷ []) (suc n) d end inside turn = absurd (omega arith)
turn_take apps (a ∷ b ∷ rest) (suc zero) d end inside turn = turn.0
turn_take apps (a ∷ b ∷ rest) (suc (suc n)) d end inside turn = (turn.0, turn_take apps (b ∷ rest) (suc n) d end (omega arith) turn.1)

turned_closed : (apps : List AppSpec) (b : AppId) (rest : List AppId) (k : ℕ) (d : AppId) → k < length (b ∷ rest) → NeedsInTurn apps (b ∷ rest) b
    → NeedsInTurn apps (drop k (b ∷ rest) ++ take k (b ∷ rest)) (get_or (b ∷ rest) k d)
turned_closed apps b rest zero d inside turn = subst (λ (l : List AppId). NeedsInTurn apps l b) (sym (append-nil (b ∷ rest))) turn
turned_closed apps b rest (suc k) d inside turn =
    turn_join apps (drop k rest) b (take k rest) (get_or rest k d) (turn_drop apps (b ∷ rest) (suc k) b turn) (turn_take apps (b ∷ rest) (suc k) d b inside turn)

-- Lemmas on the element at index `i` of a list rotated by `k`, which is at index `place` of the list itself.

before_or_past : (n k i : ℕ) → (k + i < n) ⊎ (n ≤ k + i)
before_or_past n k i = grind arith

record Stood (xs : List AppId) (k i : ℕ) (d : AppId) : Type 0 where
  pub place : ℕ
  pub inside : place < length xs
  pub same : get_or (drop k xs ++ take k xs) i d ≡ get_or xs place d
  pub from : (place ≡ k + i) ⊎ (place + length xs ≡ k + i)

stood : (xs : List AppId) (k i : ℕ) (d : AppId) → k ≤ length xs → i < length xs → Stood xs k i d
stood xs k i d few less = elim (before_or_past (length xs) k i) [
  | inl before ↦ (
      let back = length-drop k xs in
      record {
        place = k + i;
        inside = before;
        same = get_or_append_left (drop k xs) (take k xs) d i (omega arith) ∙ get_or-drop k xs i d;
        from = inl refl;
      })
  | inr past ↦ (
      let back = length-drop k xs in
      let at : length (drop k xs) + (k + i - length xs) ≡ i = omega arith in
      let read : get_or (drop k xs ++ take k xs) i d ≡ get_or (take k xs) (k + i - length xs) d =
      ap (λ n. get_or (drop k xs ++ take k xs) n d) (sym at) ∙ get_or-append-add (drop k xs) (take k xs) (k + i - length xs) d in
      record {
        place = k + i - length xs;
        inside = omega arith;
        same = read ∙ get_or-take k xs (k + i - length xs) d (omega arith);
        from = inr (omega arith);
      })
]

places_apart : (n k i j p q : ℕ) → (p ≡ k + i) ⊎ (p + n ≡ k + i) → (q ≡ k + j) ⊎ (q + n ≡ k + j) → i < j → j < n → p ≢ q
places_apart n k i j p q (inl a) (inl b) less inside = λ same. omega arith
places_apart n k i j p q (inl a) (inr b) less inside = λ same. omega arith
places_apart n k i j p q (inr a) (inl b) less inside = λ same. omega arith
places_apart n k i j p q (inr a) (inr b) less inside = λ same. omega arith

one_first : (p q : ℕ) → p ≢ q → (p < q) ⊎ (q < p)
one_first p q other = grind arith

apart : (xs : List AppId) → AllPairs (λ (a b : AppId). a.0 ≢ b.0) xs → (p q : ℕ) (d : AppId) → p ≢ q → p < length xs → q < length xs → (get_or xs p d).0 ≢ (get_or xs q d).0
apart xs differ p q d other p_inside q_inside = elim (one_first p q other) [
  | inl less ↦ differ p q d less q_inside
  | inr less ↦ (λ same. differ q p d less p_inside (sym same))
]

turned_length : (xs : List AppId) (k : ℕ) → k ≤ length xs → length (drop k xs ++ take k xs) ≡ length xs
turned_length xs k few =
    let all = length-append (drop k xs) (take k xs) in
    let back = length-drop k xs in
    let front = length-take-le k xs few in
    omega arith

turned_differ : (xs : List AppId) (k : ℕ) → k ≤ length xs → AllPairs (λ (a b : AppId). a.0 ≢ b.0) xs → AllPairs (λ (a b : AppId). a.0 ≢ b.0) (drop k xs ++ take k xs)
turned_differ xs k few differ = λ i j d less inside.
    let all = turned_length xs k few in
    let i_stood = stood xs k i d few (omega arith) in
    let j_stood = stood xs k j d few (omega arith) in
    let other = places_apart (length xs) k i j i_stood.place j_stood.place i_stood.from j_stood.from less (omega arith) in
    λ same. apart xs differ i_stood.place j_stood.place d other i_stood.inside j_stood.inside (ap (λ (a : AppId). a.0) (sym i_stood.same) ∙ same ∙ ap (λ (a : AppId). a.0) j_stood.same)

drop_differ : (xs : List AppId) (n : ℕ) → AllPairs (λ (a b : AppId). a.0 ≢ b.0) xs → AllPairs (λ (a b : AppId). a.0 ≢ b.0) (drop n xs)
drop_differ xs n differ = λ i j d less inside.
    let short = length-drop n xs in
    rw (get_or-drop n xs i d, get_or-drop n xs j d) (differ (n + i) (n + j) d (omega arith) (omega arith))

-- If each application of a list needs the next, the last needs the first, and no two are the same, the list rotated
-- to its lowest-numbered application is a cycle of needs.
turned_is_cycle : (apps : List AppSpec) (xs : List AppId) (b : AppId) (rest : List AppId) (k : ℕ) → xs ≡ b ∷ rest → k < length xs
    → ((j : ℕ) (d : AppId) → j < length xs → (get_or xs k d).0 ≤ (get_or xs j d).0)
    → NeedsInTurn apps xs b → AllPairs (λ (a c : AppId). a.0 ≢ c.0) xs → IsCycle apps (drop k xs ++ take k xs)
turned_is_cycle apps xs b rest k is inside least turn differ =
    let few : k ≤ length xs = omega arith in
    record {
      first = get_or xs k b;
      others = drop (k + 1) xs ++ take k xs;
      is = ap (λ (l : List AppId). l ++ take k xs) (drop_more xs k b inside);
      closed = subst (λ (l : List AppId). k < length l → NeedsInTurn apps l b → NeedsInTurn apps (drop k l ++ take k l) (get_or l k b)) (sym is) (turned_closed apps b rest k b) inside turn;
      differ = turned_differ xs k few differ;
      least = λ j d less.
          let all = turned_length xs k few in
          let there = stood xs k j d few (omega arith) in
          rw (there.same, get_or_default xs k b d inside) (least there.place d there.inside);
    }

-- If a walk comes back to an application already visited, the path from there on, rotated to its lowest-numbered
-- application, is a cycle of needs.
pub closes : (apps : List AppSpec) (path now : List AppId) (at : AppId) (place k : ℕ) (xs items : List AppId) → now ≡ path → place < length now
    → ((d : AppId) → get_or now place d ≡ at) → xs ≡ take (length now - place) (drop place now) → k < length xs
    → ((j : ℕ) (d : AppId) → j < length xs → (get_or xs k d).0 ≤ (get_or xs j d).0) → items ≡ drop k xs ++ take k xs
    → NeedsInTurn apps path at → AllPairs (λ (a b : AppId). a.0 ≢ b.0) path → IsCycle apps items
closes apps path now at place k xs items now_is inside found piece k_inside least items_is turn differ =
    let short = length-drop place now in
    let xs_is : xs ≡ drop place now = piece ∙ take_all (length now - place) (drop place now) (omega arith) in
    let first_is : drop place now ≡ at ∷ drop (place + 1) now = drop_more now place at inside ∙ ap (λ (a : AppId). a ∷ drop (place + 1) now) (found at) in
    let closed : NeedsInTurn apps (drop place now) at = turn_drop apps now place at (rw (now_is) turn) in
    let apart_there = drop_differ now place (rw (now_is) differ) in
    rw (items_is) (turned_is_cycle apps xs at (drop (place + 1) now) k (xs_is ∙ first_is) k_inside least (rw (xs_is) closed) (rw (xs_is) apart_there))
