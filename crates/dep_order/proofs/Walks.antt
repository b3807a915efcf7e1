-- A walk along needs comes back to an application already visited.
use Rattle.std.proofs.Common.{◌≡◌, ℕ, zero, suc, ◌+◌, ◌<◌, ◌≤◌, ◌≢◌, Bool, true, false, refl, arith, ap, sym, ◌∙◌, List, [], ◌∷◌, ◌++◌, length, get_or}
use mathlib.Core.Logic.{inl, inr}
use Rattle.std.specs.Prelude.{Option, Some, None, ◌||◌, ◌==◌, find, if◌then◌else◌, is_none, max, option_and_then, slice_get}
use Rattle.std.proofs.Math.Bool.{or-false, or-true, or_assoc}
use Rattle.scram_types.specs.declared.ids.AppId.{AppId}
use Rattle.scram_types.specs.declared.specification.AppSpec.{AppSpec}
use Rattle.scram_types.proofs.Options.{same_some, none_some}
use Rattle.scram_types.proofs.Booleans.{or_false}
use Rattle.scram_types.proofs.Naturals.{below_or_at, differ_test, equal_test}
use Rattle.dep_order.specs.Ranks.{Needs, NeedsInTurn}
use Rattle.dep_order.specs.Ranking.{is_unranked, rank_in, ready}
use Rattle.dep_order.specs.Timetables.{is_named}

-- If needs determine no rank, one of the needed applications has no rank.

wait_case : (ranks : List (Option ℕ)) (least : ℕ) (needed : AppId) (needs : List AppId) (rank : Option ℕ)
    → ((more : ℕ) → find (λ (n : AppId). is_unranked ranks n.0) needs ≡ None → ready more ranks needs ≡ None → ⊥)
    → (if is_none rank then Some needed else find (λ (n : AppId). is_unranked ranks n.0) needs) ≡ None
    → option_and_then (λ (r : ℕ). ready (max least (r + 1)) ranks needs) rank ≡ None → ⊥
wait_case ranks least needed needs None rest none stuck = none_some needed (sym none)
wait_case ranks least needed needs (Some r) rest none stuck = rest (max least (r + 1)) none stuck

pub someone_waits : (ranks : List (Option ℕ)) (needs : List AppId) (least : ℕ) → find (λ (n : AppId). is_unranked ranks n.0) needs ≡ None → ready least ranks needs ≡ None → ⊥
someone_waits ranks [] least none stuck = none_some least (sym stuck)
someone_waits ranks (needed ∷ needs) least none stuck =
    wait_case ranks least needed needs (rank_in ranks needed.0) (λ more. someone_waits ranks needs more) none stuck

found_case : (test : AppId → Bool) (x y : AppId) (xs : List AppId) (here : Bool) → test x ≡ here
    → (find test xs ≡ Some y → (k : ℕ) × (slice_get xs k ≡ Some y) × (test y ≡ true))
    → (if here then Some x else find test xs) ≡ Some y → (k : ℕ) × (slice_get (x ∷ xs) k ≡ Some y) × (test y ≡ true)
found_case test x y xs true is rest e = (0, e, ap test (sym (same_some x y e)) ∙ is)
found_case test x y xs false is rest e = let later = rest e in (suc later.0, later.1, later.2)

pub found_at : (test : AppId → Bool) (xs : List AppId) (y : AppId) → find test xs ≡ Some y → (k : ℕ) × (slice_get xs k ≡ Some y) × (test y ≡ true)
found_at test [] y e = none_some y e
found_at test (x ∷ xs) y e = found_case test x y xs (test x) refl (found_at test xs y) e

none_by : (rank : Option ℕ) → is_none rank ≡ true → rank ≡ None
none_by None h = refl
none_by (Some r) h = absurd (cc)

pub is_without : (ranks : List (Option ℕ)) (a : ℕ) → is_unranked ranks a ≡ true → rank_in ranks a ≡ None
is_without ranks a h = none_by (rank_in ranks a) h

-- Lists in which each application needs the next can be extended and joined.

pub turn_push : (apps : List AppSpec) (path : List AppId) (at next : AppId) → NeedsInTurn apps path at → Needs apps at next → NeedsInTurn apps (path ++ at ∷ []) next
turn_push apps [] at next turn needs = needs
turn_push apps (a ∷ []) at next turn needs = (turn, needs)
turn_push apps (a ∷ b ∷ rest) at next turn needs = (turn.0, turn_push apps (b ∷ rest) at next turn.1 needs)

pub turn_join : (apps : List AppSpec) (front : List AppId) (b : AppId) (back : List AppId) (end : AppId)
    → NeedsInTurn apps front b → NeedsInTurn apps (b ∷ back) end → NeedsInTurn apps (front ++ b ∷ back) end
turn_join apps [] b back end first second = second
turn_join apps (a ∷ []) b back end first second = (first, second)
turn_join apps (a ∷ c ∷ rest) b back end first second = (first.0, turn_join apps (c ∷ rest) b back end first.1 second)

pub turn_front : (apps : List AppSpec) (front : List AppId) (b : AppId) (back : List AppId) (end : AppId) → NeedsInTurn apps (front ++ b ∷ back) end → NeedsInTurn apps front b
turn_front apps [] b back end turn = tt
turn_front apps (a ∷ []) b back end turn = turn.0
turn_front apps (a ∷ c ∷ rest) b back end turn = (turn.0, turn_front apps (c ∷ rest) b back end turn.1)

pub turn_back : (apps : List AppSpec) (front : List AppId) (b : AppId) (back : List AppId) (end : AppId) → NeedsInTurn apps (front ++ b ∷ back) end → NeedsInTurn apps (b ∷ back) end
turn_back apps [] b back end turn = turn
turn_back apps (a ∷ []) b back end turn = turn.1
turn_back apps (a ∷ c ∷ rest) b back end turn = turn_back apps (c ∷ rest) b back end turn.1

-- The number of numbers below `n` that a list does not name.

pub count_free : List AppId → ℕ → ℕ
count_free path zero = 0
count_free path (suc n) = count_free path n + (if is_named path n then 0 else 1)

pub free_start : count_free [] 8 ≡ 8
unfolding count_free
free_start = refl

named_push : (path : List AppId) (at : AppId) (a : ℕ) → is_named (path ++ at ∷ []) a ≡ (is_named path a || (at.0 == a))
named_push [] at a = or-false (at.0 == a)
named_push (x ∷ xs) at a = ap (λ b. (x.0 == a) || b) (named_push xs at a) ∙ sym (or_assoc (x.0 == a) (is_named xs a) (at.0 == a))

-- The number of numbers below `n` that a list does not name stays the same if a number from `n` on is added to the
-- list.
free_above : (path : List AppId) (at : AppId) (n : ℕ) → n ≤ at.0 → count_free (path ++ at ∷ []) n ≡ count_free path n
unfolding count_free
free_above path at zero above = refl
free_above path at (suc n) above =
    rw (free_above path at n (omega arith), named_push path at n, differ_test at.0 n (λ e. omega arith), or-false (is_named path n)) refl

pub free_push : (path : List AppId) (at : AppId) (n : ℕ) → at.0 < n → is_named path at.0 ≡ false → count_free (path ++ at ∷ []) n + 1 ≡ count_free path n
unfolding count_free
free_push path at zero inside free = absurd (omega arith)
free_push path at (suc n) inside free = elim (below_or_at at.0 n inside) [
  | inl lower ↦ (
      let rest = free_push path at n lower free in
      let same : is_named (path ++ at ∷ []) n ≡ is_named path n = named_push path at n ∙ (rw (differ_test at.0 n (λ e. omega arith)) (or-false (is_named path n))) in
      rw (same) (omega arith))
  | inr last ↦ (
      let rest = free_above path at n (omega arith) in
      let now : is_named (path ++ at ∷ []) n ≡ true = named_push path at n ∙ (rw (equal_test at.0 n last) (or-true (is_named path n))) in
      let before : is_named path n ≡ false = ap (is_named path) (sym last) ∙ free in
      rw (now, before, rest) (omega arith))
]

-- No two applications of a path are the same.

pub not_named : (path : List AppId) (a : ℕ) → is_named path a ≡ false → (i : ℕ) (d : AppId) → i < length path → (get_or path i d).0 ≢ a
not_named [] a free i d inside = absurd (omega arith)
not_named (x ∷ xs) a free zero d inside = λ e. (let clash = equal_test x.0 a e in absurd (let both = rw (clash) at free in cc))
not_named (x ∷ xs) a free (suc i) d inside = not_named xs a (or_false (x.0 == a) (is_named xs a) free).1 i d (omega arith)
