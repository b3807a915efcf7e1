-- Ranks are the lengths of the longest chains of needs. A cycle of needs has chains of every length.
use Rattle.std.proofs.Common.{◌≡◌, ◌<◌, ◌≤◌, ℕ, zero, suc, min, Bool, true, false, List, [], ◌∷◌, length, map, arith, refl, sym, ap, subst, ◌&&◌, ◌∙◌}
use Rattle.std.specs.Prelude.{Some, None, slice_get, slice_index, nat_lt, All}
use Rattle.std.specs.List.{list_all}
use Rattle.std.proofs.lemmas.Bool.Decides.{nat_tests}
use Rattle.std.proofs.lemmas.List.Elements.{All-nil, All-cons, All-head, All-tail}
use Rattle.scram_types.specs.declared.ids.AppId.{AppId}
use Rattle.scram_types.specs.declared.specification.AppSpec.{AppSpec}
use Rattle.dep_order.specs.Ranks.{rank_after, IsRanking, Needs, NeedsInTurn, IsCycle}
use Rattle.spec_reading.specs.Needs.{longest_chains, are_ranked}

capped_at : (k : ℕ) (ranks : List ℕ) (n : ℕ) → slice_index (map (min k) ranks) n ≡ min k (slice_index ranks n)
capped_at k [] n = omega arith
capped_at k (r ∷ rs) zero = refl
capped_at k (r ∷ rs) (suc n) = capped_at k rs n

capped_after : (k : ℕ) (ranks : List ℕ) (needs : List AppId) → rank_after (map (min k) ranks) needs ≡ min (suc k) (rank_after ranks needs)
capped_after k ranks [] = omega arith
capped_after k ranks (need ∷ needs) =
    let here = capped_at k ranks need.0 in
    let rest = capped_after k ranks needs in
    rw (here, rest) (omega arith)

and_false : (b : Bool) → b && false ≡ false
and_false true = refl
and_false false = refl

-- If each application has the rank that its needs determine, then the list of ranks consists of the values of
-- `rank_after`, in order.
ranks_map : (whole : List ℕ) (apps : List AppSpec) (ranks : List ℕ) → length ranks ≡ length apps
    → ((a : ℕ) (app : AppSpec) → slice_get apps a ≡ Some app → slice_get ranks a ≡ Some (rank_after whole app.needs))
    → ranks ≡ map (λ (app : AppSpec). rank_after whole app.needs) apps
ranks_map whole [] [] same each = refl
ranks_map whole [] (r ∷ rs) same each = absurd (omega (arith, same))
ranks_map whole (app ∷ apps) [] same each = absurd (omega (arith, same))
ranks_map whole (app ∷ apps) (r ∷ rs) same each =
    let here : Some r ≡ Some (rank_after whole app.needs) = each 0 app refl in
    let rest = ranks_map whole apps rs (omega (arith, same)) (λ a x e. each (suc a) x e) in
    cc

zeros : (apps : List AppSpec) (ranks : List ℕ) → length ranks ≡ length apps → map (λ (app : AppSpec). 0) apps ≡ map (min 0) ranks
zeros [] [] same = refl
zeros [] (r ∷ rs) same = absurd (omega (arith, same))
zeros (app ∷ apps) [] same = absurd (omega (arith, same))
zeros (app ∷ apps) (r ∷ rs) same = let none : min 0 r ≡ 0 = omega arith in rw (none, zeros apps rs (omega (arith, same))) refl

capped_needs : (k : ℕ) (ranks : List ℕ) (apps : List AppSpec) → map (λ (app : AppSpec). rank_after (map (min k) ranks) app.needs) apps ≡ map (min (suc k)) (map (λ (app : AppSpec). rank_after ranks app.needs) apps)
capped_needs k ranks [] = refl
capped_needs k ranks (app ∷ apps) = rw (capped_after k ranks app.needs, capped_needs k ranks apps) refl

pub capped : (apps : List AppSpec) (ranks : List ℕ) → IsRanking apps ranks → (links : ℕ) → longest_chains links apps ≡ map (min links) ranks
capped apps ranks is zero = zeros apps ranks is.count
capped apps ranks is (suc links) =
    rw (capped apps ranks is links) (capped_needs links ranks apps ∙ ap (λ (xs : List ℕ). map (min (suc links)) xs) (sym (ranks_map ranks apps ranks is.count is.ranked)))

uncapped : (ranks : List ℕ) → All (λ (rank : ℕ). rank < 8) ranks → map (min 8) ranks ≡ ranks
uncapped [] small = refl
uncapped (r ∷ rs) small =
    let low : r < 8 = All-head (λ (rank : ℕ). rank < 8) r rs small in
    let here : min 8 r ≡ r = omega (arith, low) in
    rw (here, uncapped rs (All-tail (λ (rank : ℕ). rank < 8) r rs small)) refl

at_least_needed : (ranks : List ℕ) (needs : List AppId) (place : ℕ) (b : AppId) → slice_get needs place ≡ Some b → suc (slice_index ranks b.0) ≤ rank_after ranks needs
at_least_needed ranks [] place b e = absurd (let none : None ≡ Some b = e in cc)
at_least_needed ranks (need ∷ needs) zero b e =
    let is : need ≡ b = cc in
    let same : slice_index ranks need.0 ≡ slice_index ranks b.0 = ap (λ (x : AppId). slice_index ranks x.0) is in
    omega (arith, same)
at_least_needed ranks (need ∷ needs) (suc place) b e = omega (arith, at_least_needed ranks needs place b e)

mapped_at : (f : AppSpec → ℕ) (apps : List AppSpec) (a : ℕ) (app : AppSpec) → slice_get apps a ≡ Some app → slice_index (map f apps) a ≡ f app
mapped_at f [] a app e = absurd (let none : None ≡ Some app = e in cc)
mapped_at f (x ∷ apps) zero app e = let is : x ≡ app = cc in ap f is
mapped_at f (x ∷ apps) (suc a) app e = mapped_at f apps a app e

-- If `a` needs `b`, and the longest chain from `b` has at least `links` links, then the longest chain from `a` has at
-- least `links + 1` links.
one_more_link : (links : ℕ) (apps : List AppSpec) (a b : AppId) → Needs apps a b → links ≤ slice_index (longest_chains links apps) b.0 → suc links ≤ slice_index (longest_chains (suc links) apps) a.0
one_more_link links apps a b is long =
    let here = mapped_at (λ (app : AppSpec). rank_after (longest_chains links apps) app.needs) apps a.0 is.app is.there in
    let below = at_least_needed (longest_chains links apps) is.app.needs is.place b is.named in
    omega (arith, here, below, long)

abbrev IsLong : ℕ → List AppSpec → AppId → Type 0
IsLong links apps a = links ≤ slice_index (longest_chains links apps) a.0

turns : (links : ℕ) (apps : List AppSpec) (cycle : List AppId) (end : AppId) → NeedsInTurn apps cycle end → IsLong links apps end → All (IsLong links apps) cycle → All (IsLong (suc links) apps) cycle
turns links apps [] end closed last long = All-nil (IsLong (suc links) apps)
turns links apps (a ∷ []) end closed last long =
    All-cons (IsLong (suc links) apps) a [] (one_more_link links apps a end closed last) (All-nil (IsLong (suc links) apps))
turns links apps (a ∷ b ∷ rest) end closed last long =
    let later = All-tail (IsLong links apps) a (b ∷ rest) long in
    All-cons (IsLong (suc links) apps) a (b ∷ rest) (one_more_link links apps a b closed.0 (All-head (IsLong links apps) b rest later))
    (turns links apps (b ∷ rest) end closed.1 last later)

all_of : (P : AppId → Type 0) → ((a : AppId) → P a) → (xs : List AppId) → All P xs
all_of P each [] = All-nil P
all_of P each (x ∷ xs) = All-cons P x xs (each x) (all_of P each xs)

goes_on : (links : ℕ) (apps : List AppSpec) (first : AppId) (others : List AppId) → NeedsInTurn apps (first ∷ others) first → All (IsLong links apps) (first ∷ others)
goes_on zero apps first others closed = all_of (IsLong zero apps) (λ a. omega arith) (first ∷ others)
goes_on (suc links) apps first others closed =
    let before = goes_on links apps first others closed in
    turns links apps (first ∷ others) first closed (All-head (IsLong links apps) first others before) before

not_all : (ranks : List ℕ) (n : ℕ) → 8 ≤ slice_index ranks n → list_all (λ (rank : ℕ). nat_lt rank 8) ranks ≡ false
not_all [] n high = absurd (omega (arith, high))
not_all (r ∷ rs) zero high = let no_rank : nat_lt r 8 ≡ false = grind (arith, nat_tests, high) in rw (no_rank) refl
not_all (r ∷ rs) (suc n) high = rw (not_all rs n high) (and_false (nat_lt r 8))

-- Applications with a cycle of needs cannot be ranked.
pub cycle_unranked : (apps : List AppSpec) (cycle : List AppId) → IsCycle apps cycle → are_ranked apps ≡ false
cycle_unranked apps cycle is =
    let closed : NeedsInTurn apps (is.first ∷ is.others) is.first = subst (λ (xs : List AppId). NeedsInTurn apps xs is.first) is.is is.closed in
    not_all (longest_chains 8 apps) is.first.0 (All-head (IsLong 8 apps) is.first is.others (goes_on 8 apps is.first is.others closed))

pub all_small : (ranks : List ℕ) → All (λ (rank : ℕ). rank < 8) ranks → list_all (λ (rank : ℕ). nat_lt rank 8) ranks ≡ true
all_small [] small = refl
all_small (r ∷ rs) small =
    let low : r < 8 = All-head (λ (rank : ℕ). rank < 8) r rs small in
    let is : nat_lt r 8 ≡ true = grind (arith, nat_tests, low) in
    rw (is, all_small rs (All-tail (λ (rank : ℕ). rank < 8) r rs small)) refl

-- If the needs determine the ranks, and each rank is below 8, the ranks are the lengths of the longest chains.
pub ranks_are : (apps : List AppSpec) (ranks : List ℕ) → IsRanking apps ranks → All (λ (rank : ℕ). rank < 8) ranks → longest_chains 8 apps ≡ ranks
ranks_are apps ranks is small = capped apps ranks is 8 ∙ uncapped ranks small

pub ranking_ranked : (apps : List AppSpec) (ranks : List ℕ) → IsRanking apps ranks → All (λ (rank : ℕ). rank < 8) ranks → are_ranked apps ≡ true
ranking_ranked apps ranks is small = rw (ranks_are apps ranks is small) (all_small ranks small)
