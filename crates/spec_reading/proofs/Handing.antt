-- Needs and ranks are set in the applications one by one, from the last application on.
use Rattle.std.proofs.Common.{◌≡◌, ◌<◌, ℕ, List, [], ◌∷◌, ◌++◌, length, slice_index_or, slice_set, arith, refl, ap}
use Rattle.scram_types.specs.declared.ids.AppId.{AppId}
use Rattle.scram_types.specs.declared.specification.AppSpec.{AppSpec}
use Rattle.spec_reading.specs.Needs.{with_needs, with_ranks}

abbrev pub needing : AppSpec → List AppId → AppSpec
needing app named = record { name = app.name; kind = app.kind; needs = named; modes = app.modes; rank = app.rank }

pub no_needs_left : (apps : List AppSpec) → with_needs apps [] ≡ apps
no_needs_left [] = refl
no_needs_left (app ∷ apps) = refl

pub last_needs : (apps : List AppSpec) (needs : List (List AppId)) (named : List AppId) (d : AppSpec) → length needs < length apps
    → with_needs (slice_set apps (length needs) (needing (slice_index_or apps (length needs) d) named)) needs ≡ with_needs apps (needs ++ named ∷ [])
last_needs [] needs named d below = absurd (omega (arith, below))
last_needs (app ∷ apps) [] named d below = rw (no_needs_left apps) refl
last_needs (app ∷ apps) (n ∷ needs) named d below = ap (λ (rest : List AppSpec). needing app n ∷ rest) (last_needs apps needs named d (omega (arith, below)))

abbrev pub ranking : AppSpec → ℕ → AppSpec
ranking app rank = record { name = app.name; kind = app.kind; needs = app.needs; modes = app.modes; rank = rank }

pub no_ranks_left : (apps : List AppSpec) → with_ranks apps [] ≡ apps
no_ranks_left [] = refl
no_ranks_left (app ∷ apps) = refl

pub last_ranks : (apps : List AppSpec) (ranks : List ℕ) (rank : ℕ) (d : AppSpec) → length ranks < length apps
    → with_ranks (slice_set apps (length ranks) (ranking (slice_index_or apps (length ranks) d) rank)) ranks ≡ with_ranks apps (ranks ++ rank ∷ [])
last_ranks [] ranks rank d below = absurd (omega (arith, below))
last_ranks (app ∷ apps) [] rank d below = rw (no_ranks_left apps) refl
last_ranks (app ∷ apps) (n ∷ ranks) rank d below = ap (λ (rest : List AppSpec). ranking app n ∷ rest) (last_ranks apps ranks rank d (omega (arith, below)))
