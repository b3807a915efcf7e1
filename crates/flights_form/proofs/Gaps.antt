-- Lemmas that the longest gap of the applications is found if they are searched from the last to the first.
use Rattle.std.proofs.Common.{◌≡◌, ◌∙◌, ◌<◌, ◌≤◌, ◌+◌, ◌-◌, ℕ, zero, suc, List, [], ◌∷◌, arith, drop, length, refl, sym}
use Rattle.std.specs.Prelude.{Option}
use Rattle.scram_types.specs.declared.rows.Row.{Row}
use Rattle.scram_types.specs.declared.specification.AppSpec.{AppSpec}
use Rattle.flights_form.specs.declared.facts.AppGap.{AppGap}
use Rattle.flights_form.specs.Facts.{gap_of_app, greater_gap, greatest_gap}

at_app : (rows : List Row) (a i : ℕ) (apps : List AppSpec) → i < length apps
    → greatest_gap rows a (drop i apps) ≡ greater_gap (gap_of_app rows a) (greatest_gap rows (a + 1) (drop (suc i) apps))
at_app rows a i [] below = absurd (omega (arith, below))
at_app rows a zero (app ∷ apps) below = refl
at_app rows a (suc i) (app ∷ apps) below = at_app rows a i apps (omega (arith, below))

-- The longer of the gap of application `a - 1` and the longest gap from application `a` on is the longest gap from
-- application `a - 1` on.
pub gap_before : (rows : List Row) (a : ℕ) (apps : List AppSpec) (so_far found : Option AppGap) → 0 < a → a ≤ length apps → so_far ≡ greatest_gap rows a (drop a apps)
    → found ≡ greater_gap (gap_of_app rows (a - 1)) so_far → found ≡ greatest_gap rows (a - 1) (drop (a - 1) apps)
gap_before rows a apps so_far found some most known is =
    let same : a - 1 + 1 ≡ a = omega (arith, some) in
    let next : suc (a - 1) ≡ a = omega (arith, some) in
    let step : greatest_gap rows (a - 1) (drop (a - 1) apps) ≡ greater_gap (gap_of_app rows (a - 1)) (greatest_gap rows a (drop a apps)) =
    rw (same, next) at (at_app rows (a - 1) (a - 1) apps (omega (arith, some, most))) in
    is ∙ (rw known (sym step))
