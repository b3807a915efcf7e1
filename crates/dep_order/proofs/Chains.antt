-- If ranks fall along a chart, the offsets of the chart are maximum sums of times along chains.
use Rattle.std.proofs.Common.{◌≡◌, ℕ, zero, suc, ◌+◌, ◌*◌, ◌-◌, ◌<◌, ◌≤◌, Bool, true, false, refl, arith, ◌⊎◌, ap, sym, ◌∙◌, List, [], ◌∷◌, length}
use mathlib.Core.Logic.{inl, inr}
use Rattle.std.specs.Prelude.{◌&&◌, if◌then◌else◌}
use Rattle.scram_types.proofs.Booleans.{true_false}
use Rattle.scram_types.proofs.Naturals.{below_or_at}
use Rattle.scram_types.proofs.Searches.{greatest_most, greatest_reached, greatest_within, greatest_zero}
use Rattle.dep_order.specs.Chains.{Chain, Chart, HasFirst, IsOffset, chain_time, longest, time_added}

-- An application that goes before another has the higher rank, and all ranks are below 8.
pub record IsRanked (chart : Chart) (rank : ℕ → ℕ) : Type 0 where
  pub falls : (b a : ℕ) → chart.before b a ≡ true → rank a < rank b
  pub below : (a : ℕ) → a < chart.apps → rank a < 8

by_if : (a b : Bool) (x : ℕ) → ((if a && b then x else 0) ≡ 0) ⊎ ((a ≡ true) × (b ≡ true) × ((if a && b then x else 0) ≡ x))
by_if true true x = inr (refl, refl, refl)
by_if true false x = inl refl
by_if false b x = inl refl

le_cases : (a b : ℕ) → (a ≤ b) ⊎ (b < a)
le_cases a b = grind arith

module _ (chart : Chart) (rank : ℕ → ℕ) (ranked : IsRanked chart rank) where
  chain_most : (links a : ℕ) (bs : List ℕ) → length bs ≤ links → Chain chart bs a → chain_time chart bs ≤ longest chart links a
  chain_most links a [] short h = omega arith
  chain_most zero a (b ∷ bs) short h = absurd (omega arith)
  chain_most (suc links) a (b ∷ bs) short h =
      let rest = chain_most links b bs (omega arith) h.3 in
      let here = greatest_most (time_added chart (longest chart links) a) chart.apps b h.0 in
      let value : time_added chart (longest chart links) a b ≡ chart.time b + longest chart links b = rw (h.1, h.2) refl in
      omega arith

  chain_short : (a : ℕ) (bs : List ℕ) → a < chart.apps → Chain chart bs a → length bs + rank a < 8
  chain_short a [] known h = let low = ranked.below a known in omega arith
  chain_short a (b ∷ bs) known h =
      let rest = chain_short b bs h.0 h.3 in
      let rises = ranked.falls b a h.2 in
      omega arith

  chain_length : (a : ℕ) (bs : List ℕ) → Chain chart bs a → length bs ≤ 8
  chain_length a [] h = omega arith
  chain_length a (b ∷ bs) h = let rest = chain_short b bs h.0 h.3 in omega arith

  chain_reached : (links a : ℕ) → (bs : List ℕ) × Chain chart bs a × (chain_time chart bs ≡ longest chart links a)
  chain_reached zero a = ([], tt, refl)
  chain_reached (suc links) a = elim (greatest_reached (time_added chart (longest chart links) a) chart.apps) [
    | inl z ↦ ([], tt, sym z)
    | inr r ↦ elim (by_if (chart.on r.0) (chart.before r.0 a) (chart.time r.0 + longest chart links r.0)) [
      | inl z ↦ ([], tt, sym (r.2 ∙ z))
      | inr t ↦ (let rest = chain_reached links r.0 in (r.0 ∷ rest.0, (r.1, t.0, t.1, rest.1), ap (λ x. chart.time r.0 + x) rest.2 ∙ sym (r.2 ∙ t.2)))
    ]
  ]

  pub is_offset : IsOffset chart
  is_offset = record {
    reached = λ a. chain_reached 8 a;
    most = λ a bs h. chain_most 8 a bs (chain_length a bs h) h;
  }

  -- An application that is on and has a number below `n`. No other such application has a higher rank.
  pub record Top (n : ℕ) : Type 0 where
    pub app : ℕ
    pub inside : app < n
    pub on : chart.on app ≡ true
    pub highest : (b : ℕ) → b < n → chart.on b ≡ true → rank b ≤ rank app

  NoneOn : ℕ → Type 0
  NoneOn n = (a : ℕ) → a < n → chart.on a ≡ true → ⊥

  top_here : (n : ℕ) → chart.on n ≡ true → NoneOn n → Top (suc n)
  unfolding NoneOn
  top_here n here none = record {
    app = n;
    inside = omega arith;
    on = here;
    highest = λ b less on. elim (below_or_at b n less) [ inl e ↦ absurd (none b e on) | inr e ↦ rw e (omega arith) ];
  }

  top_more : (n : ℕ) → chart.on n ≡ true → Top n → Top (suc n)
  top_more n here t = elim (le_cases (rank n) (rank t.app)) [
    | inl low ↦ record {
      app = t.app;
      inside = (let i = t.inside in omega arith);
      on = t.on;
      highest = λ b less on. elim (below_or_at b n less) [ inl e ↦ t.highest b e on | inr e ↦ rw e low ];
    }
    | inr high ↦ record {
      app = n;
      inside = omega arith;
      on = here;
      highest = λ b less on. elim (below_or_at b n less) [ inl e ↦ (let h = t.highest b e on in omega arith) | inr e ↦ rw e (omega arith) ];
    }
  ]

  top_same : (n : ℕ) → chart.on n ≡ false → Top n → Top (suc n)
  top_same n off t = record {
    app = t.app;
    inside = (let i = t.inside in omega arith);
    on = t.on;
    highest = λ b less on. elim (below_or_at b n less) [ inl e ↦ t.highest b e on | inr e ↦ true_false (chart.on b) on (rw e off) ];
  }

  top_step : (n : ℕ) (b : Bool) → chart.on n ≡ b → NoneOn n ⊎ Top n → NoneOn (suc n) ⊎ Top (suc n)
  unfolding NoneOn
  top_step n true here before = elim before [ inl none ↦ inr (top_here n here none) | inr t ↦ inr (top_more n here t) ]
  top_step n false off before = elim before [
    | inl none ↦ inl (λ a less on. elim (below_or_at a n less) [ inl e ↦ none a e on | inr e ↦ true_false (chart.on a) on (rw e off) ])
    | inr t ↦ inr (top_same n off t)
  ]

  top : (n : ℕ) → NoneOn n ⊎ Top n
  unfolding NoneOn
  top zero = inl (λ a less on. omega arith)
  top (suc n) = top_step n (chart.on n) refl (top n)

  top_zero : (links : ℕ) → (t : Top chart.apps) → longest chart links t.app ≡ 0
  top_zero zero t = refl
  top_zero (suc links) t = greatest_zero (time_added chart (longest chart links) t.app) chart.apps (λ b less.
      elim (by_if (chart.on b) (chart.before b t.app) (chart.time b + longest chart links b)) [
        | inl z ↦ z
        | inr r ↦ (let rises = ranked.falls b t.app r.1 in let h = t.highest b less r.0 in absurd (omega arith))
      ])

  pub has_first : HasFirst chart
  unfolding NoneOn
  has_first = λ a known on. elim (top chart.apps) [
    | inl none ↦ absurd (none a known on)
    | inr t ↦ (t.app, t.inside, t.on, top_zero 8 t)
  ]

  -- If times are at most 16 frames, the times along a chain before an application of rank `r` sum to at most
  -- `16 * (7 - r)` frames.
  pub longest_ranked : ((b : ℕ) → b < chart.apps → chart.time b ≤ 16) → (links a : ℕ) → a < chart.apps → longest chart links a ≤ 112 - 16 * rank a
  longest_ranked few zero a known = omega arith
  longest_ranked few (suc links) a known = greatest_within (time_added chart (longest chart links) a) chart.apps (112 - 16 * rank a) (λ b less.
      elim (by_if (chart.on b) (chart.before b a) (chart.time b + longest chart links b)) [
        | inl z ↦ rw (z) (omega arith)
        | inr r ↦ (
            let rises = ranked.falls b a r.1 in
            let low = ranked.below b less in
            let time = few b less in
            let rest = longest_ranked few links b less in
            rw (r.2) (omega arith))
      ])
