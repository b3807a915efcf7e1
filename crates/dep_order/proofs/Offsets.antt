-- Lemmas on the charts of a specification: ranks fall along the charts, and phases end in time.
use Rattle.std.proofs.Common.{◌≡◌, ℕ, suc, ◌+◌, ◌-◌, ◌<◌, ◌≤◌, Bool, true, false, refl, arith, ap, sym, ◌∙◌, List, [], ◌∷◌, length}
use Rattle.std.specs.Prelude.{Option, Some, None, ◌==◌, ◌||◌, if◌then◌else◌, nat_lt, slice_get}
use Rattle.std.specs.Option.{option_map_or}
use Rattle.std.proofs.lemmas.Bool.Decides.{nat_tests}
use Rattle.scram_types.proofs.Naturals.{equal}
use Rattle.scram_types.specs.declared.ids.AppId.{AppId}
use Rattle.scram_types.specs.declared.ids.ConfId.{ConfId}
use Rattle.scram_types.specs.declared.specification.AppSpec.{AppSpec}
use Rattle.scram_types.specs.Specification.{IsSpec, Parts}
use Rattle.scram_types.specs.Searches.{greatest_below}
use Rattle.scram_types.specs.Lookups.{is_on}
use Rattle.scram_types.proofs.Searches.{greatest_most, greatest_within}
use Rattle.dep_order.specs.Timetables.{OffsetsAreGreatestSums, PhasesEndInTime, halt_chart, halt_offset, halt_time, init_chart, init_offset, init_time, is_named, needs, prepare_time, where_on}
use Rattle.dep_order.proofs.Chains.{IsRanked, has_first, is_offset, longest_ranked}
use Rattle.dep_order.proofs.Modes.{IsTimed, timed}

abbrev pub rank_of : Parts → ℕ → ℕ
rank_of spec a = option_map_or (λ (app : AppSpec). app.rank) (slice_get spec.apps a) 0

-- The rank of application `b` is below 8 and higher than the rank of application `a`. This holds if `b` needs `a`.
record Rises (spec : Parts) (b a : ℕ) : Type 0 where
  rises : rank_of spec a < rank_of spec b
  few : rank_of spec b < 8

Named : List AppId → ℕ → Type 0
Named ids a = (k : ℕ) × (id : AppId) × (slice_get ids k ≡ Some id) × (id.0 ≡ a)

named_in : (id : AppId) (ids : List AppId) (a : ℕ) (here : Bool) → (id.0 == a) ≡ here → (is_named ids a ≡ true → Named ids a)
    → (here || is_named ids a) ≡ true → Named (id ∷ ids) a
unfolding Named
named_in id ids a true is rest h = (0, id, refl, equal id.0 a is)
named_in id ids a false is rest h = let found = rest h in (suc found.0, found.1, found.2, found.3)

named : (ids : List AppId) (a : ℕ) → is_named ids a ≡ true → Named ids a
named [] a h = absurd (cc)
named (id ∷ ids) a h = named_in id ids a (id.0 == a) refl (named ids a) h

needs_by : (spec : Parts) → IsSpec spec → (b a : ℕ) (app : Option AppSpec) → slice_get spec.apps b ≡ app
    → option_map_or (λ (app : AppSpec). is_named app.needs a) app false ≡ true → Rises spec b a
unfolding Named
needs_by spec known b a None is h = absurd (cc)
needs_by spec known b a (Some app) is h =
    let found = named app.needs a h in
    let fits = known.apps b app is in
    let needed = fits.needs found.0 found.1 found.2 in
    let falls = needed.falls in
    let there : slice_get spec.apps a ≡ Some needed.lower = ap (λ n. slice_get spec.apps n) (sym found.3) ∙ needed.there in
    record {
      rises = rw (is, there) falls;
      few = rw (is) fits.rank;
    }

needs_rise : (spec : Parts) → IsSpec spec → (b a : ℕ) → needs spec b a ≡ true → Rises spec b a
needs_rise spec known b a h = needs_by spec known b a (slice_get spec.apps b) refl h

rank_by : (spec : Parts) → IsSpec spec → (a : ℕ) (app : Option AppSpec) → slice_get spec.apps a ≡ app → rank_of spec a < 8
rank_by spec known a None is = rw (is) (omega arith)
rank_by spec known a (Some app) is = rw (is) (known.apps a app is).rank

rank_below : (spec : Parts) → IsSpec spec → (a : ℕ) → rank_of spec a < 8
rank_below spec known a = rank_by spec known a (slice_get spec.apps a) refl

halt_ranked : (spec : Parts) → IsSpec spec → (c : ConfId) → IsRanked (halt_chart spec c) (rank_of spec)
halt_ranked spec known c = record {
  falls = λ b a h. (needs_rise spec known b a h).rises;
  below = λ a less. rank_below spec known a;
}

init_ranked : (spec : Parts) → IsSpec spec → (c : ConfId) → IsRanked (init_chart spec c) (λ a. 7 - rank_of spec a)
init_ranked spec known c = record {
  falls = λ b a h. (let up = needs_rise spec known a b h in let more = up.rises in let few = up.few in omega arith);
  below = λ a less. omega arith;
}

pub offsets_are_sums : OffsetsAreGreatestSums
offsets_are_sums spec known c = record {
  halt = is_offset (halt_chart spec c) (rank_of spec) (halt_ranked spec known c);
  init = is_offset (init_chart spec c) (λ a. 7 - rank_of spec a) (init_ranked spec known c);
}

on_value : (b : Bool) (n : ℕ) → b ≡ true → (if b then n else 0) ≡ n
on_value true n h = refl
on_value false n h = absurd (cc)

if_below : (b : Bool) (n most : ℕ) → (b ≡ true → n ≤ most) → (if b then n else 0) ≤ most
if_below true n most h = h refl
if_below false n most h = omega arith

some_time : (on : Bool) (n : ℕ) → IsTimed on n → on ≡ true → 1 ≤ n
some_time on n time h = let test : nat_lt 0 n ≡ true = sym time.test ∙ h in grind (arith, nat_tests)

-- The value of an application that is on is at most the maximum of the values of all applications that are on.
ends : (spec : Parts) → IsSpec spec → (c : ConfId) (value : ℕ → ℕ) (a : ℕ) → is_on spec c a ≡ true
    → value a ≤ greatest_below (λ a. where_on spec c a (value a)) (length spec.apps)
ends spec known c value a on =
    let last = greatest_most (λ a. where_on spec c a (value a)) (length spec.apps) a ((timed spec known c a).inside on) in
    rw (on_value (is_on spec c a) (value a) on) at last

pub phases_in_time : PhasesEndInTime
phases_in_time spec known c = record {
  halts = λ a on. ends spec known c (λ a. halt_offset spec c a + halt_time spec c a) a on;
  prepares = λ a on. greatest_most (prepare_time spec c) (length spec.apps) a ((timed spec known c a).inside on);
  initialises = λ a on. ends spec known c (λ a. init_offset spec c a + init_time spec c a) a on;
  halt_least = λ a on. some_time (is_on spec c a) (halt_time spec c a) (timed spec known c a).halt on;
  prepare_least = λ a on. some_time (is_on spec c a) (prepare_time spec c a) (timed spec known c a).prepare on;
  init_least = λ a on. some_time (is_on spec c a) (init_time spec c a) (timed spec known c a).init on;
  halt_first = has_first (halt_chart spec c) (rank_of spec) (halt_ranked spec known c);
  init_first = has_first (init_chart spec c) (λ a. 7 - rank_of spec a) (init_ranked spec known c);
  halt_most = greatest_within (λ a. where_on spec c a (halt_offset spec c a + halt_time spec c a)) (length spec.apps) 128 (λ a less.
      if_below (is_on spec c a) (halt_offset spec c a + halt_time spec c a) 128 (λ on.
      let before = longest_ranked (halt_chart spec c) (rank_of spec) (halt_ranked spec known c) (λ b inside. (timed spec known c b).halt.most) 8 a less in
      let own = (timed spec known c a).halt.most in
      omega arith));
  prepare_most = greatest_within (prepare_time spec c) (length spec.apps) 16 (λ a less. (timed spec known c a).prepare.most);
  init_most = greatest_within (λ a. where_on spec c a (init_offset spec c a + init_time spec c a)) (length spec.apps) 128 (λ a less.
      if_below (is_on spec c a) (init_offset spec c a + init_time spec c a) 128 (λ on.
      let before = longest_ranked (init_chart spec c) (λ a. 7 - rank_of spec a) (init_ranked spec known c) (λ b inside. (timed spec known c b).init.most) 8 a less in
      let own = (timed spec known c a).init.most in
      omega arith));
}
