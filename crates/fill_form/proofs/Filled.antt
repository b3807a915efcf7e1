-- A filled-in specification satisfies the invariant and can be written as a document.
use Rattle.std.proofs.Common.{◌≡◌, ◌∙◌, ℕ, ◌+◌, ◌<◌, ◌≤◌, Bool, true, false, not, refl, arith, ap, sym, List, [], ◌∷◌, length, map}
use Rattle.std.specs.Prelude.{None, max, nat_lt, ◌==◌, ◌||◌, if◌then◌else◌}
use Rattle.std.specs.List.{AllByRecursion}
use Rattle.std.proofs.lemmas.Bool.{not-true}
use Rattle.scram_types.specs.declared.ids.ConfId.{ConfId}
use Rattle.scram_types.specs.declared.specification.Bound.{Bound}
use Rattle.scram_types.specs.Specification.{IsBound, IsSpec, Parts}
use Rattle.scram_types.specs.Lookups.{conf_id}
use Rattle.scram_types.proofs.Booleans.{and_false, and_left, and_right, by_bool, true_false}
use Rattle.scram_types.proofs.Naturals.{equal, not_below}
use Rattle.scram_types.proofs.Options.{none_left, none_right}
use Rattle.scram_types.proofs.Searches.{below_none}
use Rattle.coverage_check.proofs.Showing.{not_shown}
use Rattle.coverage_check.specs.Timing.{greatest_bound, is_bound_asked, least}
use Rattle.spec_reading.specs.Writable.{IsWritable}
use Rattle.fill_form.specs.Filling.{filled, filled_bounds, is_bound_missing, least_bound, missing_bounds, raised}
use Rattle.fill_form.specs.Refusing.{asks_too_long, long_refusal, long_refusal_of, length_refusal, wide_refusal}
use Rattle.fill_form.proofs.Apart.{Apart, IsNear, all_append, all_of_each, all_weaker, apart_append, apart_few, apart_of_new, each_of_all, gives, gives_cons, gives_own, is_for, new_of_apart, none_of}
use Rattle.fill_form.proofs.Missing.{all_missing, apart_missing}

fits_if : (t : Bool) (frames needed : ℕ) → 1 ≤ frames → frames ≤ 1000 → (t ≡ true → needed ≤ 1000)
    → (1 ≤ (if t then max frames needed else frames)) × ((if t then max frames needed else frames) ≤ 1000)
fits_if true frames needed low high fits = let most = fits refl in (omega (arith, low), omega (arith, high, most))
fits_if false frames needed low high fits = (low, high)

some_sum : (a b c d : ℕ) → 1 ≤ 1 + a + b + c + d
some_sum a b c d = omega arith

pub least_some : (spec : Parts) (i j : ConfId) → 1 ≤ least spec i j
least_some spec i j = some_sum _ _ _ _

-- Lemmas that raised bounds are for the same pairs of configurations as before.

pub all_raised : (spec : Parts) (P Q : Bound → Type 0) (xs : List Bound) → ((x : Bound) → P x → Q (raised spec x)) → AllByRecursion P xs → AllByRecursion Q (map (raised spec) xs)
all_raised spec P Q [] turn all = tt
all_raised spec P Q (x ∷ xs) turn all = (turn x all.0, all_raised spec P Q xs turn all.1)

pub gives_raised : (spec : Parts) (xs : List Bound) (i j : ℕ) → gives (map (raised spec) xs) i j ≡ gives xs i j
gives_raised spec [] i j = refl
gives_raised spec (x ∷ xs) i j =
    gives_cons (raised spec x) (map (raised spec) xs) i j ∙ ap (λ (b : Bool). is_for i j x || b) (gives_raised spec xs i j) ∙ sym (gives_cons x xs i j)

apart_raised : (spec : Parts) (xs : List Bound) → Apart xs → Apart (map (raised spec) xs)
apart_raised spec [] apart = tt
apart_raised spec (x ∷ xs) apart = (gives_raised spec xs x.from.0 x.to.0 ∙ apart.0, apart_raised spec xs apart.1)

-- If the specification gives a bound for a pair, no missing bound is for this pair.
none_missing : (spec : Parts) (i j : ℕ) → gives spec.bounds i j ≡ true → gives (missing_bounds spec) i j ≡ false
none_missing spec i j some = none_of (missing_bounds spec) i j (all_missing spec (λ (x : Bound). is_for i j x ≡ false)
    (λ k m left right missing. by_bool (is_for i j (least_bound spec k m))
    (λ t.
    let from : k ≡ i = equal k i (and_left (k == i) (m == j) t) in
    let to : m ≡ j = equal m j (and_right (k == i) (m == j) t) in
    let given : gives spec.bounds k m ≡ true = rw (from, to) some in
    true_false (gives spec.bounds k m) given (not-true (gives spec.bounds k m) (and_right (is_bound_asked spec (conf_id k) m) (not (gives spec.bounds k m)) missing)))
    (λ f. f)))

module _ (spec : Parts) (made : IsSpec spec) (writable : IsWritable spec) (free : length_refusal spec ≡ None) where
  -- The smallest sufficient bound for each pair that requires a bound is at most 1000 frames.
  pub least_fits : (i j : ConfId) → i.0 < length spec.confs → j.0 < length spec.confs → is_bound_asked spec i j.0 ≡ true → least spec i j ≤ 1000
  least_fits i j left right asked =
      let row : long_refusal_of spec i.0 ≡ None = below_none (long_refusal_of spec) (length spec.confs) i.0 (none_left (long_refusal spec) (wide_refusal (greatest_bound (filled_bounds spec))) free) left in
      let fits : asks_too_long spec i.0 j.0 ≡ false = not_shown (asks_too_long spec i.0 j.0) _ (below_none _ (length spec.confs) j.0 row right) in
      not_below 1000 (least spec i j) (and_false (is_bound_asked spec i j.0) (nat_lt 1000 (least spec i j)) fits asked)

  raised_fits : (x : Bound) → IsBound spec.confs x → IsBound spec.confs (raised spec x)
  raised_fits x is =
      let frames = fits_if (is_bound_asked spec x.from x.to.0) x.frames (least spec x.from x.to) is.least is.most (least_fits x.from x.to is.from is.to) in
      record { from = is.from; to = is.to; least = frames.0; most = frames.1 }

  missing_fits : (i j : ℕ) → i < length spec.confs → j < length spec.confs → is_bound_missing spec i j ≡ true → IsBound spec.confs (least_bound spec i j)
  missing_fits i j left right missing = record {
    from = left;
    to = right;
    least = least_some spec (conf_id i) (conf_id j);
    most = least_fits (conf_id i) (conf_id j) left right (and_left (is_bound_asked spec (conf_id i) j) (not (gives spec.bounds i j)) missing);
  }

  pub filled_fits : AllByRecursion (IsBound spec.confs) (filled_bounds spec)
  filled_fits = all_append (IsBound spec.confs) (map (raised spec) spec.bounds) (missing_bounds spec)
      (all_raised spec (IsBound spec.confs) (IsBound spec.confs) spec.bounds raised_fits (all_of_each (IsBound spec.confs) spec.bounds made.bounds))
      (all_missing spec (IsBound spec.confs) missing_fits)

  apart_filled : Apart (filled_bounds spec)
  apart_filled = apart_append (map (raised spec) spec.bounds) (missing_bounds spec) (apart_raised spec spec.bounds (apart_of_new spec.bounds writable.bounds)) (apart_missing spec)
      (all_raised spec (λ (x : Bound). gives spec.bounds x.from.0 x.to.0 ≡ true) (λ (x : Bound). gives (missing_bounds spec) x.from.0 x.to.0 ≡ false) spec.bounds
      (λ x some. none_missing spec x.from.0 x.to.0 some) (gives_own spec.bounds))

  filled_few : length (filled_bounds spec) ≤ 144
  filled_few =
      let confs = made.confs_count.few in
      apart_few (filled_bounds spec) apart_filled
      (all_weaker (IsBound spec.confs) IsNear (filled_bounds spec) (λ x is. (let from = is.from in omega (arith, from, confs), let to = is.to in omega (arith, to, confs))) filled_fits)

  -- The window for the greatest filled-in bound is at most 1000 frames.
  pub greatest_fits : greatest_bound (filled_bounds spec) + 1 ≤ 1000
  greatest_fits =
      not_below 1000 (greatest_bound (filled_bounds spec) + 1)
      (not_shown (nat_lt 1000 (greatest_bound (filled_bounds spec) + 1)) _ (none_right (long_refusal spec) (wide_refusal (greatest_bound (filled_bounds spec))) free))

  pub filled_is_spec : IsSpec (filled spec)
  filled_is_spec = record {
    names = record {
      procs = made.names.procs;
      apps = made.names.apps;
      confs = made.names.confs;
      factors = made.names.factors;
      values = made.names.values;
      demands = made.names.demands;
    };
    procs_count = made.procs_count;
    procs_differ = made.procs_differ;
    procs = made.procs;
    apps_count = made.apps_count;
    apps_differ = made.apps_differ;
    apps = made.apps;
    confs_count = made.confs_count;
    confs_differ = made.confs_differ;
    confs = made.confs;
    factors_count = made.factors_count;
    factors_differ = made.factors_differ;
    factors = made.factors;
    rules_count = made.rules_count;
    rules = made.rules;
    bounds_count = filled_few;
    bounds = each_of_all (IsBound spec.confs) (filled_bounds spec) filled_fits;
    start = made.start;
    goal = made.goal;
    invariants_count = made.invariants_count;
    invariants = made.invariants;
    preconditions_count = made.preconditions_count;
    preconditions = made.preconditions;
    demands_count = made.demands_count;
    demands_differ = made.demands_differ;
    demands = made.demands;
    halts = made.halts;
    changes = made.changes;
    window_least = let low = made.window_least in omega (arith, low);
    window_most = let high = made.window_most in let greatest = greatest_fits in omega (arith, high, greatest);
  }

  pub filled_is_writable : IsWritable (filled spec)
  filled_is_writable = record {
    apps = writable.apps;
    ranks = writable.ranks;
    rules = writable.rules;
    bounds = new_of_apart (filled_bounds spec) apart_filled;
    invariants = writable.invariants;
    preconditions = writable.preconditions;
    demands = writable.demands;
  }
