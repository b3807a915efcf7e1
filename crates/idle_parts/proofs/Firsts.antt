-- Lemmas on the first rule that fits.
use Rattle.std.proofs.Common.{◌≡◌, ℕ, zero, suc, ◌<◌, ap, arith, refl, sym, List, [], ◌∷◌, true, false, subst}
use Rattle.std.specs.Prelude.{slice_get, Some}
use Rattle.scram_types.specs.Specification.{Parts}
use Rattle.scram_types.specs.declared.rows.Env.{Env}
use Rattle.scram_types.specs.declared.ids.ConfId.{ConfId}
use Rattle.scram_types.specs.declared.specification.Choice.{Choice}
use Rattle.scram_types.proofs.Booleans.{by_bool}
use Rattle.scram_types.proofs.Naturals.{equal, equal_test}
use Rattle.scram_types.proofs.Options.{same_some}
use Rattle.choice_table.specs.Choices.{rule_fits}
use Rattle.cube_cover.specs.Shares.{first_rule, is_ruled_by}
use Rattle.idle_parts.specs.Laws.{IsFirstFit}

-- If rule `k` fits and no earlier rule fits, `first_rule` returns `k`.
first_here : (rules : List Choice) (c : ConfId) (v : Env) (k : ℕ) (rule : Choice) → slice_get rules k ≡ Some rule → rule_fits c v rule ≡ true
    → ((j : ℕ) (earlier : Choice) → j < k → slice_get rules j ≡ Some earlier → rule_fits c v earlier ≡ false) → first_rule rules c v ≡ k
first_here [] c v k rule there fits before = absurd (cc)
first_here (first ∷ rules) c v zero rule there fits before =
    let here : rule_fits c v first ≡ true = subst (λ (r : Choice). rule_fits c v r ≡ true) (sym (same_some first rule there)) fits in rw (here) refl
first_here (first ∷ rules) c v (suc k) rule there fits before =
    let none : rule_fits c v first ≡ false = before 0 first (omega arith) refl in
    rw (none) (ap suc (first_here rules c v k rule there fits (λ j earlier low is. before (suc j) earlier (omega (arith, low)) is)))

-- If `first_rule` returns `k`, rule `k` fits and no earlier rule fits.
here_fits : (rules : List Choice) (c : ConfId) (v : Env) (k : ℕ) (rule : Choice) → slice_get rules k ≡ Some rule → first_rule rules c v ≡ k → rule_fits c v rule ≡ true
here_fits [] c v k rule there is = absurd (cc)
here_fits (first ∷ rules) c v zero rule there is = by_bool (rule_fits c v first)
    (λ fits. subst (λ (r : Choice). rule_fits c v r ≡ true) (same_some first rule there) fits)
    (λ fails. let more = rw (fails) at is in absurd (omega (arith, more)))
here_fits (first ∷ rules) c v (suc k) rule there is = by_bool (rule_fits c v first)
    (λ fits. let none = rw (fits) at is in absurd (omega (arith, none)))
    (λ fails. let more = rw (fails) at is in here_fits rules c v k rule there (omega (arith, more)))

earlier_fail : (rules : List Choice) (c : ConfId) (v : Env) (j : ℕ) (earlier : Choice) → slice_get rules j ≡ Some earlier → j < first_rule rules c v → rule_fits c v earlier ≡ false
earlier_fail [] c v j earlier there low = absurd (cc)
earlier_fail (first ∷ rules) c v zero earlier there low = by_bool (rule_fits c v first)
    (λ fits. let none = rw (fits) at low in absurd (omega (arith, none)))
    (λ fails. subst (λ (r : Choice). rule_fits c v r ≡ false) (same_some first earlier there) fails)
earlier_fail (first ∷ rules) c v (suc j) earlier there low = by_bool (rule_fits c v first)
    (λ fits. let none = rw (fits) at low in absurd (omega (arith, none)))
    (λ fails. let more = rw (fails) at low in earlier_fail rules c v j earlier there (omega (arith, more)))

pub ruled_first : (spec : Parts) (k : ℕ) (rule : Choice) (c : ConfId) (v : Env) → slice_get spec.rules k ≡ Some rule → IsFirstFit spec k rule c v → is_ruled_by spec c k v ≡ true
ruled_first spec k rule c v there first = equal_test _ k (first_here spec.rules c v k rule there first.fits first.before)

pub first_ruled : (spec : Parts) (k : ℕ) (rule : Choice) (c : ConfId) (v : Env) → slice_get spec.rules k ≡ Some rule → is_ruled_by spec c k v ≡ true → IsFirstFit spec k rule c v
first_ruled spec k rule c v there ruled =
    let is : first_rule spec.rules c v ≡ k = equal _ k ruled in
    record {
      fits = here_fits spec.rules c v k rule there is;
      before = λ j earlier low e. earlier_fail spec.rules c v j earlier e (omega (arith, low, is));
    }
