-- The test `has_off_need` passes for an application if and only if the application needs (`is_needed`) some
-- application that is off.
use Rattle.std.proofs.Common.{ℕ, ◌≡◌, Bool, true, false, not, length, refl, subst, sym}
use Rattle.std.specs.Prelude.{◌&&◌, ◌==◌, Option, Some, None, slice_get}
use Rattle.std.specs.Option.{option_map_or}
use Rattle.std.proofs.lemmas.Option.{slice_get_within}
use Rattle.scram_types.specs.declared.ids.AppId.{AppId}
use Rattle.scram_types.specs.declared.ids.ConfId.{ConfId}
use Rattle.scram_types.specs.declared.specification.AppSpec.{AppSpec}
use Rattle.scram_types.specs.Lookups.{is_on}
use Rattle.scram_types.specs.Searches.{any_below}
use Rattle.scram_types.specs.Specification.{IsSpec, Parts}
use Rattle.scram_types.proofs.Booleans.{and_left, and_right, and_true, same_test}
use Rattle.scram_types.proofs.Items.{any_found, any_is}
use Rattle.scram_types.proofs.Naturals.{equal, equal_test}
use Rattle.scram_types.proofs.Searches.{any_below_found, any_below_is}
use Rattle.coverage_check.specs.Form.{has_off, has_off_need}
use Rattle.condition_breaks.specs.Form.{is_one_of, is_needed}
use Rattle.condition_breaks.proofs.Firsts.{any_and}

module _ (spec : Parts) (made : IsSpec spec) (c : ConfId) (a : ℕ) where
  -- Lemmas on the needs of application `a` that are off.
  is_off : ℕ → Bool
  is_off b = not (is_on spec c b)

  off_of : Option AppSpec → ℕ → Bool
  off_of o b = option_map_or (λ (app : AppSpec). is_one_of app.needs b) o false && is_off b

  needed_off_of : (o : Option AppSpec) → slice_get spec.apps a ≡ o
      → any_below (off_of o) (length spec.apps) ≡ option_map_or (λ (needing : AppSpec). has_off spec c needing.needs) o false
  unfolding off_of is_off
  needed_off_of None at = any_and false is_off (length spec.apps)
  needed_off_of (Some app) at = same_test (any_below (off_of (Some app)) (length spec.apps)) (has_off spec c app.needs)
      (λ found.
      (let b = any_below_found (off_of (Some app)) (length spec.apps) found in
      let needed = any_found (λ (needed : AppId). needed.0 == b.0) app.needs (and_left (is_one_of app.needs b.0) (is_off b.0) b.2) in
      any_is (λ (needed : AppId). is_off needed.0) app.needs needed.0 needed.1 needed.2
      (subst (λ (n : ℕ). is_off n ≡ true) (sym (equal (needed.1).0 b.0 needed.3)) (and_right (is_one_of app.needs b.0) (is_off b.0) b.2))))
      (λ found.
      (let needed = any_found (λ (needed : AppId). is_off needed.0) app.needs found in
      let is = (made.apps a app at).needs needed.0 needed.1 needed.2 in
      any_below_is (off_of (Some app)) (length spec.apps) (needed.1).0
      (and_true (is_one_of app.needs (needed.1).0) (is_off (needed.1).0)
      (any_is (λ (other : AppId). other.0 == (needed.1).0) app.needs needed.0 needed.1 needed.2 (equal_test (needed.1).0 (needed.1).0 refl)) needed.3)
      (slice_get_within spec.apps (needed.1).0 is.lower is.there)))

  pub needed_off : any_below (λ b. is_needed spec a b && not (is_on spec c b)) (length spec.apps) ≡ has_off_need spec c a
  unfolding off_of is_off
  needed_off = needed_off_of (slice_get spec.apps a) refl
