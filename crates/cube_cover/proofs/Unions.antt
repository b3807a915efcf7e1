-- Lemmas on the environments in a list of cubes, and on the first environment that passes a test.
use Rattle.std.proofs.Common.{◌≡◌, ◌∙◌, ℕ, ◌+◌, ◌<◌, ◌≤◌, refl, ap, sym, arith, Bool, true, false, ◌||◌, List, [], ◌∷◌, ◌++◌, length, take, get_or}
use Rattle.std.specs.Prelude.{Option, Some, None, nat_le}
use Rattle.std.specs.List.{list_any}
use Rattle.std.proofs.Math.Bool.{or-false}
use Rattle.std.proofs.lemmas.List.{take_more}
use Rattle.std.proofs.lemmas.List.Folds.{list_any-append}
use Rattle.scram_types.specs.declared.rows.Env.{Env}
use Rattle.scram_types.specs.Specification.{Parts}
use Rattle.scram_types.proofs.Booleans.{by_bool, or_left, or_right, true_false}
use Rattle.scram_types.proofs.Naturals.{above, at_most}
use Rattle.choice_table.specs.Numbering.{number_of}
use Rattle.cube_cover.specs.declared.cubes.Cube.{Cube}
use Rattle.cube_cover.specs.Covers.{IsLeast, IsLeastEnv, earlier_env}
use Rattle.cube_cover.specs.Cubes.{Agree, holds, is_in}

-- Of the first environments that pass each of two tests, the earlier environment is the first that passes either
-- test.

either_false : (a b : Bool) → a ≡ false → b ≡ false → (a || b) ≡ false
either_false true b e f = e
either_false false b e f = f

cases_of : {P : Type 0} (a b : Bool) → (a || b) ≡ true → (a ≡ true → P) → (b ≡ true → P) → P
cases_of true b e f g = f refl
cases_of false b e f g = g e

pub least_either : (spec : Parts) (s t : Env → Bool) (o p : Option Env) → IsLeastEnv spec s o → IsLeastEnv spec t p → IsLeastEnv spec (λ v. s v || t v) (earlier_env spec o p)
least_either spec s t None None a b = λ v known scope. either_false (s v) (t v) (a v known scope) (b v known scope)
least_either spec s t (Some f) None a b = record {
  belongs = a.belongs;
  scope = a.scope;
  passes = or_left (s f) (t f) a.passes;
  least = λ v known scope test. cases_of (s v) (t v) test (λ e. a.least v known scope e) (λ e. true_false (t v) e (b v known scope));
}
least_either spec s t None (Some g) a b = record {
  belongs = b.belongs;
  scope = b.scope;
  passes = or_right (s g) (t g) b.passes;
  least = λ v known scope test. cases_of (s v) (t v) test (λ e. true_false (s v) e (a v known scope)) (λ e. b.least v known scope e);
}
least_either spec s t (Some f) (Some g) a b = by_bool (nat_le (number_of spec f) (number_of spec g))
    (λ e. rw (e) (first (at_most (number_of spec f) (number_of spec g) e)))
    (λ e. rw (e) (second (above (number_of spec f) (number_of spec g) e)))
  where
    first : number_of spec f ≤ number_of spec g → IsLeast spec (λ v. s v || t v) f
    first less = record {
      belongs = a.belongs;
      scope = a.scope;
      passes = or_left (s f) (t f) a.passes;
      least = λ v known scope test. cases_of (s v) (t v) test (λ e. a.least v known scope e) (λ e. let after = b.least v known scope e in omega arith);
    }

    second : number_of spec g < number_of spec f → IsLeast spec (λ v. s v || t v) g
    second less = record {
      belongs = b.belongs;
      scope = b.scope;
      passes = or_right (s g) (t g) b.passes;
      least = λ v known scope test. cases_of (s v) (t v) test (λ e. let after = a.least v known scope e in omega arith) (λ e. b.least v known scope e);
    }

-- Two tests that agree on all environments in scope have the same first environment.

pub least_same : (spec : Parts) (s t : Env → Bool) (o : Option Env) → Agree spec s t → IsLeastEnv spec s o → IsLeastEnv spec t o
least_same spec s t None agree a = λ v known scope. sym (agree v (record { belongs = known; scope = scope })) ∙ a v known scope
least_same spec s t (Some f) agree a = record {
  belongs = a.belongs;
  scope = a.scope;
  passes = sym (agree f (record { belongs = a.belongs; scope = a.scope })) ∙ a.passes;
  least = λ v known scope test. a.least v known scope (agree v (record { belongs = known; scope = scope }) ∙ test);
}

-- Lemmas on a list of cubes with one more cube.

pub in_none : (v : Env) → is_in [] v ≡ false
unfolding is_in
in_none v = refl

pub in_more : (cubes : List Cube) (cube : Cube) (v : Env) → is_in (cubes ++ cube ∷ []) v ≡ (is_in cubes v || holds cube v)
unfolding is_in
in_more cubes cube v = list_any-append (λ (c : Cube). holds c v) cubes (cube ∷ []) ∙ ap (λ (b : Bool). list_any (λ (c : Cube). holds c v) cubes || b) (or-false (holds cube v))

pub taken_more : (cubes : List Cube) (k : ℕ) (d : Cube) (v : Env) → k < length cubes → is_in (take (k + 1) cubes) v ≡ (is_in (take k cubes) v || holds (get_or cubes k d) v)
taken_more cubes k d v low = ap (λ (xs : List Cube). is_in xs v) (take_more cubes k d low) ∙ in_more (take k cubes) (get_or cubes k d) v
