-- The functions `number_of` and `env_of` are inverse to each other.
use Rattle.std.proofs.Common.{◌≡◌, ℕ, zero, suc, ◌+◌, ◌-◌, ◌<◌, ◌≤◌, ◌^◌, ◌/◌, ◌%◌, refl, arith, ap, ◌∙◌, List, [], ◌∷◌, ◌++◌, length, drop, take, get_or, subst, length-drop}
use Rattle.std.specs.Prelude.{Option, Some, replicate, slice_get, slice_index, unwrap_or}
use Rattle.std.proofs.Math.Nat.{mod-eq_of_lt, mod-lt}
use Rattle.std.proofs.lemmas.Option.{slice_get_within}
use Rattle.std.proofs.lemmas.List.{get_or-drop, length-append, length-replicate, take-append-drop}
use Rattle.std.proofs.lemmas.Nat.{div_below, div-mul-add, mod-mul-add, mul-add-lt, div-add-mod'}
use Rattle.scram_types.proofs.Naturals.{below_test}
use Rattle.scram_types.proofs.Equality.{same_env}
use Rattle.scram_types.proofs.Items.{zeros_everywhere}
use Rattle.scram_types.specs.declared.rows.Env.{Env}
use Rattle.scram_types.specs.declared.specification.Factor.{Factor}
use Rattle.scram_types.specs.Specification.{Each, IsFactor, Parts}
use Rattle.choice_table.specs.Environments.{IsEnv}
use Rattle.choice_table.specs.Numbering.{combinations, digits_of, down_set, env_of, environments, number_of, numbered, values_of}
use Rattle.choice_table.proofs.Bits.{others}
use Rattle.choice_table.proofs.Digits.{after, combinations_least}

-- For each factor of the list `fs`, the entry of `vs` is the index of one of the factor's values.
pub Fitting : List Factor → List ℕ → Type 0
Fitting fs vs = (x : ℕ) (f : Factor) → slice_get fs x ≡ Some f → slice_index vs x < length f.values

fit_after : (f : Factor) (fs : List Factor) (v : ℕ) (vs : List ℕ) → Fitting (f ∷ fs) (v ∷ vs) → Fitting fs vs
unfolding Fitting
fit_after f fs v vs fit = λ x g e. fit (suc x) g e

fit_first : (f : Factor) (fs : List Factor) (v : ℕ) (vs : List ℕ) → Fitting (f ∷ fs) (v ∷ vs) → v < length f.values
unfolding Fitting
fit_first f fs v vs fit = fit 0 f refl

pub digits_below : (fs : List Factor) (vs : List ℕ) → Each IsFactor fs → Fitting fs vs → digits_of fs vs < combinations fs
digits_below [] vs known fit = omega arith
digits_below (f ∷ fs) [] known fit = let least = combinations_least (f ∷ fs) known in omega arith
digits_below (f ∷ fs) (v ∷ vs) known fit =
    let rest = digits_below fs vs (after f fs known) (fit_after f fs v vs fit) in
    let all = mul-add-lt v (combinations fs) (digits_of fs vs) (length f.values) (fit_first f fs v vs fit) rest in
    omega (arith, all)

pub values_digits : (fs : List Factor) (vs : List ℕ) → Each IsFactor fs → Fitting fs vs → length fs ≤ length vs
    → values_of fs (digits_of fs vs) ≡ take (length fs) vs
values_digits [] vs known fit h = refl
values_digits (f ∷ fs) [] known fit h = absurd (omega arith)
values_digits (f ∷ fs) (v ∷ vs) known fit h =
    let rest = digits_below fs vs (after f fs known) (fit_after f fs v vs fit) in
    let same = values_digits fs vs (after f fs known) (fit_after f fs v vs fit) (omega arith) in
    rw (div-mul-add v (combinations fs) (digits_of fs vs) rest, mod-mul-add v (combinations fs) (digits_of fs vs) rest, same) refl

pub digits_values : (fs : List Factor) (digits : ℕ) (tail : List ℕ) → Each IsFactor fs → digits < combinations fs
    → digits_of fs (values_of fs digits ++ tail) ≡ digits
digits_values [] digits tail known h = omega arith
digits_values (f ∷ fs) digits tail known h =
    let some = combinations_least fs (after f fs known) in
    let rest = mod-lt digits some in
    let same = digits_values fs (digits % combinations fs) tail (after f fs known) rest in
    rw (same) (div-add-mod' digits (combinations fs))

pub values_fit : (fs : List Factor) (digits : ℕ) (tail : List ℕ) → Each IsFactor fs → digits < combinations fs
    → (x : ℕ) (g : Factor) → slice_get fs x ≡ Some g → get_or (values_of fs digits ++ tail) x 0 < length g.values
values_fit [] digits tail known h x g e = let none : x < 0 = slice_get_within [] x g e in absurd (omega arith)
values_fit (f ∷ fs) digits tail known h zero g e =
    let same : f ≡ g = ap (λ (o : Option Factor). unwrap_or o f) e in
    let some = combinations_least fs (after f fs known) in
    subst (λ (z : Factor). digits / combinations fs < length z.values) same (div_below digits (combinations fs) (length f.values) some h)
values_fit (f ∷ fs) digits tail known h (suc x) g e =
    let some = combinations_least fs (after f fs known) in
    values_fit fs (digits % combinations fs) tail (after f fs known) (mod-lt digits some) x g e

values_length : (fs : List Factor) (digits : ℕ) → length (values_of fs digits) ≡ length fs
values_length [] digits = refl
values_length (f ∷ fs) digits = ap suc (values_length fs (digits % combinations fs))

zeros_past : (fs : List Factor) (digits n x : ℕ) → length fs ≤ x → get_or (values_of fs digits ++ replicate n 0) x 0 ≡ 0
zeros_past [] digits n x h = zeros_everywhere n x
zeros_past (f ∷ fs) digits n zero h = absurd (omega arith)
zeros_past (f ∷ fs) digits n (suc x) h = zeros_past fs (digits % combinations fs) n x (omega arith)

all_zero : (vs : List ℕ) (n : ℕ) → length vs ≡ n → ((x : ℕ) → get_or vs x 0 ≡ 0) → vs ≡ replicate n 0
all_zero [] zero h zeros = refl
all_zero [] (suc n) h zeros = absurd (omega arith)
all_zero (v ∷ vs) zero h zeros = absurd (omega arith)
all_zero (v ∷ vs) (suc n) h zeros = rw (zeros 0, all_zero vs n (omega arith) (λ x. zeros (suc x))) refl

module _ (spec : Parts) (known : Each IsFactor spec.factors) (few : length spec.factors ≤ 6) where
  down_is : (v : Env) → v.up < 2 ^ length spec.procs → down_set spec v + v.up + 1 ≡ 2 ^ length spec.procs
  down_is v h = let all = others v.up (length spec.procs) in let low = rw (mod-eq_of_lt h) at all in low

  digits_fit : (v : Env) → IsEnv spec v → digits_of spec.factors v.factors < combinations spec.factors
  unfolding Fitting
  digits_fit v belongs = digits_below spec.factors v.factors known belongs.values

  padded : (v : Env) → IsEnv spec v → values_of spec.factors (digits_of spec.factors v.factors) ++ replicate (6 - length spec.factors) 0 ≡ v.factors
  unfolding Fitting
  padded v belongs =
      let wide = belongs.width in
      let size : length (drop (length spec.factors) v.factors) ≡ 6 - length spec.factors = length-drop (length spec.factors) v.factors ∙ rw (wide) refl in
      let rest = all_zero (drop (length spec.factors) v.factors) (6 - length spec.factors) size
      (λ x. get_or-drop (length spec.factors) v.factors x 0 ∙ belongs.rest (length spec.factors + x) (omega arith)) in
      rw (values_digits spec.factors v.factors known belongs.values (omega arith), ← rest) (take-append-drop (length spec.factors) v.factors)

  pub number_below : (v : Env) → IsEnv spec v → number_of spec v < environments spec
  number_below v belongs =
      let down = down_is v belongs.up in
      let all = mul-add-lt (down_set spec v) (combinations spec.factors) (digits_of spec.factors v.factors) (2 ^ length spec.procs) (omega arith) (digits_fit v belongs) in
      omega (arith, all)

  pub env_of-number_of : (v : Env) → IsEnv spec v → env_of spec (number_of spec v) ≡ Some v
  env_of-number_of v belongs =
      let down = down_is v belongs.up in
      let up : 2 ^ length spec.procs - 1 - down_set spec v ≡ v.up = omega arith in
      rw (
        below_test (number_of spec v) (environments spec) (number_below v belongs),
        div-mul-add (down_set spec v) (combinations spec.factors) (digits_of spec.factors v.factors) (digits_fit v belongs),
        mod-mul-add (down_set spec v) (combinations spec.factors) (digits_of spec.factors v.factors) (digits_fit v belongs),
      )
      (ap Some (same_env _ v.up _ v.factors up (padded v belongs)))

  set_below : (n : ℕ) → n < environments spec → n / combinations spec.factors < 2 ^ length spec.procs
  set_below n h = let some = combinations_least spec.factors known in div_below n (combinations spec.factors) (2 ^ length spec.procs) some h

  up_below : (n : ℕ) → n < environments spec → (numbered spec n).up < 2 ^ length spec.procs
  up_below n h = let set = set_below n h in omega arith

  pub is_env : (n : ℕ) → n < environments spec → IsEnv spec (numbered spec n)
  is_env n h =
      let some = combinations_least spec.factors known in
      let digits = mod-lt n some in
      record {
        up = up_below n h;
        width = length-append (values_of spec.factors (n % combinations spec.factors)) (replicate (6 - length spec.factors) 0)
            ∙ rw (values_length spec.factors (n % combinations spec.factors), length-replicate {A = ℕ} (6 - length spec.factors) 0) (omega arith);
        values = values_fit spec.factors (n % combinations spec.factors) (replicate (6 - length spec.factors) 0) known digits;
        rest = zeros_past spec.factors (n % combinations spec.factors) (6 - length spec.factors);
      }

  pub number_of-numbered : (n : ℕ) → n < environments spec → number_of spec (numbered spec n) ≡ n
  number_of-numbered n h =
      let some = combinations_least spec.factors known in
      let digits = mod-lt n some in
      let down = down_is (numbered spec n) (up_below n h) in
      let set = set_below n h in
      let same : down_set spec (numbered spec n) ≡ n / combinations spec.factors = omega arith in
      rw (same, digits_values spec.factors (n % combinations spec.factors) (replicate (6 - length spec.factors) 0) known digits)
      (div-add-mod' n (combinations spec.factors))
