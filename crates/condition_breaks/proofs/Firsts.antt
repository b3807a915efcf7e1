-- Lemmas on the first elements of concatenated lists.
use Rattle.std.proofs.Common.{ℕ, zero, suc, ◌<◌, ◌≡◌, ◌∙◌, Bool, true, false, List, [], ◌∷◌, ◌++◌, ap, arith, refl}
use Rattle.std.specs.Prelude.{◌&&◌, ◌||◌, Option, Some, None, option_map, slice_get}
use Rattle.std.specs.Option.{option_or, option_to_list}
use Rattle.scram_types.specs.Searches.{any_below, first_below}
use Rattle.coverage_check.specs.Search.{shown_if}
use Rattle.condition_breaks.specs.Lists.{gathered_below, one_if}

pub first_of_both : {A : Type 0} (xs ys : List A) → slice_get (xs ++ ys) 0 ≡ option_or (slice_get xs 0) (slice_get ys 0)
first_of_both [] ys = refl
first_of_both (x ∷ xs) ys = refl

pub first_gathered : {A : Type 0} (items : ℕ → List A) (n : ℕ) → slice_get (gathered_below items n) 0 ≡ first_below (λ k. slice_get (items k) 0) n
first_gathered items zero = refl
first_gathered items (suc n) =
    first_of_both (gathered_below items n) (items n) ∙ ap (λ o. option_or o (slice_get (items n) 0)) (first_gathered items n)

pub same_below : {A : Type 0} (one other : ℕ → Option A) (n : ℕ) → ((k : ℕ) → k < n → one k ≡ other k) → first_below one n ≡ first_below other n
same_below one other zero same = refl
same_below one other (suc n) same =
    ap (λ o. option_or o (one n)) (same_below one other n (λ k less. same k (omega (arith, less)))) ∙ ap (option_or (first_below other n)) (same n (omega arith))

mapped_both : {A B : Type 0} (f : A → B) (o p : Option A) → option_map f (option_or o p) ≡ option_or (option_map f o) (option_map f p)
mapped_both f None p = refl
mapped_both f (Some x) p = refl

pub mapped_below : {A B : Type 0} (f : A → B) (answer : ℕ → Option A) (n : ℕ) → option_map f (first_below answer n) ≡ first_below (λ k. option_map f (answer k)) n
mapped_below f answer zero = refl
mapped_below f answer (suc n) =
    mapped_both f (first_below answer n) (answer n) ∙ ap (λ o. option_or o (option_map f (answer n))) (mapped_below f answer n)

-- For each number below `n`, let the answer be the value of `f` at the first element of the number's list, or `None`
-- if the list is empty. Then the value of `f` at the first element of the concatenated lists is the first answer that
-- is not `None`.
pub gathered_shown : {A B : Type 0} (f : A → B) (items : ℕ → List A) (answer : ℕ → Option B) (n : ℕ)
    → ((k : ℕ) → k < n → option_map f (slice_get (items k) 0) ≡ answer k) → option_map f (slice_get (gathered_below items n) 0) ≡ first_below answer n
gathered_shown f items answer n same =
    ap (option_map f) (first_gathered items n) ∙ mapped_below f (λ k. slice_get (items k) 0) n ∙ same_below (λ k. option_map f (slice_get (items k) 0)) answer n same

pub one_shown : {A B : Type 0} (f : A → B) (b : Bool) (x : A) → option_map f (slice_get (one_if b x) 0) ≡ shown_if b (f x)
one_shown f true x = refl
one_shown f false x = refl

pub mapped_shown : {A B : Type 0} (f : A → B) (b : Bool) (x : A) → option_map f (shown_if b x) ≡ shown_if b (f x)
mapped_shown f true x = refl
mapped_shown f false x = refl

pub listed_shown : {A B C : Type 0} (f : B → C) (g : A → B) (o : Option A) → option_map f (slice_get (option_to_list (option_map g o)) 0) ≡ option_map (λ x. f (g x)) o
listed_shown f g None = refl
listed_shown f g (Some x) = refl

shown_either : {A : Type 0} (a b : Bool) (x : A) → option_or (shown_if a x) (shown_if b x) ≡ shown_if (a || b) x
shown_either true b x = refl
shown_either false b x = refl

-- If each number that passes a test has the value `x`, the search below `n` returns `x` if some number below `n`
-- passes the test, and `None` otherwise.
pub any_shown : {A : Type 0} (test : ℕ → Bool) (x : A) (n : ℕ) → first_below (λ k. shown_if (test k) x) n ≡ shown_if (any_below test n) x
any_shown test x zero = refl
any_shown test x (suc n) = ap (λ o. option_or o (shown_if (test n) x)) (any_shown test x n) ∙ shown_either (any_below test n) (test n) x

pub any_and : (b : Bool) (test : ℕ → Bool) (n : ℕ) → any_below (λ k. b && test k) n ≡ (b && any_below test n)
any_and true test n = refl
any_and false test zero = refl
any_and false test (suc n) = ap (λ t. t || false) (any_and false test n)

pub any_same : (one other : ℕ → Bool) (n : ℕ) → ((k : ℕ) → one k ≡ other k) → any_below one n ≡ any_below other n
any_same one other zero same = refl
any_same one other (suc n) same = ap (λ t. t || one n) (any_same one other n same) ∙ ap (λ t. any_below other n || t) (same n)
