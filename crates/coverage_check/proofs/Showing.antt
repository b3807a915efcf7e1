-- Lemmas on `shown_if`, which returns a value if a test passes, and on the first value that a search with `shown_if`
-- finds.
use Rattle.std.proofs.Common.{◌≡◌, ℕ, ◌<◌, Bool, true, false, refl, ap, sym, ◌∙◌}
use Rattle.std.specs.Prelude.{Some, None}
use Rattle.scram_types.specs.Searches.{first_below}
use Rattle.scram_types.proofs.Options.{same_some, some_none}
use Rattle.scram_types.proofs.Searches.{first_found}
use Rattle.coverage_check.specs.Search.{shown_if}

pub not_shown : {A : Type 0} (b : Bool) (x : A) → shown_if b x ≡ None → b ≡ false
not_shown true x e = some_none x e
not_shown false x e = refl

pub none_shown : {A : Type 0} (b : Bool) (x : A) → b ≡ false → shown_if b x ≡ None
none_shown b x e = rw (e) refl

pub is_shown : {A : Type 0} (b : Bool) (x : A) → b ≡ true → shown_if b x ≡ Some x
is_shown b x e = rw (e) refl

pub shown_where : {A : Type 0} (b : Bool) (x y : A) → shown_if b x ≡ Some y → (b ≡ true) × (y ≡ x)
shown_where true x y e = (refl, sym (same_some x y e))
shown_where false x y e = some_none y (sym e)

pub first_shown : {A : Type 0} (broken : ℕ → Bool) (shown : ℕ → A) (n k : ℕ) (y : A) (r : Bool) → first_below (λ i. shown_if (broken i) (shown i)) k ≡ None
    → r ≡ broken k → r ≡ true → y ≡ shown k → k < n → Some y ≡ first_below (λ i. shown_if (broken i) (shown i)) n
first_shown broken shown n k y r before here is same less =
    ap Some same ∙ sym (first_found (λ i. shown_if (broken i) (shown i)) n k (shown k) before (is_shown (broken k) (shown k) (sym here ∙ is)) less)
