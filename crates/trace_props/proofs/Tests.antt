-- If a property holds for each branch of an `if` under the condition of the branch, then it holds for the `if`.
use Rattle.std.proofs.Common.{◌≡◌, Bool, true, false, refl}
use Rattle.std.specs.Prelude.{if◌then◌else◌}

pub by_test : {A : Type 0} (good : A → Type 0) (b : Bool) (x y : A) → (b ≡ true → good x) → (b ≡ false → good y) → good (if b then x else y)
by_test good true x y then_good else_good = then_good refl
by_test good false x y then_good else_good = else_good refl
