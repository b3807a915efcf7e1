-- If a fact holds for each entry of a list and for a further entry, it holds for each entry of the list with the
-- further entry.
use Rattle.std.proofs.Common.{◌≡◌, ℕ, zero, suc, List, [], ◌∷◌, set, subst}
use Rattle.std.specs.Prelude.{Option, Some, None, slice_get}
use Rattle.scram_types.specs.declared.ids.Mode.{Mode}
use Rattle.scram_types.specs.declared.specification.Proc.{Proc}
use Rattle.scram_types.specs.declared.specification.AppSpec.{AppSpec}
use Rattle.scram_types.specs.declared.specification.Place.{Place}
use Rattle.scram_types.proofs.Options.{same_some}
use Rattle.spec_reading.specs.Configurations.{given}
use Rattle.spec_reading.specs.TableFacts.{AreOn, ArePlaces, IsOnAfter, IsPlacedAfter, ListsModes}

after_set : {A : Type 0} (Fact : ℕ → A → Type 0) → (xs : List (Option A)) (a : ℕ) (x : A)
    → ((b : ℕ) (y : A) → given xs b ≡ Some y → Fact b y) → Fact a x
    → (b : ℕ) (y : A) → given (set xs a (Some x)) b ≡ Some y → Fact b y
after_set Fact [] a x all new b y e = absurd (let none : None ≡ Some y = e in cc)
after_set {A} Fact (p ∷ ps) zero x all new zero y e = subst (λ (z : A). Fact zero z) (same_some x y e) new
after_set Fact (p ∷ ps) zero x all new (suc b) y e = all (suc b) y e
after_set Fact (p ∷ ps) (suc a) x all new zero y e = all zero y e
after_set {A} Fact (p ∷ ps) (suc a) x all new (suc b) y e =
    after_set (λ (n : ℕ) (z : A). Fact (suc n) z) ps a x (λ n z f. all (suc n) z f) new b y e

pub one_more : (procs : List Proc) (apps : List AppSpec) (places more : List (Option Place)) → ArePlaces procs apps places → IsPlacedAfter procs apps places more → ArePlaces procs apps more
one_more procs apps places more all new =
    rw (new.set) (after_set _ places new.app new.place all new.is)

pub one_more_on : (apps : List AppSpec) (on more : List (Option (List Mode))) → AreOn apps on → IsOnAfter apps on more → AreOn apps more
one_more_on apps on more all new =
    rw (new.set) (after_set (λ (a : ℕ) (modes : List Mode). ListsModes (slice_get apps a) modes) on new.app new.modes all new.lists)
