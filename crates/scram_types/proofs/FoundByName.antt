-- A lookup by name finds the item that has the name.
use Rattle.std.proofs.Common.{◌≡◌, ◌+◌, ◌<◌, ℕ, zero, suc, Bool, true, false, cond, List, [], ◌∷◌, length, arith, refl, ap, ◌∙◌}
use Rattle.std.specs.Prelude.{Option, Some, slice_get}
use Rattle.std.specs.Bool.{Decides}
use Rattle.std.specs.Str.{bytes_eq}
use Rattle.std.proofs.lemmas.Slice.Eq.{bytes_eq-Decides}
use Rattle.scram_types.specs.declared.ids.ProcId.{ProcId}
use Rattle.scram_types.specs.declared.specification.Proc.{Proc}
use Rattle.scram_types.specs.Specification.{IsSpec, NamesDiffer, Parts}
use Rattle.scram_types.specs.Lookups.{number_from, proc_name, proc_named}
use Rattle.scram_types.proofs.Items.{some_item}
use Rattle.scram_types.proofs.Options.{none_some, same_some}

later : (test : Bool) (P : Type 0) (k i : ℕ) (rest : Option ℕ) → Decides test P → (P → ⊥) → rest ≡ Some (suc k + i) → cond test (Some k) rest ≡ Some (k + suc i)
later true P k i rest decides apart e = absurd (apart (decides.0 refl))
later false P k i rest decides apart e = e ∙ ap (λ (n : ℕ). Some n) (omega arith)

-- If the names of the items differ, the lookup of an item's name finds the item.
pub found_named : {A : Type 0} (name : A → List ℕ) (k i : ℕ) (xs : List A) (x : A) → NamesDiffer name xs → slice_get xs i ≡ Some x → number_from name k xs (name x) ≡ Some (k + i)
found_named name k i [] x differ e = none_some x e
found_named name k zero (y ∷ ys) x differ e =
    let same : name y ≡ name x = ap name (same_some y x e) in
    rw ((bytes_eq-Decides (name y) (name x)).1 same) (ap (λ (m : ℕ). Some m) (omega arith))
found_named name k (suc i) (y ∷ ys) x differ e =
    let rest = found_named name (suc k) i ys x (λ a b p q there other same. let next : suc a ≡ suc b = differ (suc a) (suc b) p q there other same in omega (arith, next)) e in
    later (bytes_eq (name y) (name x)) (name y ≡ name x) k i (number_from name (suc k) ys (name x)) (bytes_eq-Decides (name y) (name x))
    (λ same. let first : 0 ≡ suc i = differ 0 (suc i) y x refl e same in absurd (omega (arith, first))) rest

pub proc_found_back : (spec : Parts) (p : ProcId) → IsSpec spec → p.0 < length spec.procs → proc_named spec (proc_name spec p.0) ≡ Some p
proc_found_back spec p is within = some_item spec.procs p.0 within (λ proc there.
    let at : number_from (λ (one : Proc). one.name) 0 spec.procs proc.name ≡ Some (0 + p.0) = found_named (λ (one : Proc). one.name) 0 p.0 spec.procs proc is.procs_differ there in
    let number : 0 + p.0 ≡ p.0 = omega arith in
    rw (there, at, number) refl)
