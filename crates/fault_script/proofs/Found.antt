-- The entries of a specification are found by their names.
use Rattle.std.proofs.Common.{◌≡◌, ◌+◌, ◌<◌, ℕ, List, length, arith, refl}
use Rattle.std.specs.Prelude.{Some, slice_get}
use Rattle.scram_types.specs.declared.scripts.Change.{Change}
use Rattle.scram_types.specs.declared.ids.FactorId.{FactorId}
use Rattle.scram_types.specs.declared.specification.Factor.{Factor}
use Rattle.scram_types.specs.Specification.{IsSpec, Parts}
use Rattle.scram_types.specs.Lookups.{factor_name, factor_named, number_from}
use Rattle.scram_types.proofs.FoundByName.{found_named}
use Rattle.scram_types.proofs.Items.{some_item}
use Rattle.fault_script.specs.Reading.{find_value}
use Rattle.fault_script.specs.Texts.{new_value_name}

pub factor_found : (spec : Parts) (x : FactorId) (factor : Factor) → IsSpec spec → slice_get spec.factors x.0 ≡ Some factor → factor_named spec (factor_name spec x.0) ≡ Some x
factor_found spec x factor is there =
    let at : number_from (λ (one : Factor). one.name) 0 spec.factors factor.name ≡ Some (0 + x.0) = found_named (λ (one : Factor). one.name) 0 x.0 spec.factors factor is.factors_differ there in
    let number : 0 + x.0 ≡ x.0 = omega arith in
    rw (there, at, number) refl

pub value_found : (spec : Parts) (change : Change) (factor : Factor) → IsSpec spec → slice_get spec.factors change.factor.0 ≡ Some factor → change.value < length factor.values
    → find_value spec change.factor (new_value_name spec change) ≡ Some change.value
value_found spec change factor is there within = some_item factor.values change.value within (λ name listed.
    let at : number_from (λ (one : List ℕ). one) 0 factor.values name ≡ Some (0 + change.value) =
    found_named (λ (one : List ℕ). one) 0 change.value factor.values name (is.factors change.factor.0 factor there).differ listed in
    let number : 0 + change.value ≡ change.value = omega arith in
    rw (there, listed, at, number) refl)
