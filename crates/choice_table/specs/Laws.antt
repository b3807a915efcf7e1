-- Laws about the definitions of choice.
use Rattle.std.specs.Prelude.{◌≡◌, ℕ, true, slice_get, Some}
use Rattle.scram_types.specs.declared.ids.ConfId.{ConfId}
use Rattle.scram_types.specs.declared.rows.Env.{Env}
use Rattle.scram_types.specs.declared.specification.Place.{Place}
use Rattle.scram_types.specs.Specification.{Parts}
use Rattle.scram_types.specs.Bits.{has_bit}
use Rattle.choice_table.specs.Environments.{is_up_in}
use Rattle.choice_table.specs.Choices.{all_up, is_runnable, places_of}

-- A configuration can run if and only if each processor on which it places an application is up.
abbrev pub RunsWherePlacesAreUp : Type 0
RunsWherePlacesAreUp = (spec : Parts) (c : ConfId) (v : Env) →
    (is_runnable spec c v ≡ true → (a : ℕ) (place : Place) → slice_get (places_of spec c) a ≡ Some (Some place) → is_up_in v place.proc.0 ≡ true)
    × (((a : ℕ) (place : Place) → slice_get (places_of spec c) a ≡ Some (Some place) → is_up_in v place.proc.0 ≡ true) → is_runnable spec c v ≡ true)

-- `all_up` holds for a set of processors if and only if each processor in the set is up.
abbrev pub SetsAreUpByMembers : Type 0
SetsAreUpByMembers = (set : ℕ) (v : Env) →
    (all_up set v ≡ true → (p : ℕ) → has_bit set p ≡ true → is_up_in v p ≡ true)
    × (((p : ℕ) → has_bit set p ≡ true → is_up_in v p ≡ true) → all_up set v ≡ true)
