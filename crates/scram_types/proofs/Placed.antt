-- Lemmas on items read from a list, and on the places of applications in a configuration.
use Rattle.std.proofs.Common.{◌≡◌, ℕ, ◌<◌, refl, arith, true, List, length}
use Rattle.std.specs.Prelude.{Option, Some, None, IfSome, nat_lt, slice_get, slice_index_or}
use Rattle.std.proofs.lemmas.Bool.Decides.{nat_tests}
use Rattle.std.proofs.lemmas.Option.{slice_get_read}
use Rattle.scram_types.specs.declared.specification.Conf.{Conf}
use Rattle.scram_types.specs.declared.specification.Place.{Place}
use Rattle.scram_types.specs.Specification.{IsSpec, Parts, place_in}

pub read_within : {X : Type 0} (xs : List X) (i : ℕ) (x : X) → true ≡ nat_lt i (length xs) → x ≡ slice_index_or xs i x → slice_get xs i ≡ Some x
read_within xs i x test here =
    let low : i < length xs = grind (arith, nat_tests, test) in
    slice_get_read xs (length xs) i x refl low here

-- If an application has a place, the processor of the place has a number below 8.
on_processor : (spec : Parts) → IsSpec spec → (c a : ℕ) (conf : Conf) → slice_get spec.confs c ≡ Some conf → (place : Option Place) → place_in conf a ≡ place → IfSome place (λ p. p.proc.0 < 8)
on_processor spec facts c a conf there None is = tt
on_processor spec facts c a conf there (Some place) is =
    let on = ((facts.confs c conf there).places a place is).on in
    let few = facts.procs_count.few in
    omega arith

pub placed : (spec : Parts) → IsSpec spec → (c a : ℕ) (conf : Conf) → slice_get spec.confs c ≡ Some conf → IfSome (place_in conf a) (λ p. p.proc.0 < 8)
placed spec facts c a conf there = on_processor spec facts c a conf there (place_in conf a) refl
