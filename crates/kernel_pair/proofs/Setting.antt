-- If a unit or a processor is replaced at an index of the lists of a state, then the new state represents the pair
-- with that unit or processor.
use Rattle.std.proofs.Common.{◌≡◌, ◌∙◌, ℕ, ◌<◌, Bool, true, false, refl, ap, arith, List, length}
use Rattle.std.specs.Prelude.{nat_eq, slice_index_or, slice_set, if◌then◌else◌}
use Rattle.std.proofs.lemmas.Bool.Decides.{nat_tests}
use Rattle.std.proofs.lemmas.Grind.{common_steps}
use Rattle.kernel_pair.specs.declared.processors.ProcessorState.{ProcessorState}
use Rattle.kernel_pair.specs.declared.units.UnitState.{UnitState}
use Rattle.kernel_pair.specs.Pairs.{Processor, KernelUnit, with_at, with_proc, with_unit}
use Rattle.kernel_pair.specs.States.{blank_processor, blank_unit, processor_of, pair_of, unit_of}

unit_set : (units : List UnitState) (u v : ℕ) (x : UnitState) → u < length units → slice_index_or (slice_set units u x) v blank_unit ≡ (if nat_eq v u then x else slice_index_or units v blank_unit)
unit_set units u v x low = grind (arith, common_steps, nat_tests)

processor_set : (procs : List ProcessorState) (p q : ℕ) (x : ProcessorState) → p < length procs → slice_index_or (slice_set procs p x) q blank_processor ≡ (if nat_eq q p then x else slice_index_or procs q blank_processor)
processor_set procs p q x low = grind (arith, common_steps, nat_tests)

through : {A B : Type 0} (g : A → B) (b : Bool) (x y : A) → g (if b then x else y) ≡ (if b then g x else g y)
through g true x y = refl
through g false x y = refl

pub unit_with : (procs : List ProcessorState) (units : List UnitState) (u : ℕ) (x : UnitState) (y : KernelUnit) → u < length units → unit_of x ≡ y
    → pair_of record { procs = procs; units = slice_set units u x } ≡ with_unit (pair_of record { procs = procs; units = units }) u y
unit_with procs units u x y low is = λ i. record { proc = λ p. processor_of (slice_index_or procs p blank_processor); unit = λ v. at v i }
  where
    at : (v : ℕ) → unit_of (slice_index_or (slice_set units u x) v blank_unit) ≡ with_at (λ w. unit_of (slice_index_or units w blank_unit)) u y v
    at v = ap unit_of (unit_set units u v x low) ∙ through unit_of (nat_eq v u) x (slice_index_or units v blank_unit) ∙ ap (λ (z : KernelUnit). if nat_eq v u then z else unit_of (slice_index_or units v blank_unit)) is

pub processor_with : (procs : List ProcessorState) (units : List UnitState) (p : ℕ) (x : ProcessorState) (y : Processor) → p < length procs → processor_of x ≡ y
    → pair_of record { procs = slice_set procs p x; units = units } ≡ with_proc (pair_of record { procs = procs; units = units }) p y
processor_with procs units p x y low is = λ i. record { proc = λ q. at q i; unit = λ v. unit_of (slice_index_or units v blank_unit) }
  where
    at : (q : ℕ) → processor_of (slice_index_or (slice_set procs p x) q blank_processor) ≡ with_at (λ w. processor_of (slice_index_or procs w blank_processor)) p y q
    at q = ap processor_of (processor_set procs p q x low) ∙ through processor_of (nat_eq q p) x (slice_index_or procs q blank_processor) ∙ ap (λ (z : Processor). if nat_eq q p then z else processor_of (slice_index_or procs q blank_processor)) is
