-- Broken rules, and the results of readings that may run out of memory.
use Rattle.std.specs.Prelude.{◌≡◌, ℕ, List, Option, Some, None, Result, Ok, Err, ⊤}
use Rattle.scram_doc.specs.declared.fault.DocFault.{DocFault}
use Rattle.scram_doc.specs.declared.fault.DocError.{DocError}
use Rattle.scram_doc.specs.declared.fault.DocError.TheVariants.{Fault, NoMemory}

-- The error for rule `rule`, which is broken at path `path`.
abbrev pub broken : {A : Type 0} → ℕ → List ℕ → Result A DocFault
broken rule path = Err (record { rule = rule; path = path })

-- The value, or the error for rule `rule`, broken at path `path`, if there is no value.
abbrev pub or_broken : {A : Type 0} → ℕ → List ℕ → Option A → Result A DocFault
or_broken rule path (Some a) = Ok a
or_broken rule path None = broken rule path

-- The answer is the result of the reading, or memory ran out. `f` maps the value of the answer to the value of the
-- reading.
abbrev pub Answers : {A B : Type 0} → Result B DocFault → (A → B) → Result A DocError → Type 0
Answers reading f (Ok a) = reading ≡ Ok (f a)
Answers reading f (Err (Fault fault)) = reading ≡ Err fault
Answers reading f (Err NoMemory) = ⊤
