-- Lemmas on `held_since` from one row to the next.
use Rattle.std.proofs.Common.{◌≡◌, ℕ, zero, suc, ◌+◌, refl, arith, List}
use Rattle.scram_types.specs.declared.rows.Row.{Row}
use Rattle.trace_props.specs.Judging.{held_by, held_since}

abbrev pub held_before : List Row → ℕ → ℕ
held_before rows zero = 0
held_before rows (suc f) = held_since rows f

pub held_now : (rows : List Row) (f : ℕ) → held_by rows f (held_before rows f) ≡ held_since rows f
held_now rows zero = refl
held_now rows (suc f) = refl

pub held_next : (rows : List Row) (f : ℕ) → held_since rows f ≡ held_before rows (f + 1)
held_next rows f = let next : suc f ≡ f + 1 = omega arith in rw (← next) refl
