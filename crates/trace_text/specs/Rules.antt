-- The results of reading a line: its contents, or the number of the first rule that it breaks. The rules are tested
-- in the order of their numbers.
use Rattle.std.specs.Prelude.{ℕ, Option, Some, None, Result, Err}

-- The result of `next` for the value of an option, or the broken rule if there is no value.
abbrev pub or_rule : {A B : Type 0} → ℕ → Option A → (A → Result B ℕ) → Result B ℕ
or_rule rule None next = Err rule
or_rule rule (Some a) next = next a
