-- Sequences of steps that may fail.
use Rattle.std.specs.Prelude.{Result, Ok, Err}

-- The result of `rest` at the value of the first step, or the error of the first step if it failed.
abbrev pub chain : {A B E : Type 0} → Result A E → (A → Result B E) → Result B E
chain (Ok a) rest = rest a
chain (Err e) rest = Err e

-- The result with `f` applied to its value, or its error unchanged.
abbrev pub ok_map : {A B E : Type 0} → (A → B) → Result A E → Result B E
ok_map f (Ok a) = Ok (f a)
ok_map f (Err e) = Err e
