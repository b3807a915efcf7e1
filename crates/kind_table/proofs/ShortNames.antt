-- The names of modes and of variables have at most 16 bytes.
use Rattle.std.proofs.Common.{◌≤◌, ℕ, zero, suc, List, [], ◌∷◌, Option, Some, None, length, arith}
use Rattle.std.specs.Prelude.{⊤}
use Rattle.std.specs.Option.{option_map_or}
use Rattle.kind_table.specs.Names.{mode_names, mode_text, name_in, variable_names}

abbrev pub AreShort : List (Option (List ℕ)) → Type 0
AreShort [] = ⊤
AreShort (None ∷ names) = AreShort names
AreShort (Some text ∷ names) = (length text ≤ 16) × AreShort names

pub name_short : (names : List (Option (List ℕ))) (n : ℕ) → AreShort names → length (option_map_or (λ (name : List ℕ). name) (name_in names n) []) ≤ 16
name_short [] n short = omega arith
name_short (None ∷ names) zero short = omega arith
name_short (Some text ∷ names) zero short = short.0
name_short (None ∷ names) (suc n) short = name_short names n short
name_short (Some text ∷ names) (suc n) short = name_short names n short.1

pub mode_names_short : (kind : ℕ) → AreShort (mode_names kind)
mode_names_short zero = (omega arith, (omega arith, tt))
mode_names_short (suc zero) = (omega arith, (omega arith, tt))
mode_names_short (suc (suc zero)) = (omega arith, (omega arith, (omega arith, tt)))
mode_names_short (suc (suc (suc zero))) = (omega arith, (omega arith, tt))
mode_names_short (suc (suc (suc (suc zero)))) = (omega arith, (omega arith, tt))
mode_names_short (suc (suc (suc (suc (suc zero))))) = (omega arith, (omega arith, (omega arith, tt)))
mode_names_short (suc (suc (suc (suc (suc (suc kind)))))) = tt

pub variable_names_short : (kind : ℕ) → AreShort (variable_names kind)
variable_names_short zero = (omega arith, (omega arith, (omega arith, (omega arith, (omega arith, (omega arith, (omega arith, tt)))))))
variable_names_short (suc zero) = (omega arith, (omega arith, (omega arith, (omega arith, (omega arith, (omega arith, tt))))))
variable_names_short (suc (suc zero)) = (omega arith, (omega arith, (omega arith, (omega arith, (omega arith, (omega arith, tt))))))
variable_names_short (suc (suc (suc zero))) = (omega arith, (omega arith, (omega arith, (omega arith, (omega arith, tt)))))
variable_names_short (suc (suc (suc (suc zero)))) = (omega arith, (omega arith, (omega arith, (omega arith, (omega arith, (omega arith, tt))))))
variable_names_short (suc (suc (suc (suc (suc zero))))) = (omega arith, (omega arith, tt))
variable_names_short (suc (suc (suc (suc (suc (suc kind)))))) = tt

pub mode_short : (kind mode : ℕ) → length (mode_text kind mode) ≤ 16
mode_short kind mode = name_short (mode_names kind) mode (mode_names_short kind)

pub variable_short : (kind i : ℕ) → length (option_map_or (λ (name : List ℕ). name) (name_in (variable_names kind) i) []) ≤ 16
variable_short kind i = name_short (variable_names kind) i (variable_names_short kind)
