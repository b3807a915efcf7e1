-- Lists of modes, and up to three modes kept in an array.
use Rattle.std.specs.Prelude.{◌≡◌, ℕ, ◌-◌, ◌≤◌, ◌==◌, Bool, List, ◌++◌, length, replicate, take}
use Rattle.std.specs.List.{list_any}
use Rattle.scram_types.specs.declared.ids.Mode.{Mode}

-- The mode with number `mode` is in the list.
abbrev pub is_among : List Mode → ℕ → Bool
is_among modes mode = list_any (λ (listed : Mode). listed.0 == mode) modes

-- The mode that fills the unused elements of the array.
abbrev pub unused_mode : Mode
unused_mode = record { 0 = 0 }

-- The modes, followed by unused modes up to a length of three.
abbrev pub padded : List Mode → List Mode
padded modes = modes ++ replicate (3 - length modes) unused_mode

-- The array has three elements: `count` modes, followed by unused modes.
pub record IsPadded (count : ℕ) (items : List Mode) : Type 0 where
  pub few : count ≤ 3
  pub counted : length (take count items) ≡ count
  pub padded : padded (take count items) ≡ items
