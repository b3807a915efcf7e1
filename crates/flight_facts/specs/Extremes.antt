-- The minimum and the maximum of a quantity of the aircraft.
use Rattle.std.specs.Prelude.{ℕ, ℤ, List, [], ◌∷◌, ◌++◌, codes, Option, Some, None}
use Rattle.std.specs.Fmt.{signed_decimal}
use Rattle.std.specs.Int.{int_max, int_min}
use Rattle.scram_types.specs.declared.rows.Row.{Row}
use Rattle.scram_types.specs.declared.rows.World.{World}
use Rattle.flight_facts.specs.declared.extremes.Extremes.{Extremes}
use Rattle.flight_facts.specs.declared.extremes.Quantity.{Quantity}
use Rattle.flight_facts.specs.declared.extremes.Quantity.TheVariants.{Altitude, Climb, Heading, Bank}

-- The value of a quantity of the aircraft.
abbrev pub quantity_of : Quantity → World → ℤ
quantity_of Altitude world = world.alt
quantity_of Climb world = world.climb
quantity_of Heading world = world.heading
quantity_of Bank world = world.bank

-- The minimum and the maximum of a sequence of numbers after `number` is added. If there are no previous extremes,
-- both are `number`.
abbrev pub widened : ℤ → Option Extremes → Extremes
widened number None = record { least = number; greatest = number }
widened number (Some so_far) = record { least = int_min number so_far.least; greatest = int_max number so_far.greatest }

-- The minimum and the maximum of a quantity over all rows, or `None` if there are no rows.
abbrev pub extremes_of : Quantity → List Row → Option Extremes
extremes_of quantity [] = None
extremes_of quantity (row ∷ rows) = Some (widened (quantity_of quantity row.world) (extremes_of quantity rows))

-- The text of the extremes: the minimum, the word `to` and the maximum, separated by spaces.
abbrev pub extremes_text : Extremes → List ℕ
extremes_text extremes = signed_decimal extremes.least ++ codes " to " ++ signed_decimal extremes.greatest
