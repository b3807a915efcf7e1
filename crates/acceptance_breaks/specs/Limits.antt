-- The intervals that invariants and preconditions specify, and the intervals that they need.
use Rattle.std.specs.Prelude.{ℕ}
use Rattle.scram_types.specs.Lookups.{place_of}
use Rattle.scram_types.specs.Specification.{Parts}
use Rattle.scram_types.specs.declared.specification.Invariant.{Invariant}
use Rattle.scram_types.specs.declared.specification.Precondition.{Precondition}
use Rattle.condition_breaks.specs.declared.breaks.Unheld.{Unheld}
use Rattle.condition_breaks.specs.Ranges.{interval, range_entering}
use Rattle.acceptance_breaks.specs.declared.limits.Limits.{Limits}

-- The number, the application and the variable of invariant `inv`, the interval that it specifies, and the smallest
-- interval that suffices. The number and the smallest interval are taken from `found`.
abbrev pub invariant_limits : Unheld → Invariant → Limits
invariant_limits found inv = record {
  item = found.invariant;
  app = inv.app;
  variable = inv.variable;
  given = interval (inv.least, inv.greatest);
  needed = found.needed;
}

-- The number `k`, the application and the variable of precondition `k`, the interval that the precondition specifies,
-- and the range that the interval must contain.
abbrev pub precondition_limits : Parts → ℕ → Precondition → Limits
precondition_limits spec k pre = record {
  item = k;
  app = pre.app;
  variable = pre.variable;
  given = interval (pre.least, pre.greatest);
  needed = interval (range_entering spec pre (place_of spec pre.conf pre.app.0));
}
