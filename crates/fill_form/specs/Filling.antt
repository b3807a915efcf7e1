-- Filled-in specifications, which have sufficient bounds and a sufficient window.
use Rattle.std.specs.Prelude.{ℕ, zero, suc, ◌+◌, max, Bool, not, ◌&&◌, List, [], ◌∷◌, ◌++◌, length, map, codes, is_some, if◌then◌else◌}
use Rattle.scram_types.specs.declared.specification.Bound.{Bound}
use Rattle.scram_types.specs.Lookups.{conf_id}
use Rattle.scram_types.specs.Specification.{Parts, bound_in}
use Rattle.coverage_check.specs.Timing.{greatest_bound, is_bound_asked, least}
use Rattle.reconf_spec.specs.Texts.{spec_text}

-- A given bound, raised to the smallest sufficient length if the bound is required and shorter than this length.
abbrev pub raised : Parts → Bound → Bound
raised spec bound = record {
  from = bound.from;
  to = bound.to;
  frames = if is_bound_asked spec bound.from bound.to.0 then max bound.frames (least spec bound.from bound.to) else bound.frames;
}

-- Whether a bound from `i` to `j` is required but not given.
abbrev pub is_bound_missing : Parts → ℕ → ℕ → Bool
is_bound_missing spec i j = is_bound_asked spec (conf_id i) j && not (is_some (bound_in spec.bounds i j))

-- The smallest sufficient bound from `i` to `j`.
abbrev pub least_bound : Parts → ℕ → ℕ → Bound
least_bound spec i j = record { from = conf_id i; to = conf_id j; frames = least spec (conf_id i) (conf_id j) }

-- A list of the smallest sufficient bound from `i` to `j` if a bound is required but not given, or the empty list
-- otherwise.
abbrev pub missing_bound : Parts → ℕ → ℕ → List Bound
missing_bound spec i j = if is_bound_missing spec i j then least_bound spec i j ∷ [] else []

-- The lists that `bounds` returns for the numbers below `n`, concatenated.
abbrev pub bounds_below : (ℕ → List Bound) → ℕ → List Bound
bounds_below bounds zero = []
bounds_below bounds (suc n) = bounds_below bounds n ++ bounds n

-- The smallest sufficient bounds from `i` that are required but not given, in the order of their targets.
abbrev pub missing_from : Parts → ℕ → List Bound
missing_from spec i = bounds_below (missing_bound spec i) (length spec.confs)

-- The smallest sufficient bounds that are required but not given, in the order of their sources. Bounds with the same
-- source are in the order of their targets.
abbrev pub missing_bounds : Parts → List Bound
missing_bounds spec = bounds_below (missing_from spec) (length spec.confs)

-- The given bounds, each raised as far as required, followed by the missing bounds.
abbrev pub filled_bounds : Parts → List Bound
filled_bounds spec = map (raised spec) spec.bounds ++ missing_bounds spec

-- The longer of the given window and a window of one frame more than the greatest filled-in bound.
abbrev pub filled_window : Parts → ℕ
filled_window spec = max spec.window (greatest_bound (filled_bounds spec) + 1)

-- The specification with `bounds` and `window` in place of its bounds and its window.
abbrev pub with_times : Parts → List Bound → ℕ → Parts
with_times spec bounds window = record {
  procs = spec.procs;
  apps = spec.apps;
  confs = spec.confs;
  factors = spec.factors;
  rules = spec.rules;
  bounds = bounds;
  start = spec.start;
  goal = spec.goal;
  invariants = spec.invariants;
  preconditions = spec.preconditions;
  policy = spec.policy;
  demands = spec.demands;
  halts = spec.halts;
  changes = spec.changes;
  window = window;
}

-- The filled-in specification, which has sufficient bounds and a sufficient window.
abbrev pub filled : Parts → Parts
filled spec = with_times spec (filled_bounds spec) (filled_window spec)

-- The line that holds the canonical text of the filled-in specification.
abbrev pub filled_text : Parts → List ℕ
filled_text spec = spec_text (filled spec) ++ codes "\n"
