-- The rules, configurations and bounds that are idle, since no choice uses them.
use Rattle.std.specs.Prelude.{ℕ, Bool, not, ◌&&◌, ◌==◌, length}
use Rattle.scram_types.specs.Lookups.{conf_id}
use Rattle.scram_types.specs.Searches.{any_below}
use Rattle.scram_types.specs.Specification.{Parts}
use Rattle.scram_types.specs.declared.specification.Bound.{Bound}
use Rattle.cube_cover.specs.Shares.{is_ruled_by}
use Rattle.coverage_check.specs.Timing.{is_bound_asked, is_target}
use Rattle.idle_parts.specs.Somewhere.{passes_somewhere}

-- Whether rule `k` is the first that fits configuration number `i` in some environment in scope.
abbrev pub is_first_from : Parts → ℕ → ℕ → Bool
is_first_from spec k i = passes_somewhere spec (is_ruled_by spec (conf_id i) k)

-- Whether there is no configuration and no environment in scope for which rule `k` is the first that fits.
abbrev pub is_rule_idle : Parts → ℕ → Bool
is_rule_idle spec k = not (any_below (is_first_from spec k) (length spec.confs))

-- Whether `i` and `c` differ, and configuration number `c` is a possible target of configuration number `i`.
abbrev pub is_target_of_other : Parts → ℕ → ℕ → Bool
is_target_of_other spec c i = not (i == c) && is_target spec (conf_id i) c

-- Whether configuration number `c` is neither the start nor a possible target of another configuration.
abbrev pub is_conf_idle : Parts → ℕ → Bool
is_conf_idle spec c = not (spec.start.0 == c) && not (any_below (is_target_of_other spec c) (length spec.confs))

-- Whether a bound is idle. It is idle if acceptance does not require a bound from its source to its target.
abbrev pub is_bound_idle : Parts → Bound → Bool
is_bound_idle spec bound = not (is_bound_asked spec bound.from bound.to.0)
