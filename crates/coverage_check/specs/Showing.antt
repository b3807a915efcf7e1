-- The contents of a refusal.
use Rattle.std.specs.Prelude.{ℕ, Some, None}
use Rattle.scram_types.specs.Lookups.{conf_id}
use Rattle.scram_types.specs.declared.rows.Env.{Env}
use Rattle.coverage_check.specs.declared.shown.Shown.{Shown}
use Rattle.coverage_check.specs.declared.shown.Other.{Other}

-- The refusal by a condition that is broken at no particular configuration.
abbrev pub shown_nowhere : ℕ → Other → Shown
shown_nowhere condition what = record { condition = condition; conf = None; env = None; other = what }

-- The refusal by a condition that is broken at a configuration.
abbrev pub shown_at : ℕ → ℕ → Other → Shown
shown_at condition c what = record { condition = condition; conf = Some (conf_id c); env = None; other = what }

-- The refusal by a condition that is broken at a configuration in an environment.
abbrev pub shown_in : ℕ → ℕ → Env → Other → Shown
shown_in condition c v what = record { condition = condition; conf = Some (conf_id c); env = Some v; other = what }
