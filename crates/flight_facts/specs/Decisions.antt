-- The decision of a reconfiguration: the row in which it is decided, and its cause.
use Rattle.std.specs.Prelude.{ℕ, ◌+◌, ◌==◌, ◌&&◌, Bool, true, false, List, slice_get, codes, Option, Some, None, is_some, option_and_then, if◌then◌else◌}
use Rattle.std.specs.Option.{option_map_or}
use Rattle.scram_types.specs.Lookups.{env_before, env_in}
use Rattle.scram_types.specs.Specification.{Parts}
use Rattle.scram_types.specs.declared.rows.Env.{Env}
use Rattle.scram_types.specs.declared.rows.Report.{Report}
use Rattle.scram_types.specs.declared.rows.Row.{Row}
use Rattle.scram_types.specs.declared.orders.KMode.{KMode}
use Rattle.scram_types.specs.declared.orders.KMode.TheVariants.{Stable, Moving}
use Rattle.flight_facts.specs.Differences.{difference_text, have_changed}

-- Whether a reconfiguration is under way in a mode of the kernel.
abbrev pub is_under_way : KMode → Bool
is_under_way (Stable c) = false
is_under_way (Moving from halting to since) = true

-- The row in which the reconfiguration that begins in row `begin` is decided. This is row `begin` if a
-- reconfiguration is under way in that row. Otherwise an application was lost in row `begin`, and the deciding row is
-- the next row.
abbrev pub decided_in : List Row → ℕ → ℕ
decided_in rows begin = if option_map_or (λ (row : Row). is_under_way row.mode) (slice_get rows begin) false then begin else begin + 1

-- Whether two optional environments are both present and differ.
abbrev pub differ : Parts → Option Env → Option Env → Bool
differ spec None after = false
differ spec (Some before) None = false
differ spec (Some before) (Some after) = have_changed spec before after

-- The text of the difference between two optional environments, or `-` if one is missing or they do not differ.
abbrev pub difference_or_dash : Parts → Option Env → Option Env → List ℕ
difference_or_dash spec None after = codes "-"
difference_or_dash spec (Some before) None = codes "-"
difference_or_dash spec (Some before) (Some after) = difference_text spec before after

-- The row in which the reconfiguration `earlier` is decided. The value is `None` if there is no such reconfiguration,
-- or if the reconfiguration is unfinished or did not end in the row preceding `begin`.
abbrev pub put_off_in : List Row → Option Report → ℕ → Option ℕ
put_off_in rows None begin = None
put_off_in rows (Some earlier) begin =
    if is_some earlier.to && (earlier.end + 1 == begin) then Some (decided_in rows earlier.begin) else None

-- The text of the cause of a reconfiguration that begins in row `begin`. The cause is the change in the row in which
-- the reconfiguration is decided. If nothing changed there and the reconfiguration `earlier` ended in the preceding
-- row, the cause is the change since `earlier` was decided. Otherwise the text is `-`.
abbrev pub cause_text : Parts → List Row → Option Report → ℕ → List ℕ
cause_text spec rows earlier begin =
    if differ spec (env_before spec rows (decided_in rows begin)) (env_in rows (decided_in rows begin))
    then difference_or_dash spec (env_before spec rows (decided_in rows begin)) (env_in rows (decided_in rows begin))
    else difference_or_dash spec (option_and_then (env_in rows) (put_off_in rows earlier begin)) (env_in rows (decided_in rows begin))
