-- Lanes, each of which shows one part of every row of a flight, and spans of consecutive rows that look alike in a
-- lane.
use Rattle.std.specs.Prelude.{ℕ, zero, suc, ◌+◌, ◌<◌, ◌==◌, ◌&&◌, Bool, true, false, List, [], ◌∷◌, drop, slice_get, slice_index, Option, Some, None, option_and_then, ⊤, if◌then◌else◌}
use Rattle.scram_types.specs.Bits.{has_bit}
use Rattle.scram_types.specs.declared.rows.Row.{Row}
use Rattle.scram_types.specs.declared.ids.ConfId.{ConfId}
use Rattle.scram_types.specs.declared.ids.ProcId.{ProcId}
use Rattle.scram_types.specs.declared.orders.Act.{Act}
use Rattle.scram_types.specs.declared.orders.KMode.{KMode}
use Rattle.scram_types.specs.declared.orders.KMode.TheVariants.{Stable, Moving}
use Rattle.flight_facts.specs.Acts.{act_of, act_word, word_number, mode_of_act, proc_of_act}
use Rattle.flight_facts.specs.declared.spans.Lane.{Lane}
use Rattle.flight_facts.specs.declared.spans.Lane.TheVariants as lane

-- The number in a lane is below 6 for a factor, and below 8 for a processor or an application.
abbrev pub IsLane : Lane → Type 0
IsLane lane.Configuration = ⊤
IsLane (lane.Factor i) = i < 6
IsLane (lane.Processor p) = p < 8
IsLane (lane.Application a) = a < 8

-- Whether two optional processors are the same processor, or both absent.
abbrev pub same_proc : Option ProcId → Option ProcId → Bool
same_proc None None = true
same_proc None (Some p) = false
same_proc (Some p) None = false
same_proc (Some p) (Some q) = p.0 == q.0

-- Whether two acts have the same first word, mode and processor.
abbrev pub same_doing : Act → Act → Bool
same_doing act other =
    (word_number (act_word act) == word_number (act_word other)) && (mode_of_act act == mode_of_act other) && same_proc (proc_of_act act) (proc_of_act other)

-- Whether processor `p` is in both of two sets or in neither.
abbrev pub same_bit : ℕ → ℕ → ℕ → Bool
same_bit p set other = if has_bit set p then has_bit other p else (if has_bit other p then false else true)

-- The stable configuration of a mode, or `None` if a reconfiguration is under way.
abbrev pub stable_conf : KMode → Option ConfId
stable_conf (Stable c) = Some c
stable_conf (Moving from halting to since) = None

-- Whether two optional configurations are the same configuration, or both absent.
abbrev pub same_conf : Option ConfId → Option ConfId → Bool
same_conf None None = true
same_conf None (Some c) = false
same_conf (Some c) None = false
same_conf (Some c) (Some d) = c.0 == d.0

-- Whether two rows look alike in a lane. They have the same stable configuration in the lane of configurations, the
-- same value in the lane of a factor, and the same state in the lane of a processor. In the lane of an application,
-- its acts in the two rows have the same first word, mode and processor.
abbrev pub are_alike : Lane → Row → Row → Bool
are_alike lane.Configuration row other = same_conf (stable_conf row.mode) (stable_conf other.mode)
are_alike (lane.Factor i) row other = slice_index row.env.factors i == slice_index other.env.factors i
are_alike (lane.Processor p) row other = same_bit p row.env.up other.env.up
are_alike (lane.Application a) row other = same_doing (act_of row a) (act_of other a)

-- The number of consecutive rows, from the first on, that look like a given row in a lane.
abbrev pub alike_rows : Lane → Row → List Row → ℕ
alike_rows lane row [] = 0
alike_rows lane row (next ∷ rows) = if are_alike lane row next then alike_rows lane row rows + 1 else 0

-- Whether a row has no preceding row or does not look like the preceding row in a lane.
abbrev pub is_new : Lane → Option Row → Row → Bool
is_new lane None row = true
is_new lane (Some before) row = if are_alike lane before row then false else true

-- The row preceding row `k`, or `None` if there is no such row.
abbrev pub row_before : List Row → ℕ → Option Row
row_before rows zero = None
row_before rows (suc k) = slice_get rows k

-- The length, in rows, of the span that begins with row `k` in a lane. The span has row `k` and the consecutive rows
-- after it that look like row `k` in the lane. The value is `None` if row `k` looks like the preceding row or does
-- not exist.
abbrev pub span_at : Lane → List Row → ℕ → Option ℕ
span_at lane rows k =
    option_and_then (λ (row : Row). if is_new lane (row_before rows k) row then Some (alike_rows lane row (drop (k + 1) rows) + 1) else None) (slice_get rows k)
