-- The search for the first break of a trace.
use Rattle.std.specs.Prelude.{ℕ, zero, suc, ◌+◌, ◌-◌, ℤ, int_le, min, Bool, true, false, not, ◌&&◌, ◌||◌, ◌==◌, nat_le, nat_lt, List, [], ◌∷◌, length, slice_get, Option, Some, None, is_some, option_and_then, if◌then◌else◌}
use Rattle.std.specs.List.{list_any}
use Rattle.scram_types.specs.declared.ids.ConfId.{ConfId}
use Rattle.scram_types.specs.declared.rows.Env.{Env}
use Rattle.scram_types.specs.declared.rows.Report.{Report}
use Rattle.scram_types.specs.declared.rows.Row.{Row}
use Rattle.scram_types.specs.declared.orders.Act.{Act}
use Rattle.scram_types.specs.declared.orders.Act.TheVariants as act
use Rattle.scram_types.specs.declared.specification.Invariant.{Invariant}
use Rattle.scram_types.specs.declared.specification.Policy.{Policy}
use Rattle.scram_types.specs.declared.specification.Policy.TheVariants.{Retarget, Settle}
use Rattle.scram_types.specs.declared.specification.Precondition.{Precondition}
use Rattle.scram_types.specs.Numbers.{word}
use Rattle.scram_types.specs.Specification.{Parts}
use Rattle.scram_types.specs.Searches.{least_from}
use Rattle.choice_table.specs.Choices.{choose, has_source}
use Rattle.fault_script.specs.Assumption.{is_same_env}
use Rattle.coverage_check.specs.Timing.{greatest_bound}
use Rattle.frame_model.specs.Readings.{reports}
use Rattle.frame_model.specs.States.{area_at}
use Rattle.trace_props.specs.declared.breaks.Broken.{Broken}
use Rattle.trace_props.specs.declared.breaks.Property.{Property}
use Rattle.trace_props.specs.declared.breaks.Property.TheVariants.{Sp1, Sp2, Sp3, Sp4, Sp5, Sp6}
use Rattle.trace_props.specs.declared.comparing.Agreement.{Agreement}
use Rattle.trace_props.specs.declared.comparing.Agreement.TheVariants.{Alike, Apart}
use Rattle.trace_props.specs.declared.judging.Judgement.{Judgement}
use Rattle.trace_props.specs.Breaks.{last_frame, property_number}
use Rattle.trace_props.specs.Properties.{bound_on, is_satisfied}
use Rattle.scram_types.specs.Lookups.{env_before, env_in}

-- Whether a break comes before another: its frame is earlier, or the frame is the same and its property's number is
-- smaller.
abbrev pub comes_before : Broken → Broken → Bool
comes_before one other = nat_lt one.frame other.frame || (one.frame == other.frame && nat_lt (property_number one.property) (property_number other.property))

-- The earlier of two optional breaks, the only one present, or `None` if both are absent.
abbrev pub earlier : Option Broken → Option Broken → Option Broken
earlier None other = other
earlier (Some one) None = Some one
earlier (Some one) (Some other) = if comes_before other one then Some other else Some one

-- The break of a property in a frame, or `None` if `frame` is `None`.
abbrev pub broken_at : Property → Option ℕ → Option Broken
broken_at property None = None
broken_at property (Some frame) = Some (record { property = property; frame = frame })

-- Whether two optional targets are the same (SP1).
abbrev pub is_same_target : Option ConfId → Option ConfId → Bool
is_same_target None None = true
is_same_target None (Some other) = false
is_same_target (Some one) None = false
is_same_target (Some one) (Some other) = one.0 == other.0

-- Whether two reconfigurations are the same.
abbrev pub is_same_report : Report → Report → Bool
is_same_report one other = one.from.0 == other.from.0 && is_same_target one.to other.to && one.begin == other.begin && one.end == other.end

-- The agreement after a reconfiguration is compared with the report at its index, `place`, or with `None` if there is
-- no such report.
abbrev pub compare_with : ℕ → Option Report → Report → Agreement
compare_with place None read = Apart read.begin
compare_with place (Some one) read = if is_same_report one read then Alike (place + 1) else Apart (min one.begin read.begin)

-- The agreement of the reports with the reconfigurations that are read, after one further reconfiguration. A
-- difference that was found before remains.
abbrev pub compare : List Report → Agreement → Report → Agreement
compare told (Alike place) read = compare_with place (slice_get told place) read
compare told (Apart frame) read = Apart frame

-- The frame in which a reported reconfiguration began, or `None` if there is no report.
abbrev pub begin_told : Option Report → Option ℕ
begin_told None = None
begin_told (Some one) = Some one.begin

-- The frame in which SP1 is broken once all reconfigurations are read, or `None` if SP1 is kept. Any further report
-- breaks SP1.
abbrev pub difference : List Report → Agreement → Option ℕ
difference told (Alike place) = begin_told (slice_get told place)
difference told (Apart frame) = Some frame

-- The first of the numbers from `from` to `to` that passes a test, or `None` if all of them fail.
abbrev pub first_within : (ℕ → Bool) → ℕ → ℕ → Option ℕ
first_within test from to = least_from test from (to + 1 - from)

-- Whether the table chooses configuration `to` from `from` in the environment of a row (SP2). The value is `false` if
-- there is no row.
abbrev pub chooses_in : Parts → ConfId → ConfId → Option Row → Bool
chooses_in spec from to None = false
chooses_in spec from to (Some row) = (choose spec from row.env).0 == to.0

-- Whether row `f` exists and the table chooses configuration `to` from `from` in its environment.
abbrev pub chooses : Parts → List Row → ConfId → ConfId → ℕ → Bool
chooses spec rows from to f = chooses_in spec from to (slice_get rows f)

-- The end of a reconfiguration, or `None` if a frame was found in which the target was chosen.
abbrev pub unless_chosen : Option ℕ → ℕ → Option ℕ
unless_chosen None end = Some end
unless_chosen (Some f) end = None

-- The frame in which SP2 is broken, or `None` if SP2 is kept, given the reconfiguration's target. An unfinished
-- reconfiguration has no target and keeps SP2.
abbrev pub unchosen_to : Parts → List Row → Report → Option ConfId → Option ℕ
unchosen_to spec rows r None = None
unchosen_to spec rows r (Some to) = unless_chosen (first_within (chooses spec rows r.from to) r.begin r.end) r.end

-- The frame in which SP2 is broken, or `None` if SP2 is kept. SP2 is broken in the end of the reconfiguration if the
-- table does not choose the target in the environment of any row of the reconfiguration.
abbrev pub unchosen_at : Parts → List Row → Report → Option ℕ
unchosen_at spec rows r = unchosen_to spec rows r r.to

-- The frame in which SP3 is broken, or `None` if SP3 is kept, given the reconfiguration's bound.
abbrev pub late_by : Report → Option ℕ → Option ℕ
late_by r None = Some (last_frame r)
late_by r (Some bound) = if nat_le (r.end - r.begin) bound then None else Some (last_frame r)

-- The frame in which SP3 is broken, or `None` if SP3 is kept. SP3 is broken in the last frame of the reconfiguration
-- if no bound is given or the reconfiguration took longer than the bound.
abbrev pub late_at : Parts → Report → Option ℕ
late_at spec r = late_by r (bound_on spec r.from r.to)

-- Whether the number `x` is within an interval (SP4).
abbrev pub lies_in : ℤ → ℤ → ℤ → Bool
lies_in low high x = int_le low x && int_le x high

-- Whether a row breaks an invariant.
abbrev pub breaks_invariant : Row → Invariant → Bool
breaks_invariant row inv = not (lies_in inv.least inv.greatest (word (area_at row.areas inv.app.0) inv.variable))

-- Whether a row exists and breaks an invariant.
abbrev pub row_breaks : Invariant → Option Row → Bool
row_breaks inv None = false
row_breaks inv (Some row) = breaks_invariant row inv

-- Whether row `f` exists and breaks an invariant.
abbrev pub breaks_at : List Row → Invariant → ℕ → Bool
breaks_at rows inv f = row_breaks inv (slice_get rows f)

-- The first frame in which an invariant is broken, or `None` if the invariant is kept or is not for the source.
abbrev pub unkept_from : List Row → Report → Invariant → Option ℕ
unkept_from rows r inv = if has_source inv.from r.from then first_within (breaks_at rows inv) r.begin r.end else None

-- The smaller of two optional frames, the only one present, or `None` if both are absent.
abbrev pub lesser_frame : Option ℕ → Option ℕ → Option ℕ
lesser_frame None other = other
lesser_frame (Some one) None = Some one
lesser_frame (Some one) (Some other) = Some (min one other)

-- The smaller of two optional frames: `least`, which was found before, and the first frame in which an invariant of
-- the list is broken. The value is the only frame present, or `None` if both are absent.
abbrev pub least_unkept : List Row → Report → Option ℕ → List Invariant → Option ℕ
least_unkept rows r least [] = least
least_unkept rows r least (inv ∷ invs) = least_unkept rows r (lesser_frame least (unkept_from rows r inv)) invs

-- Whether an optional target is configuration `conf`. An unfinished reconfiguration has no target.
abbrev pub goes_to : Option ConfId → ConfId → Bool
goes_to None conf = false
goes_to (Some to) conf = to.0 == conf.0

-- Whether a row does not meet a precondition.
abbrev pub breaks_precondition : Row → Precondition → Bool
breaks_precondition row pre = not (lies_in pre.least pre.greatest (word (area_at row.areas pre.app.0) pre.variable))

-- Whether a precondition is for the target and a row does not meet it.
abbrev pub breaks_target_precondition : Row → Option ConfId → Precondition → Bool
breaks_target_precondition row to pre = goes_to to pre.conf && breaks_precondition row pre

-- Whether a row does not meet some precondition of the target.
abbrev pub unmet_in : Parts → Row → Option ConfId → Bool
unmet_in spec row to = list_any (breaks_target_precondition row to) spec.preconditions

-- The frame before a given end if its row exists and does not meet some precondition of the target, or `None`
-- otherwise.
abbrev pub unmet_before : Parts → List Row → Option ConfId → ℕ → Option ℕ
unmet_before spec rows to zero = None
unmet_before spec rows to (suc f) = option_and_then (λ (row : Row). if unmet_in spec row to then Some f else None) (slice_get rows f)

-- The frame before the end of a reconfiguration if its row exists and does not meet some precondition of the target,
-- or `None` otherwise.
abbrev pub unmet_at : Parts → List Row → Report → Option ℕ
unmet_at spec rows r = unmet_before spec rows r.to r.end

-- The first frame in which SP4 is broken, by an invariant or by a precondition, or `None` if SP4 is kept.
abbrev pub unkept_at : Parts → List Row → Report → Option ℕ
unkept_at spec rows r = least_unkept rows r (unmet_at spec rows r) spec.invariants

-- Whether an environment is present and differs from the preceding one (SP5). An environment differs if there is no
-- preceding one.
abbrev pub is_another_env : Option Env → Option Env → Bool
is_another_env None before = false
is_another_env (Some env) None = true
is_another_env (Some env) (Some before) = not (is_same_env env before)

-- Whether row `f` exists and its environment differs from the environment of the preceding row.
abbrev pub changes_in : Parts → List Row → ℕ → Bool
changes_in spec rows f = is_another_env (env_in rows f) (env_before spec rows f)

-- Whether the policy keeps a target while the target can run.
abbrev pub settles : Policy → Bool
settles Retarget = false
settles Settle = true

-- Whether the policy is `Settle`, the preceding reconfiguration ended in the row before the begin of `r`, and the
-- environment changed during the preceding reconfiguration after its begin.
abbrev pub follows : Parts → List Row → Option Report → Report → Bool
follows spec rows None r = false
follows spec rows (Some before) r =
    settles spec.policy && before.end + 1 == r.begin && is_some (first_within (changes_in spec rows) (before.begin + 1) before.end)

-- Whether a reconfiguration has a cause: the environment changes in its begin, in the row after its begin, or, under
-- `Settle`, during the reconfiguration just before (`follows`).
abbrev pub has_cause : Parts → List Row → Option Report → Report → Bool
has_cause spec rows before r = changes_in spec rows r.begin || changes_in spec rows (r.begin + 1) || follows spec rows before r

-- The frame in which SP5 is broken, or `None` if SP5 is kept. SP5 is broken in the begin if the reconfiguration has
-- no cause and does not begin in the last row.
abbrev pub causeless_at : Parts → List Row → Option Report → Report → Option ℕ
causeless_at spec rows before r = if nat_le (length rows) (r.begin + 1) || has_cause spec rows before r then None else Some r.begin

-- The first break of SP2 to SP5 by a reconfiguration, or `None` if the reconfiguration keeps them. `before` is the
-- reconfiguration that was read just before.
abbrev pub broken_in : Parts → List Row → Option Report → Report → Option Broken
broken_in spec rows before r = earlier
    (earlier (broken_at Sp2 (unchosen_at spec rows r)) (broken_at Sp3 (late_at spec r)))
    (earlier (broken_at Sp4 (unkept_at spec rows r)) (broken_at Sp5 (causeless_at spec rows before r)))

-- The judgement after one further reconfiguration, if there is one.
abbrev pub judge : Parts → List Row → List Report → Judgement → Option Report → Judgement
judge spec rows told so_far None = so_far
judge spec rows told so_far (Some r) = record {
  agreement = compare told so_far.agreement r;
  broken = earlier so_far.broken (broken_in spec rows so_far.before r);
  before = Some r;
}

-- The judgement after all reconfigurations of a list, in order.
abbrev pub judge_all : Parts → List Row → List Report → Judgement → List Report → Judgement
judge_all spec rows told so_far [] = so_far
judge_all spec rows told so_far (r ∷ read) = judge_all spec rows told (judge spec rows told so_far (Some r)) read

-- The judgement before any reconfiguration is read.
abbrev pub opening_judgement : Judgement
opening_judgement = record { agreement = Alike 0; broken = None; before = None }

-- The first break of SP1 to SP5 once all reconfigurations are judged, or `None` if all five hold.
abbrev pub conclusion : List Report → Judgement → Option Broken
conclusion told judgement = earlier (broken_at Sp1 (difference told judgement.agreement)) judgement.broken

-- The frame since which the environment has been the same as in row `f` (SP6). `since` is the corresponding frame for
-- the preceding row.
abbrev pub held_by : List Row → ℕ → ℕ → ℕ
held_by rows zero since = 0
held_by rows (suc f) since = if is_another_env (env_in rows (suc f)) (env_in rows f) then suc f else since

-- The frame since which the environment has been the same as in row `f`.
abbrev pub held_since : List Row → ℕ → ℕ
held_since rows zero = 0
held_since rows (suc f) = held_by rows (suc f) (held_since rows f)

-- Whether an act is the act of a lost application.
abbrev pub is_lost : Act → Bool
is_lost (act.Ran mode proc) = false
is_lost (act.Halting k n proc) = false
is_lost act.Held = false
is_lost (act.Preparing k n proc) = false
is_lost (act.Initialising k n proc) = false
is_lost act.Off = false
is_lost act.Lost = true

-- Whether some application is lost in a row.
abbrev pub loses_some : Row → Bool
loses_some row = list_any is_lost row.acts

-- Whether no application is lost in a row, and the row does not satisfy the demands (`is_satisfied`).
abbrev pub is_unsatisfied : Parts → Row → Bool
is_unsatisfied spec row = not (loses_some row) && not (is_satisfied spec row)

-- Whether a row exists, no application is lost in the row, and the row does not satisfy the demands.
abbrev pub unsatisfied_in : Parts → Option Row → Bool
unsatisfied_in spec None = false
unsatisfied_in spec (Some row) = is_unsatisfied spec row

-- Whether no application is lost in row `f`, the row does not satisfy the demands, and its environment has held from
-- frame `since` for at least `frames` frames.
abbrev pub breaks_after : Parts → List Row → ℕ → ℕ → ℕ → Bool
breaks_after spec rows frames f since = nat_le frames (f - since) && unsatisfied_in spec (slice_get rows f)

-- Whether row `f` is calm and does not satisfy the demands.
abbrev pub breaks_calm : Parts → List Row → ℕ → Bool
breaks_calm spec rows f = breaks_after spec rows (greatest_bound spec.bounds) f (held_since rows f)

-- The first frame in which SP6 is broken, or `None` if SP6 is kept.
abbrev pub unsatisfied_at : Parts → List Row → Option ℕ
unsatisfied_at spec rows = least_from (breaks_calm spec rows) 0 (length rows)

-- The first break of SP1 to SP5, the properties of reconfigurations, or `None` if all five hold.
abbrev pub first_in_reports : Parts → List Row → List Report → Option Broken
first_in_reports spec rows told = conclusion told (judge_all spec rows told opening_judgement (reports spec rows))

-- The first break of a trace, or `None` if all properties hold.
abbrev pub first_break : Parts → List Row → List Report → Option Broken
first_break spec rows told = earlier (first_in_reports spec rows told) (broken_at Sp6 (unsatisfied_at spec rows))
