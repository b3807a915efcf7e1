-- The reconfigurations that are read off rows do not overlap.
use Rattle.std.proofs.Common.{◌≡◌, ℕ, zero, suc, ◌+◌, ◌≤◌, arith, sym, ◌∙◌, List, [], ◌∷◌, ◌++◌, length}
use Rattle.std.specs.Prelude.{Option, Some, None, slice_get}
use Rattle.std.proofs.lemmas.Option.{slice_get_past}
use Rattle.scram_types.specs.declared.ids.ConfId.{ConfId}
use Rattle.scram_types.specs.declared.rows.Report.{Report}
use Rattle.scram_types.specs.declared.rows.Row.{Row}
use Rattle.scram_types.specs.Specification.{Parts}
use Rattle.frame_model.specs.declared.readings.Reading.{Reading}
use Rattle.frame_model.specs.declared.readings.Reading.TheVariants.{Steady, Leaving}
use Rattle.frame_model.specs.Readings.{arrival, arrive, as_list, close, ended_in, reading_after, reports}
use Rattle.frame_model.specs.Runs.{running, runs}
use Rattle.trace_props.proofs.Tests.{by_test}

-- The reconfigurations that are still to be read off `rows`, given the reading before `rows`. The first of the rows
-- is the row of frame `f`, and `n` is the number of all rows of the trace.
abbrev pub still_read : Parts → Reading → ℕ → List Row → ℕ → List Report
still_read spec rd f rows n = ended_in spec rd f rows ++ as_list (close (reading_after spec rd f rows) n)

-- Each reconfiguration begins at or after frame `low`, ends no earlier than it begins, and ends before the next
-- reconfiguration begins.
abbrev pub Ordered : ℕ → List Report → Type 0
Ordered low [] = Unit {0}
Ordered low (r ∷ read) = (low ≤ r.begin) × (r.begin ≤ r.end) × Ordered (suc r.end) read

-- A reconfiguration under way began at or after frame `low` and at or before frame `f`. If none is under way, `low`
-- is at most `f`.
abbrev BeginsIn : Reading → ℕ → ℕ → Type 0
BeginsIn (Steady c) low f = low ≤ f
BeginsIn (Leaving c begin) low f = (low ≤ begin) × (begin ≤ f)

-- If the reconfiguration under way ends in the row of frame `f` or continues, then the reconfigurations still to be
-- read are in order.
arrived : (spec : Parts) (rows : List Row) (c : ConfId) (begin low f n : ℕ) (o : Option ConfId) → low ≤ begin → begin ≤ f
    → Ordered low (still_read spec (Leaving c begin) (suc f) rows n) → ((j : ConfId) → Ordered (suc f) (still_read spec (Steady j) (suc f) rows n))
    → Ordered low ((as_list (arrival c begin f o) ++ ended_in spec (arrive c begin o) (suc f) rows) ++ as_list (close (reading_after spec (arrive c begin o) (suc f) rows) n))
arrived spec rows c begin low f n None from late leaving steady = leaving
arrived spec rows c begin low f n (Some j) from late leaving steady = (from, late, steady j)

ordered_from : (spec : Parts) (rows : List Row) (rd : Reading) (low f n : ℕ) → BeginsIn rd low f → f + length rows ≡ n → Ordered low (still_read spec rd f rows n)
ordered_from spec [] (Steady c) low f n begins count = tt
ordered_from spec [] (Leaving c begin) low f n begins count = (begins.0, (let late = begins.1 in omega arith), tt)
ordered_from spec (row ∷ rows) (Steady c) low f n begins count = by_test {A = Reading} (λ rd. Ordered low (still_read spec rd (suc f) rows n)) (runs spec row.acts c) (Steady c) (Leaving c f)
    (λ _. ordered_from spec rows (Steady c) low (suc f) n (let late : low ≤ f = begins in omega arith) (omega arith))
    (λ _. ordered_from spec rows (Leaving c f) low (suc f) n (begins, (omega arith)) (omega arith))
ordered_from spec (row ∷ rows) (Leaving c begin) low f n begins count =
    arrived spec rows c begin low f n (running spec row.acts) begins.0 begins.1
    (ordered_from spec rows (Leaving c begin) low (suc f) n (begins.0, (let late = begins.1 in omega arith)) (omega arith))
    (λ j. ordered_from spec rows (Steady j) (suc f) (suc f) n (omega arith) (omega arith))

pub ordered_reports : (spec : Parts) (rows : List Row) → Ordered 0 (reports spec rows)
ordered_reports spec rows = ordered_from spec rows (Steady spec.start) 0 0 (length rows) (omega arith) (omega arith)

-- No reconfiguration of an ordered list ends before frame `low`.
pub ends_after : (low : ℕ) (read : List Report) → Ordered low read → (k : ℕ) (x : Report) → slice_get read k ≡ Some x → low ≤ x.end
ends_after low [] o k x e = absurd (let no : ◌≡◌ {A = Option Report} None (Some x) = sym (slice_get_past {X = Report} [] k (omega arith)) ∙ e in cc)
ends_after low (r ∷ read) o zero x e = let same : r ≡ x = cc in let a = o.0 in let b = o.1 in rw (← same) (omega arith)
ends_after low (r ∷ read) o (suc k) x e = let later = ends_after (suc r.end) read o.2 k x e in let a = o.0 in let b = o.1 in omega arith
