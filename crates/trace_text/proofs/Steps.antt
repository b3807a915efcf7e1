-- Lemmas on the text that has been written after a further application, row or report.
use Rattle.std.proofs.Common.{◌≡◌, ℕ, ◌+◌, ◌<◌, List, ◌∷◌, ◌++◌, length, drop, slice_index_or, append_assoc, sym, ◌∙◌, ap}
use Rattle.std.proofs.lemmas.List.{drop_more}
use Rattle.scram_types.specs.Specification.{Parts}
use Rattle.scram_types.specs.declared.specification.AppSpec.{AppSpec}
use Rattle.scram_types.specs.declared.rows.Report.{Report}
use Rattle.scram_types.specs.declared.rows.Row.{Row}
use Rattle.trace_text.specs.Text.{app_line_in, app_lines, row_text, rows_text, report_line, reports_text}

pub apps_more : (spec : Parts) (row : Row) (a : ℕ) (app : AppSpec) (front : List ℕ) → a < length spec.apps →
    app ≡ slice_index_or spec.apps a app →
    app_lines spec row spec.apps 0 ≡ front ++ app_lines spec row (drop a spec.apps) a →
    app_lines spec row spec.apps 0
    ≡ (front ++ app_line_in spec row app a) ++ app_lines spec row (drop (a + 1) spec.apps) (a + 1)
apps_more spec row a app front below item known =
    known ∙ ap (λ (apps : List AppSpec). front ++ app_lines spec row apps a) (drop_more spec.apps a app below)
    ∙ ap (λ (one : AppSpec). front ++ app_lines spec row (one ∷ drop (a + 1) spec.apps) a) (sym item)
    ∙ sym (append_assoc front (app_line_in spec row app a) (app_lines spec row (drop (a + 1) spec.apps) (a + 1)))

pub rows_more : (spec : Parts) (rows : List Row) (i : ℕ) (other : Row) (front : List ℕ) → i < length rows →
    rows_text spec rows ≡ front ++ rows_text spec (drop i rows) →
    rows_text spec rows ≡ (front ++ row_text spec (slice_index_or rows i other)) ++ rows_text spec (drop (i + 1) rows)
rows_more spec rows i other front below known =
    known ∙ ap (λ (left : List Row). front ++ rows_text spec left) (drop_more rows i other below)
    ∙ sym (append_assoc front (row_text spec (slice_index_or rows i other)) (rows_text spec (drop (i + 1) rows)))

pub reports_more : (spec : Parts) (reports : List Report) (i : ℕ) (other : Report) (front : List ℕ) → i < length reports →
    reports_text spec reports ≡ front ++ reports_text spec (drop i reports) →
    reports_text spec reports ≡ (front ++ report_line spec (slice_index_or reports i other)) ++ reports_text spec (drop (i + 1) reports)
reports_more spec reports i other front below known =
    known ∙ ap (λ (left : List Report). front ++ reports_text spec left) (drop_more reports i other below)
    ∙ sym (append_assoc front (report_line spec (slice_index_or reports i other)) (reports_text spec (drop (i + 1) reports)))
