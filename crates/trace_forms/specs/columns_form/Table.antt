-- A trace as a table of comma-separated values. The first line has the names of the columns, and each further line has
-- a row.
use Rattle.std.specs.Prelude.{ℕ, List, [], ◌++◌, length, slice_get, codes}
use Rattle.std.specs.Option.{option_map_or}
use Rattle.scram_types.specs.Specification.{Parts}
use Rattle.scram_types.specs.declared.rows.Report.{Report}
use Rattle.scram_types.specs.declared.rows.Row.{Row}
use Rattle.scram_types.specs.declared.specification.AppSpec.{AppSpec}
use Rattle.form_base.specs.Texts.{texts_below}
use Rattle.trace_forms.specs.columns_form.Fields.{app_fields, row_fields}
use Rattle.trace_forms.specs.columns_form.Heads.{app_head, row_head}

-- The names of the columns of application `a`, or the empty text if there is no such application.
abbrev pub app_head_text : Parts → ℕ → List ℕ
app_head_text spec a = option_map_or app_head (slice_get spec.apps a) []

-- The names of the columns of all applications, and a line feed.
abbrev pub heads_end : Parts → List ℕ
heads_end spec = texts_below (app_head_text spec) (length spec.apps) ++ codes "\n"

-- The first line of the table, which has the names of the columns.
abbrev pub heads_text : Parts → List ℕ
heads_text spec = row_head spec ++ heads_end spec

-- The fields of application `a` in a row, or the empty text if there is no such application.
abbrev pub app_fields_text : Parts → Row → ℕ → List ℕ
app_fields_text spec row a = option_map_or (λ (app : AppSpec). app_fields spec row a app) (slice_get spec.apps a) []

-- The fields of all applications in a row, and a line feed.
abbrev pub fields_end : Parts → Row → List ℕ
fields_end spec row = texts_below (app_fields_text spec row) (length spec.apps) ++ codes "\n"

-- The line of a row.
abbrev pub fields_text : Parts → Row → List ℕ
fields_text spec row = row_fields spec row ++ fields_end spec row

-- The line of row `k`, or the empty text if there is no such row.
abbrev pub row_line_text : Parts → List Row → ℕ → List ℕ
row_line_text spec rows k = option_map_or (fields_text spec) (slice_get rows k) []

-- The table of the rows: the line with the names of the columns, and a line for each row.
abbrev pub columns_text : Parts → List Row → List Report → List ℕ
columns_text spec rows reports = heads_text spec ++ texts_below (row_line_text spec rows) (length rows)
