-- The text of a trace. The lines of each row come first, then the lines of the reconfigurations, and then the end
-- line.
use Rattle.std.specs.Prelude.{ℕ, ℤ, ◌+◌, ◌-◌, List, [], ◌∷◌, ◌++◌, length, slice_index_or, Option, Some, None, codes, decimal}
use Rattle.std.specs.Fmt.{signed_decimal}
use Rattle.scram_types.specs.Specification.{Parts, bound_in, greatest_bound_in}
use Rattle.scram_types.specs.declared.ids.ConfId.{ConfId}
use Rattle.scram_types.specs.declared.specification.AppSpec.{AppSpec}
use Rattle.scram_types.specs.declared.rows.Report.{Report}
use Rattle.scram_types.specs.declared.rows.Row.{Row}
use Rattle.scram_types.specs.declared.rows.World.{World}
use Rattle.scram_types.specs.declared.orders.Act.{Act}
use Rattle.scram_types.specs.declared.orders.Act.TheVariants.{Ran, Halting, Held, Preparing, Initialising, Off, Lost}
use Rattle.scram_types.specs.declared.orders.KMode.{KMode}
use Rattle.scram_types.specs.declared.orders.KMode.TheVariants.{Stable, Moving}
use Rattle.kind_table.specs.Names.{mode_text}
use Rattle.trace_text.specs.Names.{conf_or_dash, joined, values_named, names_up}
use Rattle.scram_types.specs.Lookups.{proc_name, conf_name}

-- The text of a row's mode: `stable` and the configuration, or `moving`, the source, the halting configuration, the
-- target and the frame `since`.
abbrev pub kernel_mode_text : Parts → KMode → List ℕ
kernel_mode_text spec (Stable c) = codes "stable " ++ conf_name spec c.0
kernel_mode_text spec (Moving from halting to since) =
    codes "moving " ++ conf_name spec from.0 ++ codes " " ++ conf_or_dash spec halting
    ++ codes " " ++ conf_name spec to.0 ++ codes " " ++ decimal since

-- The names of the factors' values, joined by commas, or `-` if there are no factors.
abbrev pub values_text : Parts → List ℕ → List ℕ
values_text spec values = joined (values_named spec.factors 0 values)

-- The names of the processors that are up, joined by commas, or `-` if no processor is up.
abbrev pub up_text : Parts → ℕ → List ℕ
up_text spec up = joined (names_up spec.procs up)

-- The text of the world: altitude, climb, heading and bank.
abbrev pub world_text : World → List ℕ
world_text world =
    signed_decimal world.alt ++ codes " " ++ signed_decimal world.climb ++ codes " "
    ++ signed_decimal world.heading ++ codes " " ++ signed_decimal world.bank

-- The first line of a row: its frame, mode, environment and world.
abbrev pub row_line : Parts → Row → List ℕ
row_line spec row =
    codes "frame " ++ decimal row.frame ++ codes " " ++ kernel_mode_text spec row.mode
    ++ codes " env " ++ values_text spec row.env.factors ++ codes " up " ++ up_text spec row.env.up
    ++ codes " world " ++ world_text row.world ++ codes "\n"

-- The text of frame `k` of the `n` frames of a phase, with the name of the processor.
abbrev pub phase_text : Parts → ℕ → ℕ → ℕ → List ℕ
phase_text spec k n proc = decimal k ++ codes "/" ++ decimal n ++ codes " " ++ proc_name spec proc

-- The text of an act, with the mode and the processor if the act has them. The names of the modes depend on the kind
-- of the application.
abbrev pub act_text : Parts → ℕ → Act → List ℕ
act_text spec kind (Ran mode proc) = codes "ran " ++ mode_text kind mode.0 ++ codes " " ++ proc_name spec proc.0
act_text spec kind (Halting k n proc) = codes "halting " ++ phase_text spec k n proc.0
act_text spec kind Held = codes "held"
act_text spec kind (Preparing k n proc) = codes "preparing " ++ phase_text spec k n proc.0
act_text spec kind (Initialising k n proc) = codes "initialising " ++ phase_text spec k n proc.0
act_text spec kind Off = codes "off"
act_text spec kind Lost = codes "lost"

-- The words of an area, each preceded by a space.
abbrev pub area_text : List ℤ → List ℕ
area_text [] = []
area_text (word ∷ words) = codes " " ++ signed_decimal word ++ area_text words

-- The line of an application: its act and its area.
abbrev pub app_line : Parts → AppSpec → Act → List ℤ → List ℕ
app_line spec app act area =
    codes "app " ++ app.name ++ codes " " ++ act_text spec app.kind.0 act ++ codes " :" ++ area_text area ++ codes "\n"

-- The line of application `a` in a row.
abbrev pub app_line_in : Parts → Row → AppSpec → ℕ → List ℕ
app_line_in spec row app a = app_line spec app (slice_index_or row.acts a Off) (slice_index_or row.areas a [])

-- The lines of these applications in a row, given the number `a` of the first of them.
abbrev pub app_lines : Parts → Row → List AppSpec → ℕ → List ℕ
app_lines spec row [] a = []
app_lines spec row (app ∷ apps) a =
    app_line_in spec row app a ++ app_lines spec row apps (a + 1)

-- The lines of a row: the first line, and a line for each application.
abbrev pub row_text : Parts → Row → List ℕ
row_text spec row = row_line spec row ++ app_lines spec row spec.apps 0

-- The lines of the rows, in order.
abbrev pub rows_text : Parts → List Row → List ℕ
rows_text spec [] = []
rows_text spec (row ∷ rows) = row_text spec row ++ rows_text spec rows

-- The text of a bound, or `-` if there is no bound.
abbrev pub bound_text : Option ℕ → List ℕ
bound_text None = codes "-"
bound_text (Some frames) = decimal frames

-- The text of the length of a reconfiguration and of the bound on it.
abbrev pub length_text : Report → Option ℕ → List ℕ
length_text report bound = codes " took " ++ decimal (report.end - report.begin) ++ codes " of " ++ bound_text bound

-- The text of a reconfiguration after its source. An unfinished reconfiguration has `-` for its target and its end,
-- and shows the greatest bound from its source.
abbrev pub target_text : Parts → Report → Option ConfId → List ℕ
target_text spec report None =
    codes " > - begin " ++ decimal report.begin ++ codes " end -"
    ++ length_text report (greatest_bound_in spec.bounds report.from.0)
target_text spec report (Some to) =
    codes " > " ++ conf_name spec to.0 ++ codes " begin " ++ decimal report.begin ++ codes " end " ++ decimal report.end
    ++ length_text report (bound_in spec.bounds report.from.0 to.0)

-- The line of a reconfiguration.
abbrev pub report_line : Parts → Report → List ℕ
report_line spec report =
    codes "reconfiguration " ++ conf_name spec report.from.0 ++ target_text spec report report.to ++ codes "\n"

-- The lines of the reconfigurations, in order.
abbrev pub reports_text : Parts → List Report → List ℕ
reports_text spec [] = []
reports_text spec (report ∷ reports) = report_line spec report ++ reports_text spec reports

-- The end line of a trace with these numbers of frames and reconfigurations.
abbrev pub end_line : ℕ → ℕ → List ℕ
end_line frames reports = codes "end frames " ++ decimal frames ++ codes " reconfigurations " ++ decimal reports ++ codes "\n"

-- The text after the rows, given the number of frames: the lines of the reconfigurations and the end line.
abbrev pub ending_text : Parts → ℕ → List Report → List ℕ
ending_text spec frames reports = reports_text spec reports ++ end_line frames (length reports)

-- The whole text of a trace.
abbrev pub text_of : Parts → List Row → List Report → List ℕ
text_of spec rows reports = rows_text spec rows ++ ending_text spec (length rows) reports
