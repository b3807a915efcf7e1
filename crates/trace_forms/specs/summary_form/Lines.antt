-- The lines of a summary.
use Rattle.std.specs.Prelude.{ℕ, List, ◌++◌, codes, decimal, Option, Some, None}
use Rattle.scram_types.specs.Lookups.{conf_name, env_in, env_before}
use Rattle.scram_types.specs.Specification.{Parts}
use Rattle.scram_types.specs.declared.rows.Report.{Report}
use Rattle.scram_types.specs.declared.rows.Row.{Row}
use Rattle.scram_types.specs.declared.specification.AppSpec.{AppSpec}
use Rattle.trace_text.specs.Text.{target_text}
use Rattle.flight_facts.specs.Acts.{count_acts}
use Rattle.flight_facts.specs.Decisions.{cause_text, difference_or_dash}
use Rattle.flight_facts.specs.Extremes.{extremes_of, extremes_text}
use Rattle.flight_facts.specs.Gaps.{gap_text, longest_gap}
use Rattle.flight_facts.specs.Margins.{margin_of}
use Rattle.flight_facts.specs.Unfinished.{count_unfinished}
use Rattle.flight_facts.specs.declared.acts.ActWord.TheVariants as word
use Rattle.flight_facts.specs.declared.extremes.Extremes.{Extremes}
use Rattle.flight_facts.specs.declared.extremes.Quantity.TheVariants.{Altitude, Climb, Bank}
use Rattle.form_base.specs.Lines.{counts_text}

-- The line of the flight, with the numbers of its frames, its reconfigurations and its unfinished reconfigurations.
abbrev pub flight_line : List Row → List Report → List ℕ
flight_line rows reports = codes "flight" ++ counts_text rows reports ++ codes " unfinished " ++ decimal (count_unfinished reports) ++ codes "\n"

-- The line of the reconfiguration `report`. `earlier` is the preceding reconfiguration, or `None` if there is none.
abbrev pub reconfiguration_line : Parts → List Row → Option Report → Report → List ℕ
reconfiguration_line spec rows earlier report =
    codes "reconfiguration " ++ conf_name spec report.from.0 ++ target_text spec report report.to ++ codes " margin " ++ margin_of spec report
    ++ codes " cause " ++ cause_text spec rows earlier report.begin ++ codes "\n"

-- The line with the changes of the environment from the preceding row to row `k`. If nothing changed, the line has
-- `-` instead.
abbrev pub change_line : Parts → List Row → ℕ → List ℕ
change_line spec rows k =
    codes "  frame " ++ decimal k ++ codes " " ++ difference_or_dash spec (env_before spec rows k) (env_in rows k) ++ codes "\n"

-- The line of application `a`: the numbers of rows in which the application ran, was lost and was off, and the
-- longest gap of the application.
abbrev pub app_summary_line : List Row → ℕ → AppSpec → List ℕ
app_summary_line rows a app =
    codes "app " ++ app.name ++ codes " ran " ++ decimal (count_acts word.Ran a rows) ++ codes " lost " ++ decimal (count_acts word.Lost a rows)
    ++ codes " off " ++ decimal (count_acts word.Off a rows) ++ gap_text (longest_gap a 0 rows) ++ codes "\n"

-- The ranges of altitude, climb and bank, or ` -` if one of the ranges is missing.
abbrev pub ranges_text : Option Extremes → Option Extremes → Option Extremes → List ℕ
ranges_text None climb bank = codes " -"
ranges_text (Some altitude) None bank = codes " -"
ranges_text (Some altitude) (Some climb) None = codes " -"
ranges_text (Some altitude) (Some climb) (Some bank) =
    codes " altitude " ++ extremes_text altitude ++ codes " climb " ++ extremes_text climb ++ codes " bank " ++ extremes_text bank

-- The line of the world. It has the ranges of altitude, climb and bank, or `-` if there are no rows.
abbrev pub world_line : List Row → List ℕ
world_line rows = codes "world" ++ ranges_text (extremes_of Altitude rows) (extremes_of Climb rows) (extremes_of Bank rows) ++ codes "\n"
