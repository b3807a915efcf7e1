-- Spans: consecutive rows of a lane that are drawn as one box.
use Rattle.std.specs.Prelude.{ℕ, List, [], ◌++◌, slice_get, slice_index, Option, Some, None, codes, decimal, if◌then◌else◌}
use Rattle.std.specs.Option.{option_map_or}
use Rattle.scram_types.specs.Bits.{has_bit}
use Rattle.scram_types.specs.Lookups.{app_name, conf_name, factor_name, kind_of_app, proc_name, value_name}
use Rattle.scram_types.specs.Specification.{Parts}
use Rattle.scram_types.specs.declared.rows.Row.{Row}
use Rattle.scram_types.specs.declared.ids.ConfId.{ConfId}
use Rattle.scram_types.specs.declared.orders.Act.{Act}
use Rattle.scram_types.specs.declared.orders.Act.TheVariants as act
use Rattle.scram_types.specs.declared.specification.Factor.{Factor}
use Rattle.kind_table.specs.Names.{mode_text}
use Rattle.flight_facts.specs.Acts.{act_of, act_word, word_text}
use Rattle.flight_facts.specs.Spans.{span_at, stable_conf}
use Rattle.flight_facts.specs.declared.spans.Lane.{Lane}
use Rattle.flight_facts.specs.declared.spans.Lane.TheVariants as lane
use Rattle.picture_form.specs.Boxes.{box_text, frames_text, label_text}
use Rattle.picture_form.specs.Sheets.{width_of, x_of}
use Rattle.picture_form.specs.declared.sheets.Sheet.{Sheet}
use Rattle.picture_form.specs.declared.spans.Span.{Span}
use Rattle.picture_form.specs.declared.spans.Strip.{Strip}

-- The name of a lane.
abbrev pub lane_name : Parts → Lane → List ℕ
lane_name spec lane.Configuration = codes "configuration"
lane_name spec (lane.Factor i) = factor_name spec i
lane_name spec (lane.Processor p) = proc_name spec p
lane_name spec (lane.Application a) = app_name spec a

-- The name of the value of factor `i` in a row, or the empty text if there is no such factor.
abbrev pub value_in : Parts → ℕ → Row → List ℕ
value_in spec i row = option_map_or (λ (factor : Factor). value_name factor (slice_index row.env.factors i)) (slice_get spec.factors i) []

-- The SVG class of the box of a row in a lane.
abbrev pub class_text : Lane → Row → List ℕ
class_text lane.Configuration row = codes "stable"
class_text (lane.Factor i) row = codes "v" ++ decimal (slice_index row.env.factors i)
class_text (lane.Processor p) row = codes "up"
class_text (lane.Application a) row = word_text (act_word (act_of row a))

-- The mode and the processor of an act, each preceded by a space. A mode or a processor that the act does not have is
-- left out.
abbrev pub mode_and_proc : Parts → ℕ → Act → List ℕ
mode_and_proc spec kind (act.Ran mode proc) = codes " " ++ mode_text kind mode.0 ++ codes " " ++ proc_name spec proc.0
mode_and_proc spec kind (act.Halting k n proc) = codes " " ++ proc_name spec proc.0
mode_and_proc spec kind act.Held = []
mode_and_proc spec kind (act.Preparing k n proc) = codes " " ++ proc_name spec proc.0
mode_and_proc spec kind (act.Initialising k n proc) = codes " " ++ proc_name spec proc.0
mode_and_proc spec kind act.Off = []
mode_and_proc spec kind act.Lost = []

-- The words that describe a row in the title of its box: `stable`, the name of a factor's value, `up`, or the act
-- with its mode and processor.
abbrev pub words_text : Parts → Lane → Row → List ℕ
words_text spec lane.Configuration row = codes "stable"
words_text spec (lane.Factor i) row = value_in spec i row
words_text spec (lane.Processor p) row = codes "up"
words_text spec (lane.Application a) row = word_text (act_word (act_of row a)) ++ mode_and_proc spec (kind_of_app spec a) (act_of row a)

-- The label of an act: the mode and the processor of a run, or the name of any other act.
abbrev pub act_label : Parts → ℕ → Act → List ℕ
act_label spec kind (act.Ran mode proc) = mode_text kind mode.0 ++ codes " " ++ proc_name spec proc.0
act_label spec kind (act.Halting k n proc) = codes "halting"
act_label spec kind act.Held = codes "held"
act_label spec kind (act.Preparing k n proc) = codes "preparing"
act_label spec kind (act.Initialising k n proc) = codes "initialising"
act_label spec kind act.Off = codes "off"
act_label spec kind act.Lost = codes "lost"

-- The label of a row in a lane.
abbrev pub label_of : Parts → Lane → Row → List ℕ
label_of spec lane.Configuration row = codes "stable"
label_of spec (lane.Factor i) row = value_in spec i row
label_of spec (lane.Processor p) row = codes "up"
label_of spec (lane.Application a) row = act_label spec (kind_of_app spec a) (act_of row a)

-- The label of a span, or the empty text if the span's box is too narrow.
abbrev pub span_label : Sheet → Span → List ℕ → List ℕ
span_label sheet span label = label_text (x_of sheet span.first) span.y (width_of sheet span.rows) label

-- The box of a span, with the title and the label of the span's first row.
abbrev pub rect_text : Parts → Sheet → Row → Span → List ℕ
rect_text spec sheet row span =
    codes "<rect class=\"" ++ class_text span.lane row ++ codes "\"" ++ box_text (x_of sheet span.first) span.y (width_of sheet span.rows) ++ codes "><title>"
    ++ lane_name spec span.lane ++ codes " " ++ words_text spec span.lane row ++ frames_text span.first span.rows ++ codes "</title></rect>"
    ++ span_label sheet span (label_of spec span.lane row) ++ codes "\n"

-- A line below a span in which a configuration is stable, with the configuration's name. The text is empty if no
-- configuration is stable.
abbrev pub stable_text : Parts → Sheet → Option ConfId → Span → List ℕ
stable_text spec sheet None span = []
stable_text spec sheet (Some c) span =
    codes "<path class=\"stable\" d=\"M" ++ decimal (x_of sheet span.first) ++ codes " 38h" ++ decimal (width_of sheet span.rows) ++ codes "\"/>"
    ++ span_label sheet span (conf_name spec c.0) ++ codes "\n"

-- The drawing of a span in its lane, given the span's first row. It is empty for a processor that is down, and in the
-- lane of configurations if no configuration is stable.
abbrev pub lane_span_text : Parts → Sheet → Row → Span → Lane → List ℕ
lane_span_text spec sheet row span lane.Configuration = stable_text spec sheet (stable_conf row.mode) span
lane_span_text spec sheet row span (lane.Factor i) = rect_text spec sheet row span
lane_span_text spec sheet row span (lane.Processor p) = if has_bit row.env.up p then rect_text spec sheet row span else []
lane_span_text spec sheet row span (lane.Application a) = rect_text spec sheet row span

-- The drawing of the span that begins in row `k`, given the span's number of rows. It is empty if this number is
-- `None`, which means that no span begins in row `k`.
abbrev pub begun_text : Parts → Sheet → Row → Strip → ℕ → Option ℕ → List ℕ
begun_text spec sheet row strip k None = []
begun_text spec sheet row strip k (Some n) = lane_span_text spec sheet row (record { lane = strip.lane; y = strip.y; first = k; rows = n }) strip.lane

-- The drawing of the span that begins in row `k`, or the empty text if no span begins there.
abbrev pub span_text : Parts → Sheet → List Row → Strip → ℕ → List ℕ
span_text spec sheet rows strip k = option_map_or (λ (row : Row). begun_text spec sheet row strip k (span_at strip.lane rows k)) (slice_get rows k) []
