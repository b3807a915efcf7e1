-- The printed first line of each row is read back.
use Rattle.std.proofs.Common.{ℕ, ◌≡◌, ◌<◌, ◌≤◌, true, List, [], ◌∷◌, Option, Some, None, Ok, length, decimal, arith, refl}
use Rattle.std.specs.Prelude.{codes, nat_le}
use Rattle.std.specs.Fmt.{signed_decimal}
use Rattle.std.specs.List.{list_all}
use Rattle.std.proofs.lemmas.Bool.{eq-eqb}
use Rattle.scram_types.specs.Specification.{IsIn, IsInIfNamed, IsSpec, Parts}
use Rattle.scram_types.specs.Lookups.{conf_name}
use Rattle.scram_types.specs.declared.rows.Env.{Env}
use Rattle.scram_types.specs.declared.rows.Report.{Report}
use Rattle.scram_types.specs.declared.rows.Row.{Row}
use Rattle.scram_types.specs.declared.rows.World.{World}
use Rattle.scram_types.specs.declared.ids.ConfId.{ConfId}
use Rattle.scram_types.specs.declared.limits.TheConstants.{MAX_FRAMES}
use Rattle.scram_types.specs.declared.orders.KMode.{KMode}
use Rattle.scram_types.specs.declared.orders.KMode.TheVariants.{Stable, Moving}
use Rattle.trace_text.specs.declared.progress.Expected.TheVariants.{Rows}
use Rattle.trace_text.specs.Flights.{IsEnvShown, IsModeShown, IsMove, IsWorldShown}
use Rattle.trace_text.specs.Names.{conf_or_dash}
use Rattle.trace_text.specs.RowReading.{row_begun, row_of_words}
use Rattle.trace_text.specs.Text.{row_line, up_text, values_text}
use Rattle.trace_text.specs.TraceReading.{ReadingState, expected_line}
use Rattle.trace_text.proofs.ListsBack.{up_text_back, values_text_back}
use Rattle.trace_text.proofs.NamesBack.{conf_back, conf_found_back, conf_or_dash_back}
use Rattle.trace_text.proofs.Shapes.{moving_shape, stable_shape}
use Rattle.trace_text.proofs.WordBytes.{decimal_visible, is_visible, line_of, name_short, name_visible, width, words_back, words_in_back}
use Rattle.trace_text.proofs.LinesBack.{LineBack, frame_short, from_words, in_apps, number_back, shown_back, shown_short, shown_visible}

abbrev pub in_rows : List Row → List Report → ReadingState
in_rows rows reports = record { rows = rows; reports = reports; expected = Rows }

row_taken : (spec : Parts) (rows : List Row) (reports : List Report) (words : List (List ℕ)) (row : Row) →
    list_all is_visible (codes "frame" ∷ words) ≡ true → nat_le (length (codes "frame" ∷ words)) 16 ≡ true → row_of_words spec (length rows) (codes "frame" ∷ words) ≡ Ok row →
    expected_line spec (in_rows rows reports) Rows (line_of (codes "frame" ∷ words)) ≡ Ok (in_apps rows reports 0 row)
row_taken spec rows reports words row visible few read =
    rw (words_in_back (codes "frame") words visible few, words_back (codes "frame") words visible, read) refl

-- The words of an environment and of the world that follows it.
abbrev words_after : Parts → Env → World → List (List ℕ)
words_after spec env world =
    codes "env" ∷ values_text spec env.factors ∷ codes "up" ∷ up_text spec env.up ∷ codes "world"
    ∷ signed_decimal world.alt ∷ signed_decimal world.climb ∷ signed_decimal world.heading ∷ signed_decimal world.bank ∷ []

words_after_visible : (spec : Parts) (env : Env) (world : World) → IsSpec spec → IsEnvShown spec env → IsWorldShown world → list_all is_visible (words_after spec env world) ≡ true
words_after_visible spec env world sound seen shown =
    rw (
      (values_text_back spec env sound seen).visible,
      (up_text_back spec env.up sound seen.up).visible,
      shown_visible world.alt shown.alt,
      shown_visible world.climb shown.climb,
      shown_visible world.heading shown.heading,
      shown_visible world.bank shown.bank,
    ) refl

words_after_narrow : (spec : Parts) (env : Env) (world : World) → IsSpec spec → IsEnvShown spec env → IsWorldShown world → width (words_after spec env world) ≤ 291
words_after_narrow spec env world sound seen shown =
    omega (
      arith,
      (values_text_back spec env sound seen).short,
      (up_text_back spec env.up sound seen.up).short,
      shown_short world.alt shown.alt,
      shown_short world.climb shown.climb,
      shown_short world.heading shown.heading,
      shown_short world.bank shown.bank,
    )

abbrev RowBack : Parts → List Row → List Report → ℕ → KMode → Env → World → Type 0
RowBack spec rows reports frame mode env world =
    LineBack spec (in_rows rows reports) (in_apps rows reports 0 (row_begun frame mode env world)) (row_line spec (row_begun frame mode env world)) 400

stable_back : (spec : Parts) (rows : List Row) (reports : List Report) (c : ConfId) (env : Env) (world : World) → IsSpec spec → length rows < MAX_FRAMES → IsIn spec.confs c →
    IsEnvShown spec env → IsWorldShown world → RowBack spec rows reports (length rows) (Stable c) env world
stable_back spec rows reports c env world sound few known seen shown =
    let name = (conf_back spec c sound known).spelled in
    let values = values_text_back spec env sound seen in
    let up = up_text_back spec env.up sound seen.up in
    let number = frame_short (length rows) (omega (arith, few)) in
    let one = name_short (conf_name spec c.0) name in
    let more = words_after_narrow spec env world sound seen shown in
    let words : List (List ℕ) = decimal (length rows) ∷ codes "stable" ∷ conf_name spec c.0 ∷ words_after spec env world in
    let visible : list_all is_visible (codes "frame" ∷ words) ≡ true
    = rw (decimal_visible (length rows) (omega (arith, few)), name_visible (conf_name spec c.0) name, words_after_visible spec env world sound seen shown) refl in
    let read : row_of_words spec (length rows) (codes "frame" ∷ words) ≡ Ok (row_begun (length rows) (Stable c) env world)
    = rw (
      values.form,
      conf_found_back spec c sound known,
      up.known,
      values.found,
      number_back MAX_FRAMES (length rows) few (omega (arith, few)),
      shown_back world.alt shown.alt,
      shown_back world.climb shown.climb,
      shown_back world.heading shown.heading,
      shown_back world.bank shown.bank,
      eq-eqb (length rows) (length rows) refl,
      up.found,
    ) refl in
    from_words spec (in_rows rows reports) _ (codes "frame") words (row_line spec (row_begun (length rows) (Stable c) env world)) 400 visible (omega (arith, number, one, more)) (omega arith)
    (stable_shape (decimal (length rows)) (conf_name spec c.0) (values_text spec env.factors) (up_text spec env.up)
    (signed_decimal world.alt) (signed_decimal world.climb) (signed_decimal world.heading) (signed_decimal world.bank))
    (row_taken spec rows reports words (row_begun (length rows) (Stable c) env world) visible refl read)

dash_visible : (spec : Parts) (c : Option ConfId) → IsSpec spec → IsInIfNamed spec.confs c → is_visible (conf_or_dash spec c) ≡ true
dash_visible spec None sound known = refl
dash_visible spec (Some c) sound known = name_visible (conf_name spec c.0) (conf_back spec c sound known).spelled

dash_short : (spec : Parts) (c : Option ConfId) → IsSpec spec → IsInIfNamed spec.confs c → length (conf_or_dash spec c) ≤ 16
dash_short spec None sound known = omega arith
dash_short spec (Some c) sound known = name_short (conf_name spec c.0) (conf_back spec c sound known).spelled

moving_back : (spec : Parts) (rows : List Row) (reports : List Report) (from : ConfId) (halting : Option ConfId) (to : ConfId) (since : ℕ) (env : Env) (world : World) → IsSpec spec →
    length rows < MAX_FRAMES → IsMove spec from halting to since → IsEnvShown spec env → IsWorldShown world → RowBack spec rows reports (length rows) (Moving from halting to since) env world
moving_back spec rows reports from halting to since env world sound few move seen shown =
    let source = (conf_back spec from sound move.source).spelled in
    let target = (conf_back spec to sound move.target).spelled in
    let values = values_text_back spec env sound seen in
    let up = up_text_back spec env.up sound seen.up in
    let begun = move.begun in
    let number = frame_short (length rows) (omega (arith, few)) in
    let start = frame_short since (omega (arith, begun)) in
    let one = name_short (conf_name spec from.0) source in
    let two = dash_short spec halting sound move.halts in
    let three = name_short (conf_name spec to.0) target in
    let more = words_after_narrow spec env world sound seen shown in
    let words : List (List ℕ) = decimal (length rows) ∷ codes "moving" ∷ conf_name spec from.0 ∷ conf_or_dash spec halting ∷ conf_name spec to.0 ∷ decimal since ∷ words_after spec env world in
    let visible : list_all is_visible (codes "frame" ∷ words) ≡ true
    = rw (
      decimal_visible (length rows) (omega (arith, few)),
      name_visible (conf_name spec from.0) source,
      dash_visible spec halting sound move.halts,
      name_visible (conf_name spec to.0) target,
      decimal_visible since (omega (arith, begun)),
      words_after_visible spec env world sound seen shown,
    ) refl in
    let read : row_of_words spec (length rows) (codes "frame" ∷ words) ≡ Ok (row_begun (length rows) (Moving from halting to since) env world)
    = rw (
      values.form,
      conf_found_back spec from sound move.source,
      conf_or_dash_back spec halting sound move.halts,
      conf_found_back spec to sound move.target,
      up.known,
      values.found,
      number_back MAX_FRAMES since begun (omega (arith, begun)),
      number_back MAX_FRAMES (length rows) few (omega (arith, few)),
      shown_back world.alt shown.alt,
      shown_back world.climb shown.climb,
      shown_back world.heading shown.heading,
      shown_back world.bank shown.bank,
      eq-eqb (length rows) (length rows) refl,
      up.found,
    ) refl in
    from_words spec (in_rows rows reports) _ (codes "frame") words (row_line spec (row_begun (length rows) (Moving from halting to since) env world)) 400 visible
    (omega (arith, number, start, one, two, three, more)) (omega arith)
    (moving_shape (decimal (length rows)) (conf_name spec from.0) (conf_or_dash spec halting) (conf_name spec to.0) (decimal since) (values_text spec env.factors) (up_text spec env.up)
    (signed_decimal world.alt) (signed_decimal world.climb) (signed_decimal world.heading) (signed_decimal world.bank))
    (row_taken spec rows reports words (row_begun (length rows) (Moving from halting to since) env world) visible refl read)

pub row_back : (spec : Parts) (rows : List Row) (reports : List Report) (mode : KMode) (env : Env) (world : World) → IsSpec spec → length rows < MAX_FRAMES → IsModeShown spec mode →
    IsEnvShown spec env → IsWorldShown world → RowBack spec rows reports (length rows) mode env world
row_back spec rows reports (Stable c) env world sound few known seen shown = stable_back spec rows reports c env world sound few known seen shown
row_back spec rows reports (Moving from halting to since) env world sound few move seen shown = moving_back spec rows reports from halting to since env world sound few move seen shown
