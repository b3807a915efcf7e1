-- The printed lines of reconfigurations and the end line are read back.
use Rattle.std.proofs.Common.{ℕ, suc, ◌≡◌, ◌<◌, ◌≤◌, ◌-◌, ◌^◌, ◌∙◌, Bool, true, false, cond, List, [], ◌∷◌, ◌++◌, Option, Some, None, Ok, length, decimal, arith, refl}
use Rattle.std.specs.Prelude.{◌==◌, ◌&&◌, IfSome, codes, nat_le, nat_lt}
use Rattle.std.specs.List.{list_all}
use Rattle.std.proofs.lemmas.Bool.{eq-eqb, le-leb}
use Rattle.std.proofs.lemmas.Fmt.{length-decimal-le}
use Rattle.scram_types.specs.Specification.{Each, IsBound, IsIn, IsInIfNamed, IsSpec, Parts, bound_in, greater_of, greatest_bound_from, greatest_bound_in}
use Rattle.scram_types.specs.Lookups.{conf_name}
use Rattle.scram_types.specs.declared.rows.Report.{Report}
use Rattle.scram_types.specs.declared.rows.Row.{Row}
use Rattle.scram_types.specs.declared.ids.ConfId.{ConfId}
use Rattle.scram_types.specs.declared.limits.TheConstants.{MAX_FRAMES}
use Rattle.scram_types.specs.declared.specification.Bound.{Bound}
use Rattle.trace_text.specs.declared.progress.Expected.TheVariants.{Rows, Reports, Over}
use Rattle.trace_text.specs.declared.progress.Expected.{Expected}
use Rattle.trace_text.specs.Flights.{IsEndShown, IsReportShown}
use Rattle.trace_text.specs.Pieces.{words_of}
use Rattle.trace_text.specs.ReportReading.{bound_or_none, end_in, report_in, same_bound}
use Rattle.trace_text.specs.Text.{bound_text, end_line, report_line}
use Rattle.trace_text.specs.TraceReading.{ReadingState, begins, closing, expected_line}
use Rattle.trace_text.proofs.NamesBack.{conf_back, conf_found_back, name_not_dash, not_dash}
use Rattle.trace_text.proofs.Shapes.{end_shape, finished_shape, unfinished_shape}
use Rattle.trace_text.proofs.WordBytes.{decimal_over, decimal_visible, is_visible, line_of, name_short, name_visible, words_back, words_in_back}
use Rattle.trace_text.proofs.LinesBack.{LineBack, frame_short, from_words, number_back}

-- The lines that are expected after the lines of the rows. The argument is whether a further row is allowed.
abbrev pub closing_by : Bool → Expected
closing_by true = Rows
closing_by false = Reports

abbrev pub in_closing : Bool → List Row → List Report → ReadingState
in_closing early rows reports = record { rows = rows; reports = reports; expected = closing_by early }

closing_taken : (early : Bool) (spec : Parts) (rows : List Row) (reports : List Report) (line : List ℕ) → begins line (codes "frame") ≡ false →
    expected_line spec (in_closing early rows reports) (closing_by early) line ≡ closing spec (in_closing early rows reports) line
closing_taken true spec rows reports line other = rw other refl
closing_taken false spec rows reports line other = refl

report_taken : (early : Bool) (spec : Parts) (rows : List Row) (reports : List Report) (words : List (List ℕ)) (report : Report) → list_all is_visible (codes "reconfiguration" ∷ words) ≡ true →
    nat_le (length (codes "reconfiguration" ∷ words)) 16 ≡ true → report_in spec (length rows) (codes "reconfiguration" ∷ words) ≡ Ok report →
    expected_line spec (in_closing early rows reports) (closing_by early) (line_of (codes "reconfiguration" ∷ words)) ≡ Ok (in_closing false rows (reports ++ report ∷ []))
report_taken early spec rows reports words report visible few read =
    let line = line_of (codes "reconfiguration" ∷ words) in
    let first : words_of line ≡ codes "reconfiguration" ∷ words = words_back (codes "reconfiguration") words visible in
    let other : begins line (codes "frame") ≡ false = rw first refl in
    closing_taken early spec rows reports line other
    ∙ rw (words_in_back (codes "reconfiguration") words visible few, first, read) refl

end_taken : (early : Bool) (spec : Parts) (rows : List Row) (reports : List Report) (words : List (List ℕ)) → list_all is_visible (codes "end" ∷ words) ≡ true →
    nat_le (length (codes "end" ∷ words)) 16 ≡ true → end_in (length rows) (length reports) (codes "end" ∷ words) ≡ Ok tt →
    expected_line spec (in_closing early rows reports) (closing_by early) (line_of (codes "end" ∷ words)) ≡ Ok (record { rows = rows; reports = reports; expected = Over })
end_taken early spec rows reports words visible few read =
    let line = line_of (codes "end" ∷ words) in
    let first : words_of line ≡ codes "end" ∷ words = words_back (codes "end") words visible in
    let other : begins line (codes "frame") ≡ false = rw first refl in
    closing_taken early spec rows reports line other
    ∙ rw (words_in_back (codes "end") words visible few, first, read) refl

-- The bound, if it is given, is at most 1000 frames.
abbrev pub IsSmallBound : Option ℕ → Type 0
IsSmallBound given = IfSome given (λ (frames : ℕ). frames ≤ 1000)

small_by : (t : Bool) (frames : ℕ) (more : Option ℕ) → frames ≤ 1000 → IsSmallBound more → IsSmallBound (cond t (Some frames) more)
small_by true frames more one rest = one
small_by false frames more one rest = rest

pub bound_small : (spec : Parts) (bounds : List Bound) (from to : ℕ) → Each (IsBound spec.confs) bounds → IsSmallBound (bound_in bounds from to)
bound_small spec [] from to sound = tt
bound_small spec (bound ∷ bounds) from to sound =
    small_by (bound.from.0 == from && bound.to.0 == to) bound.frames (bound_in bounds from to) (sound 0 bound refl).most (bound_small spec bounds from to (λ i x there. sound (suc i) x there))

greater_small : (greatest : Option ℕ) (frames : ℕ) → IsSmallBound greatest → frames ≤ 1000 → greater_of greatest frames ≤ 1000
greater_small None frames h one = one
greater_small (Some most) frames h one = by (nat_lt most frames)
  where
    by : (t : Bool) → cond t frames most ≤ 1000
    by true = one
    by false = h

pub greatest_small : (spec : Parts) (bounds : List Bound) (from : ℕ) (greatest : Option ℕ) → Each (IsBound spec.confs) bounds → IsSmallBound greatest → IsSmallBound (greatest_bound_from greatest bounds from)
greatest_small spec [] from greatest sound h = h
greatest_small spec (bound ∷ bounds) from greatest sound h =
    greatest_small spec bounds from (cond (bound.from.0 == from) (Some (greater_of greatest bound.frames)) greatest) (λ i x there. sound (suc i) x there)
    (small_by (bound.from.0 == from) (greater_of greatest bound.frames) greatest (greater_small greatest bound.frames h (sound 0 bound refl).most) h)

pub record BoundBack (given : Option ℕ) : Type 0 where
  pub visible : is_visible (bound_text given) ≡ true
  pub short : length (bound_text given) ≤ 4
  pub found : bound_or_none (bound_text given) ≡ Some given

bound_back : (given : Option ℕ) → IsSmallBound given → BoundBack given
bound_back None small = record { visible = refl; short = omega arith; found = refl }
bound_back (Some frames) small = record {
  visible = decimal_visible frames (omega (arith, small));
  short = length-decimal-le 4 frames (omega arith) (omega (arith, small)) (omega (arith, small));
  found = rw (not_dash (decimal frames) (decimal_over frames (omega (arith, small))), number_back (2 ^ 32) frames (omega (arith, small)) (omega (arith, small))) refl;
}

bound_itself : (given : Option ℕ) → same_bound given given ≡ true
bound_itself None = refl
bound_itself (Some frames) = eq-eqb frames frames refl

abbrev ReportBack : Bool → Parts → List Row → List Report → Report → Type 0
ReportBack early spec rows reports report = LineBack spec (in_closing early rows reports) (in_closing false rows (reports ++ report ∷ [])) (report_line spec report) 100

finished_back : (early : Bool) (spec : Parts) (rows : List Row) (reports : List Report) (from to : ConfId) (begin end : ℕ) → IsSpec spec → IsIn spec.confs from → IsIn spec.confs to →
    begin ≤ end → end < MAX_FRAMES → ReportBack early spec rows reports (record { from = from; to = Some to; begin = begin; end = end })
finished_back early spec rows reports from to begin end sound source target ordered last =
    let given = bound_in spec.bounds from.0 to.0 in
    let bound = bound_back given (bound_small spec spec.bounds from.0 to.0 sound.bounds) in
    let a = (conf_back spec from sound source).spelled in
    let b = (conf_back spec to sound target).spelled in
    let one = name_short (conf_name spec from.0) a in
    let two = name_short (conf_name spec to.0) b in
    let three = frame_short begin (omega (arith, ordered, last)) in
    let four = frame_short end (omega (arith, last)) in
    let five = frame_short (end - begin) (omega (arith, last)) in
    let six = bound.short in
    let words : List (List ℕ) = conf_name spec from.0 ∷ codes ">" ∷ conf_name spec to.0 ∷ codes "begin" ∷ decimal begin ∷ codes "end" ∷ decimal end ∷ codes "took" ∷ decimal (end - begin)
    ∷ codes "of" ∷ bound_text given ∷ [] in
    let visible : list_all is_visible (codes "reconfiguration" ∷ words) ≡ true
    = rw (
      name_visible (conf_name spec from.0) a,
      name_visible (conf_name spec to.0) b,
      decimal_visible begin (omega (arith, ordered, last)),
      decimal_visible end (omega (arith, last)),
      decimal_visible (end - begin) (omega (arith, last)),
      bound.visible,
    ) refl in
    let read : report_in spec (length rows) (codes "reconfiguration" ∷ words) ≡ Ok (record { from = from; to = Some to; begin = begin; end = end })
    = rw (
      name_not_dash (conf_name spec to.0) b,
      not_dash (decimal end) (decimal_over end (omega (arith, last))),
      conf_found_back spec from sound source,
      conf_found_back spec to sound target,
      number_back MAX_FRAMES end last (omega (arith, last)),
      number_back MAX_FRAMES begin (omega (arith, ordered, last)) (omega (arith, ordered, last)),
      number_back (2 ^ 32) (end - begin) (omega (arith, last)) (omega (arith, last)),
      bound.found,
      le-leb begin end ordered,
      eq-eqb (end - begin) (end - begin) refl,
      bound_itself given,
    ) refl in
    from_words spec (in_closing early rows reports) _ (codes "reconfiguration") words (report_line spec (record { from = from; to = Some to; begin = begin; end = end })) 100 visible
    (omega (arith, one, two, three, four, five, six)) (omega arith)
    (finished_shape (conf_name spec from.0) (conf_name spec to.0) (decimal begin) (decimal end) (decimal (end - begin)) (bound_text given))
    (report_taken early spec rows reports words (record { from = from; to = Some to; begin = begin; end = end }) visible refl read)

unfinished_back : (early : Bool) (spec : Parts) (rows : List Row) (reports : List Report) (from : ConfId) (begin : ℕ) → IsSpec spec → IsIn spec.confs from → length rows ≤ MAX_FRAMES →
    begin < MAX_FRAMES → begin ≤ length rows → ReportBack early spec rows reports (record { from = from; to = None; begin = begin; end = length rows })
unfinished_back early spec rows reports from begin sound source few begun ordered =
    let given = greatest_bound_in spec.bounds from.0 in
    let bound = bound_back given (greatest_small spec spec.bounds from.0 None sound.bounds tt) in
    let a = (conf_back spec from sound source).spelled in
    let one = name_short (conf_name spec from.0) a in
    let three = frame_short begin (omega (arith, begun)) in
    let five = frame_short (length rows - begin) (omega (arith, few)) in
    let six = bound.short in
    let words : List (List ℕ) = conf_name spec from.0 ∷ codes ">" ∷ codes "-" ∷ codes "begin" ∷ decimal begin ∷ codes "end" ∷ codes "-" ∷ codes "took" ∷ decimal (length rows - begin)
    ∷ codes "of" ∷ bound_text given ∷ [] in
    let visible : list_all is_visible (codes "reconfiguration" ∷ words) ≡ true
    = rw (name_visible (conf_name spec from.0) a, decimal_visible begin (omega (arith, begun)), decimal_visible (length rows - begin) (omega (arith, few)), bound.visible) refl in
    let read : report_in spec (length rows) (codes "reconfiguration" ∷ words) ≡ Ok (record { from = from; to = None; begin = begin; end = length rows })
    = rw (
      conf_found_back spec from sound source,
      number_back MAX_FRAMES begin begun (omega (arith, begun)),
      number_back (2 ^ 32) (length rows - begin) (omega (arith, few)) (omega (arith, few)),
      bound.found,
      le-leb begin (length rows) ordered,
      eq-eqb (length rows - begin) (length rows - begin) refl,
      bound_itself given,
    ) refl in
    from_words spec (in_closing early rows reports) _ (codes "reconfiguration") words (report_line spec (record { from = from; to = None; begin = begin; end = length rows })) 100 visible
    (omega (arith, one, three, five, six)) (omega arith)
    (unfinished_shape (conf_name spec from.0) (decimal begin) (decimal (length rows - begin)) (bound_text given))
    (report_taken early spec rows reports words (record { from = from; to = None; begin = begin; end = length rows }) visible refl read)

report_by : (early : Bool) (spec : Parts) (rows : List Row) (reports : List Report) (from : ConfId) (to : Option ConfId) (begin end : ℕ) → IsSpec spec → length rows ≤ MAX_FRAMES →
    IsIn spec.confs from → IsInIfNamed spec.confs to → begin < MAX_FRAMES → begin ≤ end → IsEndShown (length rows) to end →
    ReportBack early spec rows reports (record { from = from; to = to; begin = begin; end = end })
report_by early spec rows reports from None begin end sound few source target begun ordered ended =
    let is : end ≡ length rows = ended in
    rw is (unfinished_back early spec rows reports from begin sound source few begun (omega (arith, ordered, is)))
report_by early spec rows reports from (Some to) begin end sound few source target begun ordered ended =
    finished_back early spec rows reports from to begin end sound source target ordered ended

pub report_back : (early : Bool) (spec : Parts) (rows : List Row) (reports : List Report) (report : Report) → IsSpec spec → length rows ≤ MAX_FRAMES → IsReportShown spec (length rows) report →
    ReportBack early spec rows reports report
report_back early spec rows reports report sound few shown =
    report_by early spec rows reports report.from report.to report.begin report.end sound few shown.source shown.target shown.begun shown.ordered shown.ended

pub end_back : (early : Bool) (spec : Parts) (rows : List Row) (reports : List Report) → length rows ≤ MAX_FRAMES → length reports ≤ MAX_FRAMES →
    LineBack spec (in_closing early rows reports) (record { rows = rows; reports = reports; expected = Over }) (end_line (length rows) (length reports)) 60
end_back early spec rows reports few low =
    let one = frame_short (length rows) few in
    let two = frame_short (length reports) low in
    let words : List (List ℕ) = codes "frames" ∷ decimal (length rows) ∷ codes "reconfigurations" ∷ decimal (length reports) ∷ [] in
    let visible : list_all is_visible (codes "end" ∷ words) ≡ true = rw (decimal_visible (length rows) (omega (arith, few)), decimal_visible (length reports) (omega (arith, low))) refl in
    let read : end_in (length rows) (length reports) (codes "end" ∷ words) ≡ Ok tt
    = rw (
      number_back (2 ^ 32) (length rows) (omega (arith, few)) (omega (arith, few)),
      number_back (2 ^ 32) (length reports) (omega (arith, low)) (omega (arith, low)),
      eq-eqb (length rows) (length rows) refl,
      eq-eqb (length reports) (length reports) refl,
    ) refl in
    from_words spec (in_closing early rows reports) _ (codes "end") words (end_line (length rows) (length reports)) 60 visible (omega (arith, one, two)) (omega arith)
    (end_shape (decimal (length rows)) (decimal (length reports))) (end_taken early spec rows reports words visible refl read)
