use Rattle.std.proofs.Common.{◌≡◌, ◌∙◌, ℕ, ◌+◌, ◌++◌, List, append-nil, ap, arith, drop, length, refl, sym}
use Rattle.std.specs.Prelude.{Option}
use Rattle.std.proofs.lemmas.List.{drop_all}
use Rattle.scram_types.specs.declared.rows.Report.{Report}
use Rattle.scram_types.specs.declared.rows.Row.{Row}
use Rattle.scram_types.specs.Specification.{Parts}
use Rattle.frame_model.specs.declared.readings.Reading.{Reading}
use Rattle.frame_model.specs.declared.readings.Reading.TheVariants.{Steady}
use Rattle.frame_model.specs.Readings.{as_list, close, ended, ended_in, reading_after, reading_of, reports}
use Rattle.frame_model.proofs.RowReads.{read_on, reported_on}
use Rattle.frame_model.proofs.readings.reports.Goals as goal

pub loop-row-preserved : goal.loop-row-preserved
loop-row-preserved c =
    let at = c.loop-row in
    record {
      frame = ap (λ n. n + 1) at.invariant.frame;
      read = read_on c.args.spec.now c.args.rows.now at.row-index at.frame _ at.reading c.read_row-next.result.0 c.loop-row-test.true c.read_row-next.ensures.reading _ at.invariant.read;
      reported = reported_on c.args.spec.now c.args.rows.now at.row-index at.frame _ at.reading c.read_row-next.result.0 c.loop-row-test.true c.read_row-next.ensures.reading
          at.reports.items c.add.new.reports.items _ c.read_row-next.result.1 c.read_row-next.ensures.report c.in_ok-add.ensures at.invariant.reported;
    }

pub loop-row-init : goal.loop-row-init
loop-row-init c =
    let start = ap (λ (s : Parts). s.start) c.spec.view_is in
    record {
      frame = refl;
      read = ap (λ conf. reading_after c.args.spec.now (Steady conf) 0 c.args.rows.now) start;
      reported = rw (c.new-reports.ensures.items) (ap (λ conf. ended_in c.args.spec.now (Steady conf) 0 c.args.rows.now) start);
    }

all_read : (spec : Parts) (rows : List Row) (n f : ℕ) (reading : Reading) (list out : List Report) (report : Option Report) → n ≡ length rows → f ≡ n
    → reading_after spec reading f (drop n rows) ≡ reading_of spec rows → list ++ ended_in spec reading f (drop n rows) ≡ ended spec rows → report ≡ close reading f → out ≡ list ++ as_list report → out ≡ reports spec rows
all_read spec rows n f reading list out report all same read reported closed is =
    let none = drop_all n rows (omega (arith, all)) in
    let whole = sym (append-nil list) ∙ (rw none at reported) in
    is ∙ ap (λ one. list ++ as_list one) (closed ∙ ap (λ r. close r f) (rw none at read) ∙ ap (close (reading_of spec rows)) (same ∙ all)) ∙ ap (λ l. l ++ as_list (close (reading_of spec rows) (length rows))) whole

pub returns : goal.returns
returns c =
    let at = c.loop-row in
    let all : at.row-index ≡ length c.args.rows.now = omega arith in
    all_read c.args.spec.now c.args.rows.now at.row-index at.frame at.reading at.reports.items c.add-2.new.reports.items c.close.result all at.invariant.frame at.invariant.read at.invariant.reported
    c.close.ensures c.in_ok-add-2.ensures
