use Rattle.std.proofs.Common.{ℕ, List, []}
use Rattle.std.specs.Prelude.{Ok}
use Rattle.scram_types.specs.declared.rows.Flown.{Flown}
use Rattle.form_base.specs.Answers.{Gives, WithoutFiles}
use Rattle.form_base.specs.declared.status.TheConstants.{ANSWERED}
use Rattle.form_base.proofs.Reading.{settled}
use Rattle.form_base.specs.trace_files.Looks.{View}
use Rattle.form_base.proofs.trace_files.FileReading.{trace_reads, trace_unread}
use Rattle.form_base.proofs.trace_files.files.read_flown.Goals as goal

pub returns-in-Ok-clause-reads : goal.returns-in-Ok-clause-reads
returns-in-Ok-clause-reads g c = λ (view : View).
    let Shows : Flown → ℕ → List ℕ → Type 0 = λ (flown : Flown). Gives (ANSWERED, view c.args.spec.now flown.rows flown.reports) in
    trace_reads c.args.spec.now c.args.trace.now [] (λ (flown : Flown). WithoutFiles (Shows flown)) Shows
    c.in-Ok.flown _ _ _ (Ok c.in-Ok.flown) c.in-Ok.ensures.loads c.load.ensures.steady
    (settled (Shows c.in-Ok.flown) Shows _ (Ok c.in-Ok.flown) (g.met.F.Files.steady_below _) (λ status text shows. shows))

pub returns-in-Err-clause-reads : goal.returns-in-Err-clause-reads
returns-in-Err-clause-reads g c = λ (view : View).
    trace_unread c.args.spec.now c.args.trace.now [] (λ (flown : Flown). WithoutFiles (Gives (ANSWERED, view c.args.spec.now flown.rows flown.reports))) _ _
    c.in-Err.refusal c.in-Err.ensures.loads c.load.ensures.steady c.in-Err.ensures.unread
