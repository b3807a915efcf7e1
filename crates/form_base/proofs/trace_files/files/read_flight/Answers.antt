use Rattle.std.proofs.Common.{[], ◌∷◌}
use Rattle.std.specs.Prelude.{Err, Ok}
use Rattle.scram_types.specs.Specification.{Parts}
use Rattle.scram_types.specs.declared.rows.Flown.{Flown}
use Rattle.form_base.specs.Answers.{Gives, WithoutFiles}
use Rattle.form_base.specs.declared.status.TheConstants.{ANSWERED}
use Rattle.form_base.proofs.SpecReading.{specification_reads, specification_unread}
use Rattle.form_base.specs.trace_files.Looks.{GivesView, View}
use Rattle.form_base.specs.trace_files.Traces.{AsksTrace}
use Rattle.form_base.proofs.trace_files.files.read_flight.Goals as goal

pub returns-in-Err-clause-reads : goal.returns-in-Err-clause-reads
returns-in-Err-clause-reads g c = λ (view : View).
    let trace = c.args.named.trace.now in
    specification_unread c.args.named.specification.now (trace ∷ [])
    (λ (spec : Parts). AsksTrace spec trace (λ (flown : Flown). WithoutFiles (Gives (ANSWERED, view spec flown.rows flown.reports)))) _ _
    c.in-Err.refusal c.in-Err.ensures.loads c.load.ensures.steady c.in-Err.ensures.unread

pub returns-in-Ok-read_flown-clause-reads : goal.returns-in-Ok-read_flown-clause-reads
returns-in-Ok-read_flown-clause-reads g c = λ (view : View).
    let trace = c.args.named.trace.now in
    specification_reads c.args.named.specification.now (trace ∷ [])
    (λ (spec : Parts). AsksTrace spec trace (λ (flown : Flown). WithoutFiles (Gives (ANSWERED, view spec flown.rows flown.reports)))) (GivesView view)
    c.in-Ok.spec _ _ _ (Ok (record { spec = c.in-Ok.spec; flown = c.in-Ok-read_flown.flown })) c.in-Ok.ensures.loads c.load.ensures.steady (c.in-Ok-read_flown.ensures.reads view)

pub returns-in-Err-read_flown-clause-reads : goal.returns-in-Err-read_flown-clause-reads
returns-in-Err-read_flown-clause-reads g c = λ (view : View).
    let trace = c.args.named.trace.now in
    specification_reads c.args.named.specification.now (trace ∷ [])
    (λ (spec : Parts). AsksTrace spec trace (λ (flown : Flown). WithoutFiles (Gives (ANSWERED, view spec flown.rows flown.reports)))) (GivesView view)
    c.in-Ok.spec _ _ _ (Err c.in-Err-read_flown.refusal) c.in-Ok.ensures.loads c.load.ensures.steady (c.in-Err-read_flown.ensures.reads view)
