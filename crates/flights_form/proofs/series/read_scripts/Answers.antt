use Rattle.std.proofs.Common.{ℕ, List, []}
use Rattle.form_base.specs.Answers.{WithoutFiles}
use Rattle.form_base.proofs.Reading.{document_reads, refused_reads, settled}
use Rattle.form_base.specs.mission_files.Documents.{long_script}
use Rattle.flights_form.specs.declared.limits.TheConstants.{MAX_SCRIPTS_BYTES}
use Rattle.flights_form.specs.Answers.{ScriptsAnswers}
use Rattle.flights_form.specs.Printing.{GivesSeries}
use Rattle.flights_form.specs.Scripts.{BreaksNothing, SaysScripts}
use Rattle.flights_form.proofs.series.read_scripts.Goals as goal

pub returns-in-Ok-clause-reads : goal.returns-in-Ok-clause-reads
returns-in-Ok-clause-reads g c =
    let spec = c.args.spec in
    document_reads SaysScripts BreaksNothing MAX_SCRIPTS_BYTES long_script c.args.scripts.now [] (λ (bytes : List ℕ). WithoutFiles (ScriptsAnswers spec bytes)) GivesSeries
    c.in-Ok.scripts _ _ _ c.make_series.result c.in-Ok.ensures.loads c.load_scripts.ensures.steady
    (settled (ScriptsAnswers spec c.in-Ok.scripts) GivesSeries _ c.make_series.result (g.met.F.Files.steady_below _) c.make_series.ensures.prepares)

pub returns-in-Err-clause-reads : goal.returns-in-Err-clause-reads
returns-in-Err-clause-reads g c =
    let spec = c.args.spec in
    refused_reads SaysScripts BreaksNothing MAX_SCRIPTS_BYTES long_script c.args.scripts.now [] (λ (bytes : List ℕ). WithoutFiles (ScriptsAnswers spec bytes)) _ _
    c.in-Err.refusal c.in-Err.ensures.loads c.load_scripts.ensures.steady c.in-Err.ensures.unread
