use Rattle.std.proofs.Common.{ℕ, List, [], ◌∷◌}
use Rattle.scram_types.specs.Specification.{Parts}
use Rattle.form_base.specs.Answers.{WithoutFiles}
use Rattle.form_base.proofs.SpecReading.{specification_reads, specification_unread}
use Rattle.flights_form.specs.Answers.{ScriptsAnswers}
use Rattle.flights_form.specs.Printing.{GivesSeries}
use Rattle.flights_form.specs.Scripts.{AsksScripts}
use Rattle.flights_form.proofs.series.read_series.Goals as goal

pub returns-in-Ok-clause-reads : goal.returns-in-Ok-clause-reads
returns-in-Ok-clause-reads g c =
    let scripts = c.args.named.scripts.now in
    specification_reads c.args.named.specification.now (scripts ∷ [])
    (λ (spec : Parts). AsksScripts scripts (λ (bytes : List ℕ). WithoutFiles (ScriptsAnswers spec bytes))) GivesSeries
    c.in-Ok.spec _ _ _ c.read_scripts.result c.in-Ok.ensures.loads c.load.ensures.steady c.read_scripts.ensures.reads

pub returns-in-Err-clause-reads : goal.returns-in-Err-clause-reads
returns-in-Err-clause-reads g c =
    let scripts = c.args.named.scripts.now in
    specification_unread c.args.named.specification.now (scripts ∷ [])
    (λ (spec : Parts). AsksScripts scripts (λ (bytes : List ℕ). WithoutFiles (ScriptsAnswers spec bytes))) _ _
    c.in-Err.refusal c.in-Err.ensures.loads c.load.ensures.steady c.in-Err.ensures.unread
