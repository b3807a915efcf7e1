use Rattle.fault_script.proofs.Fitting.{answer_fits}
use Rattle.fault_script.proofs.reading.read_document.Goals as goal

pub returns-clause-fits : goal.returns-clause-fits
returns-clause-fits c = search (answer_fits, c.read_values.ensures)
