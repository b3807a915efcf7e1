use Rattle.kind_table.specs.Kinds.{kind_read}
use Rattle.document_explanations.specs.Wants.{kind_words, kind_and_modes, variables_text}
use Rattle.document_explanations.proofs.Listing.{listed_read}
use Rattle.document_explanations.proofs.wants.add_text.Goals as goal

pub returns-in-Kind : goal.returns-in-Kind
returns-in-Kind c = rw (c.in-Kind.is) (rw (listed_read kind_words kind_read c.kinds.result _ c.kinds.ensures) at c.add_listed.ensures)

pub returns-in-Mode : goal.returns-in-Mode
returns-in-Mode c = rw (c.in-Mode.is) (rw (listed_read kind_and_modes kind_read c.kinds-in-Mode.result _ c.kinds-in-Mode.ensures) at c.add_listed-in-Mode.ensures)

pub returns-in-Variable : goal.returns-in-Variable
returns-in-Variable c = rw (c.in-Variable.is) (rw (listed_read variables_text kind_read c.kinds-in-Variable.result _ c.kinds-in-Variable.ensures) at c.add_listed-in-Variable.ensures)

pub returns-in-Name : goal.returns-in-Name
returns-in-Name c = rw (c.in-Name.is) c.push.ensures

pub returns-in-Processor : goal.returns-in-Processor
returns-in-Processor c = rw (c.in-Processor.is) c.push-in-Processor.ensures

pub returns-in-Application : goal.returns-in-Application
returns-in-Application c = rw (c.in-Application.is) c.push-in-Application.ensures

pub returns-in-Configuration : goal.returns-in-Configuration
returns-in-Configuration c = rw (c.in-Configuration.is) c.push-in-Configuration.ensures

pub returns-in-ConfigurationOrAny : goal.returns-in-ConfigurationOrAny
returns-in-ConfigurationOrAny c = rw (c.in-ConfigurationOrAny.is) c.push-in-ConfigurationOrAny.ensures

pub returns-in-Factor : goal.returns-in-Factor
returns-in-Factor c = rw (c.in-Factor.is) c.push-in-Factor.ensures

pub returns-in-Value : goal.returns-in-Value
returns-in-Value c = rw (c.in-Value.is) c.push-in-Value.ensures

pub returns-in-Policy : goal.returns-in-Policy
returns-in-Policy c = rw (c.in-Policy.is) c.push-in-Policy.ensures

pub returns-in-ScriptFactor : goal.returns-in-ScriptFactor
returns-in-ScriptFactor c = rw (c.in-ScriptFactor.is) (rw c.script_factors.ensures at c.add_factors.ensures)

pub returns-in-ScriptProcessor : goal.returns-in-ScriptProcessor
returns-in-ScriptProcessor c = rw (c.in-ScriptProcessor.is) (rw c.script_procs.ensures at c.add_listed-in-ScriptProcessor.ensures)
