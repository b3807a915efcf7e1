use Rattle.std.proofs.Common.{◌≡◌, Err, refl}
use Rattle.spec_reading.specs.Answers.{CycleAmong, NamedAmong}
use Rattle.spec_reading.specs.Documents.{spec_of, unranked_of}
use Rattle.form_base.specs.Lines.{specification_line}
use Rattle.form_base.specs.Refusals.{answer_of}
use Rattle.form_base.specs.declared.status.TheConstants.{BROKEN_SPECIFICATION}
use Rattle.document_explanations.specs.Specifications.{BreaksExplainedSpecification, explained_specification_text}
use Rattle.document_explanations.proofs.Explained.{either}
use Rattle.document_explanations.proofs.specifications.ExplainedSpecificationDocumentSpec.read.Goals as goal

pub returns-in-Err-Fault-clause-reads : goal.returns-in-Err-Fault-clause-reads
returns-in-Err-Fault-clause-reads c =
    let fault = c.in-Err-Fault.fault in
    let value : spec_of c.args.bytes.now ≡ Err (record { rule = fault.rule; path = fault.path }) = rw (c.in-Err-Fault.field-0-is) at c.in-Err-Fault.ensures.value in
    let shows : CycleAmong (unranked_of c.args.bytes.now) fault.cycle.items × NamedAmong (unranked_of c.args.bytes.now) fault.cycle.items fault.names.items =
    rw (c.in-Err-Fault.field-0-is) at c.in-Err-Fault.ensures.cycle in
    let explains : answer_of c.refuse.result ≡ (BROKEN_SPECIFICATION, explained_specification_text fault c.args.bytes.now)
    → BreaksExplainedSpecification (answer_of c.refuse.result) c.args.bytes.now = λ is. record {
      first = (BROKEN_SPECIFICATION, specification_line fault);
      breaks = record {
        fault = record { rule = fault.rule; path = fault.path };
        is = value;
        cycle = fault.names.items;
        shows = (fault.cycle.items, shows.0, shows.1);
        line = refl;
      };
      text = is;
    } in
    either explains c.refuse.ensures
