use Rattle.scram_io.proofs.Puts.{cut_more, prints_more}
use Rattle.flights_form.specs.Answers.{outcome_lines}
use Rattle.flights_form.specs.Lines.{totals_line}
use Rattle.flights_form.specs.Totals.{totals_of}
use Rattle.flights_form.proofs.forms.put_flights.Goals as goal

pub returns-in-Ok : goal.returns-in-Ok
returns-in-Ok g c =
    let lines = c.in-Ok.ensures in
    record {
      outcomes = lines.outcomes;
      answers = lines.answers;
      prints = prints_more c.put.result _ _ _ (outcome_lines c.args.spec.now 0 lines.outcomes) (totals_line (totals_of lines.outcomes)) lines.prints.1
          (rw (c.as_bytes.ensures, c.make_totals_line.ensures, lines.prints.0) at c.put.ensures);
    }

pub returns-in-Err : goal.returns-in-Err
returns-in-Err g c =
    let lines = c.in-Err.ensures in
    record {
      outcomes = lines.outcomes;
      answers = lines.answers;
      prints = cut_more _ _ (outcome_lines c.args.spec.now 0 lines.outcomes) (totals_line (totals_of lines.outcomes)) lines.prints;
    }
