use Rattle.std.proofs.Common.{ap, ◌∙◌, ℕ, suc, List}
use Rattle.fail_stop.specs.Flights.{word_in}
use Rattle.fail_stop.specs.ScriptFlights.{flight_of}
use Rattle.fail_stop.proofs.Reading.{note_mark, note_bank}
use Rattle.fail_stop.proofs.ScriptBorder.{images_same, marks_same, script_flies, sides_same}
use Rattle.fail_stop.proofs.law.notes_fix.Goals as goal

pub returns : goal.returns
returns c = λ spec script fits at words kept p below noted. record {
  mark = note_mark (flight_of spec script) at words (script_flies spec script fits) kept p below noted ∙ marks_same spec script fits p (suc at.frame);
  held = λ i inside. rw (← sides_same spec script fits p (suc at.frame)) (note_bank (flight_of spec script) at words (script_flies spec script fits) kept p i below noted inside)
      ∙ ap (λ (image : List ℕ). word_in image i) (images_same spec script fits p (suc at.frame));
}
