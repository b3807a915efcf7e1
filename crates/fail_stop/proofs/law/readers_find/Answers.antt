use Rattle.std.proofs.Common.{ap, ◌∙◌, ℕ, List}
use Rattle.fail_stop.specs.Flights.{word_in}
use Rattle.fail_stop.specs.ScriptFlights.{flight_of}
use Rattle.fail_stop.proofs.Reading.{picks, holds, kernel_reads}
use Rattle.fail_stop.proofs.ScriptBorder.{images_same, script_flies, sides_same}
use Rattle.fail_stop.proofs.law.readers_find.Goals as goal

pub returns : goal.returns
returns c = λ spec script fits at words kept p f n below reads. record {
  picked = λ q q_below. picks (flight_of spec script) at words (script_flies spec script fits) kept p f n q below reads.0 reads.1 q_below ∙ sides_same spec script fits q f;
  held = λ q i q_below inside. rw (← sides_same spec script fits q f) (holds (flight_of spec script) at words (script_flies spec script fits) kept p f n q i below reads.0 reads.1 q_below inside)
      ∙ ap (λ (image : List ℕ). word_in image i) (images_same spec script fits q f);
  kernel = λ i inside. kernel_reads (flight_of spec script) at words (script_flies spec script fits) kept p f n i below reads.0 reads.1 inside;
}
