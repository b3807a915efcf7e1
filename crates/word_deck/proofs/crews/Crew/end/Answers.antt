use Rattle.std.proofs.Common.{rules, ◌≡◌, ◌∙◌, Some, ap, sym}
use Rattle.fault_script.specs.Times.{halt_in, words}
use Rattle.fail_stop.specs.Events.{Halted, frame_of, is_halted}
use Rattle.word_table.specs.Tables.{proc_of, seat_place}
use Rattle.word_deck.proofs.Places.{halted_there}
use Rattle.word_deck.proofs.Steps.{halt_in_width}
use Rattle.word_deck.proofs.crews.Crew.end.Goals as goal

pub halt_after-requires-clause-step : goal.halt_after-requires-clause-step
halt_after-requires-clause-step g c =
    let there : halt_in c.args.mission.now.script c.proc.result.0 c.frame-frame.result ≡ Some c.in-Some.halt = search rules in
    halt_in_width c.args.mission.now.spec c.args.mission.now.script c.proc.result.0 c.frame-frame.result c.in-Some.halt c.from-step.result c.words-width.result
    (c.flights_are_of_traces.ensures c.args.mission.now.spec c.args.mission.now.script c.holds.ensures.mission.fits).flies there c.from-step.ensures (c.words-width.ensures ∙ ap words c.spec.ensures)

pub invariant_of-self : goal.invariant_of-self
invariant_of-self g c =
    let crew = c.args.self.now in
    let frame : c.frame-frame.result ≡ frame_of (seat_place crew.seat) = c.frame-frame.ensures in
    record {
      keeps =
          halted_there (proc_of crew.seat) (proc_of c.halt_after.new.seat) (seat_place crew.seat) (seat_place c.halt_after.new.seat) crew.flyer c.halt.new.self c.frame-frame.result c.halt.ensures c.halt_after.ensures.proc frame
          (c.halt_after.ensures.place ∙ ap Halted (sym frame)) (ap is_halted c.requires.flies.after) crew.keeps;
    }

pub returns-in-Some-clause-fits : goal.returns-in-Some-clause-fits
returns-in-Some-clause-fits c = search rules
