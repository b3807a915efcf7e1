use Rattle.std.proofs.Common.{◌∙◌, ap}
use Rattle.coverage_check.specs.Missions.{mission_of}
use Rattle.fail_stop.specs.Flights.{word_in}
use Rattle.fail_stop.specs.ScriptFlights.{draft_words}
use Rattle.lock_deck.proofs.steps.make_store.Goals as goal

pub make-requires : goal.make-requires
make-requires c =
    let word = c.in-Some.ensures (mission_of c.args.core.now.spec c.args.core.now.script) c.args.p.0 c.requires.drafted in
    λ next. word ∙ ap (λ f. word_in (draft_words c.args.core.now.spec c.args.core.now.script c.args.p.0 f) c.args.i) c.frame_of.ensures
