use Rattle.std.proofs.Common.{◌∙◌, Some, ap, sym}
use Rattle.bank_words.specs.declared.events.Event.{Event}
use Rattle.event_core.specs.Cores.{core_places, core_words, core_flight}
use Rattle.fail_stop.specs.Events.{next_of_actor}
use Rattle.event_core.proofs.Following.{fly_on}
use Rattle.schedule_replay.proofs.replays.make.Goals as goal

pub returns-in-Err-clause-refused : goal.returns-in-Err-clause-refused
returns-in-Err-clause-refused g c = λ list before there.
    let core = c.args.core.now in
    let refused = c.in-Err.ensures.illegal in
    let count = c.events_made-index.ensures.count in
    record {
      at = core_places core;
      words = core_words core;
      before = rw (count, before) c.events_made-index.ensures.schedule;
      there = rw (count, refused.1) there;
      next_is = refused.2 ∙ ap (λ (e : Event). next_of_actor (core_flight core) (core_places core) (core_words core) e) (sym refused.1);
      not_next = λ same. refused.0 (sym refused.2 ∙ same ∙ ap (λ (e : Event). Some e) refused.1);
    }

pub returns-in-Ok-clause-fits : goal.returns-in-Ok-clause-fits
returns-in-Ok-clause-fits g c =
    fly_on c.args.core.now c.step.new.self (core_words c.args.core.now) (core_words c.step.new.self) c.args.event c.word_where_next-word.new.flyers c.step.ensures.spec c.step.ensures.script
    c.in-Ok.ensures.happens (c.word_where_next-word.ensures.fits c.in-Ok.ensures.next)
