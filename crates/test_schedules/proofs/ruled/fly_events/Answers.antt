use Rattle.std.proofs.Common.{rules, ◌+◌, ◌∙◌, ap, length, refl}
use Rattle.std.proofs.lemmas.List.{length-append}
use Rattle.event_core.specs.Cores.{core_places, core_words, core_flight}
use Rattle.test_schedules.proofs.Ruling.{ruled_on, ruled_opening}
use Rattle.test_schedules.proofs.ruled.fly_events.Goals as goal

pub make-requires-clause-fits : goal.make-requires-clause-fits
make-requires-clause-fits g c = c.loop-event.invariant.fits

pub loop-event-init : goal.loop-event-init
loop-event-init g c = record {
  spec = refl;
  script = refl;
  ruled = ruled_opening (core_flight c.args.core) c.args.rule c.args.core.history (core_places c.args.core) (core_words c.args.core) _ c.requires.opened (search rules) (search rules);
  count = ap length c.requires.opened;
  fits = c.requires.fits;
}

pub loop-event-preserved : goal.loop-event-preserved
loop-event-preserved g c = record {
  spec = c.make.ensures.spec ∙ c.loop-event.invariant.spec;
  script = c.make.ensures.script ∙ c.loop-event.invariant.script;
  ruled = ruled_on c.loop-event.core _ _ c.loop-event.chooser _ _ c.loop-event.invariant.ruled c.make.ensures.spec c.make.ensures.script (search rules) c.choose.ensures.after (search rules) c.make.ensures.happens c.make.ensures.history;
  count = ap length c.make.ensures.history ∙ length-append c.loop-event.core.history _ ∙ ap (λ n. n + 1) c.loop-event.invariant.count;
  fits = c.make.ensures.fits;
}

pub returns-clause-count : goal.returns-clause-count
returns-clause-count c = search rules
