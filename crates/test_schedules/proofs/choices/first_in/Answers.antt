use Rattle.std.proofs.Common.{rules, ◌≡◌, ◌∙◌, sym}
use Rattle.std.specs.Prelude.{None, Some}
use Rattle.event_core.specs.Cores.{core_places, core_words, core_flight}
use Rattle.test_schedules.specs.Choices.{next_in_order}
use Rattle.test_schedules.proofs.Choosing.{none_more}
use Rattle.test_schedules.proofs.Finding.{found_here, one_further}
use Rattle.test_schedules.proofs.choices.first_in.Goals as goal

pub returns-in-Some-clause-same : goal.returns-in-Some-clause-same
returns-in-Some-clause-same c =
    let told : c.next_in_order.result ≡ Some c.in-Some.event = search rules in
    sym (found_here (next_in_order (core_flight c.args.core.now) (core_places c.args.core.now) (core_words c.args.core.now) c.args.backwards) c.loop-place.place c.args.end c.in-Some.event (search rules) (sym c.next_in_order.ensures.same ∙ told))
    ∙ c.loop-place.invariant.same

pub loop-place-preserved : goal.loop-place-preserved
loop-place-preserved c =
    let none : c.next_in_order.result ≡ None = search rules in
    record {
      none = none_more (core_flight c.args.core.now) (core_places c.args.core.now) (core_words c.args.core.now) c.args.backwards c.args.begin c.loop-place.place c.loop-place.invariant.none (sym c.next_in_order.ensures.same ∙ none);
      same = one_further (next_in_order (core_flight c.args.core.now) (core_places c.args.core.now) (core_words c.args.core.now) c.args.backwards) c.loop-place.place c.args.end (search rules) (sym c.next_in_order.ensures.same ∙ none) ∙ c.loop-place.invariant.same;
    }
