use Rattle.std.proofs.Common.{ap, refl, sym, ◌∙◌}
use Rattle.frame_model.specs.Flights.{image_in}
use Rattle.fail_stop.specs.Drafts.{areas_shown, state_shown}
use Rattle.fail_stop.proofs.Drafting.{draft_is}
use Rattle.fail_stop.proofs.units.Live.draft.Goals as goal

pub returns-clause-image : goal.returns-clause-image
returns-clause-image g c =
    draft_is c.args.spec.now c.args.snap.now c.args.self.now.proc.0 c.tasks_of.result c.seen_by_all-seen.result (areas_shown c.args.snap.now)
    (image_in c.args.snap.now.images c.from.result) c.make_slots.new.image
    c.tasks_of.ensures (c.seen_by_all-seen.ensures (state_shown c.args.snap.now) (sym c.areas_shown-areas.ensures) refl) refl
    (ap (image_in c.args.snap.now.images) c.from.ensures) c.make_slots.ensures.image

pub returns-clause-trace : goal.returns-clause-trace
returns-clause-trace g c =
    let made = returns-clause-image g c in
    λ script f is there of. made ∙ c.drafts_are_of_traces.ensures c.args.spec.now script is f c.args.self.now.proc.0 c.args.snap.now there of
