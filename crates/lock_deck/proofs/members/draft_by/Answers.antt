use Rattle.std.proofs.Common.{◌∙◌, ap}
use Rattle.frame_model.specs.Flights.{draft}
use Rattle.fail_stop.specs.Flyers.{unit_proc}
use Rattle.lock_deck.proofs.members.draft_by.Goals as goal

pub returns-clause-draft : goal.returns-clause-draft
returns-clause-draft g c =
    let made = c.draft.ensures.trace c.args.mission.now.script c.args.snap.now.kernel.frame (rw c.spec.ensures c.holds.ensures.spec) (rw c.spec.ensures c.requires.known) (rw c.spec.ensures c.requires.saw) in
    made ∙ ap (λ spec. draft spec c.args.mission.now.script (unit_proc c.args.flyer.now.unit) c.args.snap.now.kernel.frame) c.spec.ensures
