use Rattle.std.proofs.Common.{rules, ◌≡◌, ◌∙◌, ◌<◌, ap, length, subst, sym}
use Rattle.frame_model.specs.Flights.{draft}
use Rattle.fail_stop.specs.Flyers.{unit_proc}
use Rattle.fail_stop.proofs.flyers.Flyer.draft.Goals as goal

pub returns-clause-trace : goal.returns-clause-trace
returns-clause-trace g c = λ script f facts low shown.
    let same : unit_proc c.args.self.now.unit ≡ c.in-Up.live.proc.0 = search rules in
    c.draft.ensures.trace script f facts (subst (λ p. p < length c.args.spec.now.procs) same low) shown ∙ ap (λ p. draft c.args.spec.now script p f) (sym same)
