use Rattle.std.proofs.Common.{◌≡◌, ◌∙◌, ◌<◌, ℕ, List, ℤ, ap, sym, subst, length}
use Rattle.std.specs.Prelude.{Option, option_map}
use Rattle.scram_types.specs.declared.scripts.HaltAt.{HaltAt}
use Rattle.frame_model.specs.Flights.{draft}
use Rattle.fail_stop.specs.Flights.{word_in}
use Rattle.fail_stop.specs.Flyers.{unit_proc}
use Rattle.fail_stop.specs.ScriptFlights.{flight_of, image_words}
use Rattle.kernel_pair.specs.Cores.{flyer_after}
use Rattle.kernel_pair.proofs.Flown.{begun_at, flown}
use Rattle.kernel_pair.proofs.drafts.draft_frame.Goals as goal

pub start-requires : goal.start-requires
start-requires g c = let stands = c.requires.stands in record { few = subst (λ (n : ℕ). n < 8) (sym stands.1.unit.number) c.requires.few }

pub draft-requires-clause-few : goal.draft-requires-clause-few
draft-requires-clause-few g c =
    let stands = c.requires.stands in
    let number = ap (λ flyer. unit_proc flyer.unit) c.start.ensures
    ∙ (begun_at (flight_of c.args.setup.now.spec.now c.args.setup.now.script.now) c.args.p.0 c.args.frame stands.0 c.args.flyer.now stands.1 stands.2).number in
    subst (λ (n : ℕ). n < 8) (sym number) c.requires.few

pub returns-clause-words : goal.returns-clause-words
returns-clause-words g c =
    let setup = c.args.setup.now in
    let stands = c.requires.stands in
    let number = ap (λ flyer. unit_proc flyer.unit) c.start.ensures
    ∙ (begun_at (flight_of setup.spec.now setup.script.now) c.args.p.0 c.args.frame stands.0 c.args.flyer.now stands.1 stands.2).number in
    let image : c.draft.new.image ≡ draft setup.spec.now setup.script.now c.args.p.0 c.args.frame =
    c.draft.ensures.trace setup.script.now c.args.frame c.requires.facts (subst (λ (n : ℕ). n < length setup.spec.now.procs) (sym number) c.requires.known) c.requires.snap
    ∙ ap (λ (n : ℕ). draft setup.spec.now setup.script.now n c.args.frame) number in
    λ i. c.image_encoded.ensures i ∙ ap (λ (image : List ℤ). word_in (image_words image) i) image

pub returns-clause-flyer : goal.returns-clause-flyer
returns-clause-flyer g c =
    let setup = c.args.setup.now in
    let stands = c.requires.stands in
    flown (flight_of setup.spec.now setup.script.now) c.args.p.0 c.args.frame stands.0 c.args.flyer.now c.start.new.self c.draft.new.self c.halt_after.new.flyer
    stands.1 stands.2 c.start.ensures c.draft.ensures.lives c.draft.ensures.proc c.draft.ensures.spare
    (c.halt_after.ensures ∙ ap (λ (halt : Option HaltAt). flyer_after (option_map (λ (halt : HaltAt). halt.step) halt) c.args.frame c.draft.new.self) c.halt_in.ensures)
