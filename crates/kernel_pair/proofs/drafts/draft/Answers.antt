use Rattle.std.proofs.Common.{rules, ◌≡◌, ◌∙◌, ◌<◌, ℕ, ap, sym, subst, slice_index_or}
use Rattle.std.specs.Prelude.{Some, slice_set}
use Rattle.scram_types.specs.Scripts.{ScriptParts}
use Rattle.scram_types.specs.Specification.{Parts}
use Rattle.fault_script.specs.Times.{restart_of}
use Rattle.fail_stop.specs.Events.{after_frame}
use Rattle.fail_stop.specs.Flights.{word_in}
use Rattle.fail_stop.specs.Flyers.{AreFlyersAt, IsFlyerAt}
use Rattle.fail_stop.specs.ScriptFlights.{draft_words, flight_of}
use Rattle.kernel_pair.specs.Cores.{places_in}
use Rattle.kernel_pair.specs.Machines.{pair_flight, pair_in}
use Rattle.kernel_pair.specs.Pairs.{frame_to_make, pair_after}
use Rattle.kernel_pair.specs.declared.events.PairEvent.TheVariants.{Fly}
use Rattle.fail_stop.proofs.ProcessorEvents.{some_same}
use Rattle.kernel_pair.proofs.Flown.{flyers_after}
use Rattle.kernel_pair.proofs.drafts.draft.Goals as goal

pub returns-in-Some-clause-flyers : goal.returns-in-Some-clause-flyers
returns-in-Some-clause-flyers g c =
    let k = c.args.machine.now in
    let makes : frame_to_make ((pair_flight k).restart c.args.p.0) ((pair_in k).proc c.args.p.0).place ≡ Some c.in-Some.frame = sym c.frame_of.ensures ∙ c.in-Some.is in
    let small : c.args.p.0 < 8 = search rules in
    let setup = c.setup-setup.result in
    let by_spec = subst (λ (spec : Parts). IsFlyerAt (flight_of spec setup.script.now) c.args.p.0 (after_frame c.in-Some.frame ((flight_of spec setup.script.now).halt c.args.p.0 c.in-Some.frame)) c.draft_frame.new.flyer)
    c.setup-setup.ensures.spec c.draft_frame.ensures.flyer in
    let flyer = subst (λ (script : ScriptParts). IsFlyerAt (flight_of k.spec script) c.args.p.0 (after_frame c.in-Some.frame ((flight_of k.spec script).halt c.args.p.0 c.in-Some.frame)) c.draft_frame.new.flyer)
    c.setup-setup.ensures.script by_spec in
    subst (λ (i : ℕ). AreFlyersAt (pair_flight k) (places_in (pair_after (pair_flight k) k.halt (pair_in k) (Fly c.args.p c.args.u))) (slice_set c.args.flyers.now i c.draft_frame.new.flyer)) (sym c.from.ensures)
    (flyers_after (pair_flight k) k.halt (pair_in k) c.args.p c.args.u c.in-Some.frame makes c.args.flyers.now c.draft_frame.new.flyer c.requires.flyers small flyer)

pub draft_frame-requires-clause-stands : goal.draft_frame-requires-clause-stands
draft_frame-requires-clause-stands g c =
    let k = c.args.machine.now in
    let setup = c.setup-setup.result in
    let place = places_in (pair_in k) c.args.p.0 in
    let none = c.index-flyers-from.result in
    let makes : frame_to_make ((pair_flight k).restart c.args.p.0) place ≡ Some c.in-Some.frame = sym c.frame_of.ensures ∙ c.in-Some.is in
    let small : c.args.p.0 < 8 = search rules in
    let by_script = subst (λ (script : ScriptParts). IsFlyerAt (flight_of k.spec script) c.args.p.0 place (slice_index_or c.args.flyers.now c.args.p.0 none)) (sym c.setup-setup.ensures.script) (c.requires.flyers.each c.args.p.0 none small) in
    let by_spec = subst (λ (spec : Parts). IsFlyerAt (flight_of spec setup.script.now) c.args.p.0 place (slice_index_or c.args.flyers.now c.args.p.0 none)) (sym c.setup-setup.ensures.spec) by_script in
    let at = subst (λ (n : ℕ). IsFlyerAt (flight_of setup.spec.now setup.script.now) c.args.p.0 place (slice_index_or c.args.flyers.now n none)) (sym c.from.ensures) by_spec in
    (place, at, subst (λ (script : ScriptParts). frame_to_make (restart_of script c.args.p.0) place ≡ Some c.in-Some.frame) (sym c.setup-setup.ensures.script) makes)

pub returns-in-Some-clause-words : goal.returns-in-Some-clause-words
returns-in-Some-clause-words g c = λ f e i.
    let k = c.args.machine.now in
    let setup = c.setup-setup.result in
    let same : c.in-Some.frame ≡ f = some_same c.in-Some.frame f (frame_to_make ((pair_flight k).restart c.args.p.0) (places_in (pair_in k) c.args.p.0)) (sym c.frame_of.ensures ∙ c.in-Some.is) e in
    c.draft_frame.ensures.words i
    ∙ ap (λ (spec : Parts). word_in (draft_words spec setup.script.now c.args.p.0 c.in-Some.frame) i) c.setup-setup.ensures.spec
    ∙ ap (λ (script : ScriptParts). word_in (draft_words k.spec script c.args.p.0 c.in-Some.frame) i) c.setup-setup.ensures.script
    ∙ ap (λ (n : ℕ). word_in (draft_words k.spec k.script c.args.p.0 n) i) same
