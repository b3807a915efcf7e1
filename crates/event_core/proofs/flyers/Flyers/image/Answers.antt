use Rattle.std.proofs.Common.{rules, ◌≡◌, ◌∙◌, ap, subst, sym}
use Rattle.std.specs.Prelude.{Some, slice_index_or}
use Rattle.bank_words.specs.declared.images.KernelImage.{KernelImage}
use Rattle.frame_model.specs.Flights.{draft}
use Rattle.fail_stop.specs.declared.snapshots.Draft.{Draft}
use Rattle.fail_stop.specs.Events.{frame_of}
use Rattle.fail_stop.specs.Flyers.{IsFlyerAt, unit_proc}
use Rattle.event_core.specs.Cores.{core_places, core_flight}
use Rattle.event_core.specs.Flyers.{IsLastDraft}
use Rattle.event_core.proofs.Following.{drafts_with, drafted_by, flyers_drafted, looked_flies}
use Rattle.event_core.proofs.flyers.Flyers.image.Goals as goal

pub returns-clause-image : goal.returns-clause-image
returns-clause-image g c =
    let place : c.from-2.result ≡ c.args.p.0 = search rules in
    let was = c.index_mut.result.now in
    let is : IsFlyerAt (core_flight c.args.core.now) c.args.p.0 ((core_places c.args.core.now).proc c.args.p.0) was =
    subst (IsFlyerAt (core_flight c.args.core.now) c.args.p.0 ((core_places c.args.core.now).proc c.args.p.0)) (sym (c.index_mut.ensures.value ∙ ap (λ p. slice_index_or c.args.self.now.all.items p was) place)) (c.requires.fits.all.each c.args.p.0 was c.requires.few) in
    drafted_by c.args.core.now.spec c.args.spec.now c.args.core.now.script c.args.p.0 (unit_proc was.unit) (frame_of ((core_places c.args.core.now).proc c.args.p.0)) c.snapshot-snap.result c.draft.new.image
    c.requires.spec (search rules) c.requires.known is.unit.number c.snapshot-snap.ensures c.draft.ensures.trace

pub returns-clause-fits : goal.returns-clause-fits
returns-clause-fits g c =
    let place : c.from-2.result ≡ c.args.p.0 = search rules in
    let again : c.from-3.result ≡ c.args.p.0 = search rules in
    let few = c.requires.few in
    let spec = c.args.core.now.spec in
    let script = c.args.core.now.script in
    let was = c.index_mut.result.now in
    let is : IsFlyerAt (core_flight c.args.core.now) c.args.p.0 ((core_places c.args.core.now).proc c.args.p.0) was =
    subst (IsFlyerAt (core_flight c.args.core.now) c.args.p.0 ((core_places c.args.core.now).proc c.args.p.0)) (sym (c.index_mut.ensures.value ∙ ap (λ p. slice_index_or c.args.self.now.all.items p was) place)) (c.requires.fits.all.each c.args.p.0 was few) in
    let image = drafted_by spec c.args.spec.now script c.args.p.0 (unit_proc was.unit) (frame_of ((core_places c.args.core.now).proc c.args.p.0)) c.snapshot-snap.result c.draft.new.image
    c.requires.spec (search rules) c.requires.known is.unit.number c.snapshot-snap.ensures c.draft.ensures.trace in
    let frame = ap (λ (said : KernelImage). said.frame) c.snapshot-snap.ensures.kernel in
    let last : Draft = record { frame = c.snapshot-snap.result.kernel.frame; image = c.draft.new.image } in
    let made : IsLastDraft spec script c.args.p.0 (Some last) = image ∙ ap (draft spec script c.args.p.0) (sym frame) in
    let are = flyers_drafted (core_flight c.args.core.now) (core_places c.args.core.now).proc c.args.self.now.all.items c.args.p.0 was c.draft.new.self c.requires.fits.all few
    (looked_flies (core_flight c.args.core.now) ((core_places c.args.core.now).proc c.args.p.0) c.requires.looked) is c.draft.ensures.lives c.draft.ensures.proc c.draft.ensures.spare in
    record {
      all = rw place are;
      drafted = rw again (drafts_with spec script c.args.self.now.drafted c.args.p.0 (Some last) (search rules) few made c.requires.fits.drafted);
    }
