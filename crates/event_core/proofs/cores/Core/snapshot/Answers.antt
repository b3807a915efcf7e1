use Rattle.std.proofs.Common.{◌≡◌, ◌∙◌, ◌<◌, ℕ, pos, sym, subst}
use Rattle.std.specs.Prelude.{slice_index_or}
use Rattle.bank_words.specs.Images.{kernel_encode}
use Rattle.fail_stop.specs.Events.{KernelWord}
use Rattle.fail_stop.specs.Flights.{word_in}
use Rattle.fail_stop.specs.Listed.{stored_in}
use Rattle.frame_model.specs.Flights.{image_in}
use Rattle.event_core.specs.Reads.{word_read}
use Rattle.event_core.proofs.Ending.{kernel_says}
use Rattle.event_core.proofs.Snapshots.{Looking, looking_in, said_by, snapshot_by, words_held}
use Rattle.event_core.proofs.cores.Core.snapshot.Goals as goal

pub kernel_read-requires-clause-held : goal.kernel_read-requires-clause-held
kernel_read-requires-clause-held c =
    let seen : Looking c.self.inside.spec.now c.self.inside.script.now c.self.inside.places c.self.inside.stored.items c.args.p.0 =
    looking_in c.args.self.now c.self.inside.spec.now c.self.inside.script.now c.self.inside.places c.self.inside.stored.items c.self.inside.history.items _ _ c.args.p.0 c.self.view_is c.self.invariant.machine
    c.readers_find.ensures c.requires.known c.requires.looked in
    subst (λ list. (i : ℕ) → i < 20 → stored_in list (KernelWord i) ≡ word_in (kernel_encode c.image.result) i) (sym c.deref.ensures.value)
    (words_held c.self.inside.spec.now c.self.inside.script.now c.self.inside.places c.self.inside.stored.items c.args.p.0 c.image.result seen
    (said_by c.args.self.now c.self.inside.spec.now c.self.inside.script.now c.self.inside.places c.self.inside.stored.items c.self.inside.history.items c.args.p.0 c.image.result c.self.view_is c.requires.known seen
    (kernel_says c.self.inside.kernel c.self.inside.spec.now c.self.inside.script.now _ c.image.result c.self.invariant.kernel_is c.image.ensures)))

pub returns : goal.returns
returns c =
    let seen : Looking c.self.inside.spec.now c.self.inside.script.now c.self.inside.places c.self.inside.stored.items c.args.p.0 =
    looking_in c.args.self.now c.self.inside.spec.now c.self.inside.script.now c.self.inside.places c.self.inside.stored.items c.self.inside.history.items _ _ c.args.p.0 c.self.view_is c.self.invariant.machine
    c.readers_find.ensures c.requires.known c.requires.looked in
    snapshot_by c.args.self.now c.self.inside.spec.now c.self.inside.script.now c.self.inside.places c.self.inside.stored.items c.self.inside.history.items _ _ c.args.p.0 _ c.frame_of-frame.result c.self.view_is
    c.self.invariant.machine seen (c.kernel_read.ensures ∙ said_by c.args.self.now c.self.inside.spec.now c.self.inside.script.now c.self.inside.places c.self.inside.stored.items c.self.inside.history.items c.args.p.0 c.image.result c.self.view_is c.requires.known seen (kernel_says c.self.inside.kernel c.self.inside.spec.now c.self.inside.script.now _ c.image.result c.self.invariant.kernel_is c.image.ensures))
    c.frame_of-frame.ensures c.images_read.ensures.long
    (subst (λ list. (p : ℕ) → p < 8 → (i : ℕ) → i < 64 → slice_index_or (image_in c.images_read.result p) i (pos 0) ≡ word_read c.self.inside.spec.now list c.frame_of-frame.result p i) c.deref-2.ensures.value c.images_read.ensures.words)
