use Rattle.std.proofs.Common.{◌≡◌, ◌<◌, ◌+◌, ℕ, suc, subst, arith, length}
use Rattle.fault_script.specs.Times.{words}
use Rattle.fail_stop.specs.Events.{BankWord}
use Rattle.fail_stop.specs.Flights.{word_in}
use Rattle.fail_stop.specs.Laws.{IsNoted}
use Rattle.fail_stop.specs.Listed.{stored_in}
use Rattle.fail_stop.specs.ScriptFlights.{image_words_after}
use Rattle.event_core.specs.Places.{machine_places}
use Rattle.event_core.specs.Reads.{bank_taken}
use Rattle.event_core.proofs.ImagesFound.{images_found}
use Rattle.event_core.proofs.Noted.{held_noted, images_of, marks_noted, marks_of}
use Rattle.event_core.proofs.frames.end_frame.Goals as goal

pub tick-requires-clause-marks : goal.tick-requires-clause-marks
tick-requires-clause-marks c =
    let noted : (p : ℕ) → p < length c.args.spec.now.procs → IsNoted c.args.spec.now c.args.script.now (stored_in c.args.stored.now) c.args.places.now.frame p =
    λ p low. c.notes_fix.ensures c.args.spec.now c.args.script.now c.requires.fits (machine_places c.args.places.now) (stored_in c.args.stored.now) c.requires.kept p low (omega (arith, low, c.requires.noted)) in
    marks_of c.args.kernel.now c.args.spec.now c.args.script.now c.args.places.now.frame _ c.requires.kernel
    (marks_noted c.args.spec.now c.args.script.now c.args.stored.now c.args.places.now.frame c.requires.facts.procs_count.few noted _ c.marks_read-marks.ensures)

pub tick-requires-clause-images : goal.tick-requires-clause-images
tick-requires-clause-images c =
    let noted : (p : ℕ) → p < length c.args.spec.now.procs → IsNoted c.args.spec.now c.args.script.now (stored_in c.args.stored.now) c.args.places.now.frame p =
    λ p low. c.notes_fix.ensures c.args.spec.now c.args.script.now c.requires.fits (machine_places c.args.places.now) (stored_in c.args.stored.now) c.requires.kept p low (omega (arith, low, c.requires.noted)) in
    let next : suc c.args.places.now.frame ≡ c.args.places.now.frame + 1 = omega arith in
    let held : (p i : ℕ) → p < length c.args.spec.now.procs → i < words c.args.spec.now
    → stored_in c.args.stored.now (BankWord p (bank_taken c.args.stored.now (c.args.places.now.frame + 1) p) i) ≡ word_in (image_words_after c.args.spec.now c.args.script.now p (c.args.places.now.frame + 1)) i =
    subst (λ f. (p i : ℕ) → p < length c.args.spec.now.procs → i < words c.args.spec.now
    → stored_in c.args.stored.now (BankWord p (bank_taken c.args.stored.now f p) i) ≡ word_in (image_words_after c.args.spec.now c.args.script.now p f) i) next
    (held_noted c.args.spec.now c.args.script.now c.args.stored.now c.args.places.now.frame c.requires.facts.procs_count.few noted) in
    images_of c.args.kernel.now c.args.spec.now c.args.script.now c.args.places.now.frame _ c.requires.kernel
    (images_found c.args.spec.now c.requires.facts c.args.script.now c.args.stored.now (c.args.places.now.frame + 1) c.images_read-images.result c.requires.facts.procs_count.few held
    c.images_read-images.ensures.long c.images_read-images.ensures.words)
