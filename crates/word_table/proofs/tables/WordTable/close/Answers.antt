use Rattle.std.proofs.Common.{◌<◌, ℕ, subst, arith, [], length}
use Rattle.std.specs.Prelude.{slice_index, slice_index_or}
use Rattle.std.specs.Mem.Slots.{slots_items}
use Rattle.word_table.specs.Closing.{AreLast}
use Rattle.word_table.specs.Tables.{mission_in, kernel_frame, kernel_steps}
use Rattle.word_table.proofs.Ending.{ended_image, ended_mark}
use Rattle.word_table.proofs.tables.WordTable.close.Goals as goal

pub returns-clause-marks : goal.returns-clause-marks
returns-clause-marks c = λ p seat there.
    let words = c.args.self in
    let all = c.gather-all.result in
    let is = c.requires.seats.each p seat there in
    let low : p < length (mission_in words).spec.procs = subst (λ q. q < length (mission_in words).spec.procs) is.1 is.0.proc in
    let inside : p < words.procs = omega (arith, low, words.keeps.procs_are) in
    ended_mark (mission_in words) c.requires.kernel.holds.facts c.requires.kernel.holds.fits all.id (kernel_frame c.args.kseat) (kernel_steps c.args.kseat) all.me.0 c.args.seats.items (slots_items c.close_with-closed.result.words)
    (slots_items c.close_with-closed.result.slots) c.close_with-closed.ensures.values.2 c.gather-all.ensures.actors p seat there is.1 low _ _
    (subst (λ (w : ℕ). AreLast (slots_items c.close_with-closed.result.words) w p (slice_index c.last_words-last.result.marks p) (slice_index_or c.last_words-last.result.images p [])) words.keeps.width_is (c.last_words-last.ensures.last p inside))

pub returns-clause-images : goal.returns-clause-images
returns-clause-images c = λ p seat there.
    let words = c.args.self in
    let all = c.gather-all.result in
    let is = c.requires.seats.each p seat there in
    let low : p < length (mission_in words).spec.procs = subst (λ q. q < length (mission_in words).spec.procs) is.1 is.0.proc in
    let inside : p < words.procs = omega (arith, low, words.keeps.procs_are) in
    ended_image (mission_in words) c.requires.kernel.holds.facts c.requires.kernel.holds.fits all.id (kernel_frame c.args.kseat) (kernel_steps c.args.kseat) all.me.0 c.args.seats.items (slots_items c.close_with-closed.result.words)
    (slots_items c.close_with-closed.result.slots) c.close_with-closed.ensures.values.2 c.gather-all.ensures.actors p seat there is.1 low _ _
    (subst (λ (w : ℕ). AreLast (slots_items c.close_with-closed.result.words) w p (slice_index c.last_words-last.result.marks p) (slice_index_or c.last_words-last.result.images p [])) words.keeps.width_is (c.last_words-last.ensures.last p inside))

pub returns-clause-past : goal.returns-clause-past
returns-clause-past c = λ p least most. c.last_words-last.ensures.past p (omega (arith, least, c.args.self.keeps.procs_are)) most
