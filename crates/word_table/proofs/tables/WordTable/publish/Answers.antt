use Rattle.std.proofs.Common.{◌≡◌, ◌∙◌, ℕ, ◌+◌, ◌-◌, suc, ap, arith, sym, List, [], ◌∷◌, map, length}
use Rattle.std.specs.Prelude.{IfSome, nat_eq}
use Rattle.fail_stop.specs.Flights.{word_in}
use Rattle.word_table.specs.declared.actors.Actor.{Actor}
use Rattle.word_table.specs.declared.actors.Actor.TheVariants.{Kernel}
use Rattle.word_table.specs.declared.actors.View.{View}
use Rattle.word_table.specs.declared.seats.KSeat.{KSeat}
use Rattle.word_table.specs.declared.tables.WordTable.{WordTable}
use Rattle.word_table.specs.Actors.{mission_flight, one_more}
use Rattle.word_table.specs.Plays.{Has, Sat, StepsIf, each_actor, word_due}
use Rattle.word_table.specs.Tables.{IsKernelSeatOf, flight_in, kernel_words_of, mission_in}
use Rattle.word_table.proofs.Allowing.{confirm_publish_allows, publish_allows}
use Rattle.word_table.proofs.Seating.{sound}
use Rattle.word_table.proofs.Telling.{confirmed, third, unconfirmed}
use Rattle.word_table.proofs.tables.WordTable.publish.Goals as goal
use Rattle.word_table.proofs.tables.WordTable.publish.Goals.{then-load-word, else-load-word}

-- Lemmas on a kernel seat whose next step is the store of word `i` of the next frame's image, after a load of that
-- word that found `n`.
module _ (words : WordTable) (kseat : KSeat) (i word n : ℕ) (after : Sat) (fits : IsKernelSeatOf words kseat) (next : kseat.step ≡ length (mission_in words).spec.procs + i)
    (said : word ≡ word_in (kernel_words_of words (kseat.frame + 1)) i) (told : IfSome kseat.inner.me.0.mission (λ mission. StepsIf (nat_eq n (word_due (mission_flight mission) kseat.inner.me.0.actors)) kseat.inner.me.0 after)) where
  value : word ≡ word_in ((flight_in words).kernel_image (suc kseat.frame)) i
  value =
      let more : kseat.frame + 1 ≡ suc kseat.frame = omega arith in
      said ∙ ap (λ f. word_in ((flight_in words).kernel_image f) i) more

  due : word_due (flight_in words) (Kernel kseat.frame kseat.step ∷ []) ≡ word
  due =
      let made : kseat.step - (flight_in words).procs ≡ i = omega (arith, next) in
      ap (word_in ((flight_in words).kernel_image (suc kseat.frame))) made ∙ sym value

  left : (n ≡ word → ⊥) → Has after kseat.inner.me.0
  left other = unconfirmed (mission_in words) kseat.inner.me.0 after n word (Kernel kseat.frame kseat.step) fits.mission kseat.alone due told other

  made : n ≡ word → Has after (each_actor one_more kseat.inner.me.0)
  made same = confirmed (mission_in words) kseat.inner.me.0 after n word (Kernel kseat.frame kseat.step) fits.mission kseat.alone due told same

-- If the kernel is the only actor and makes one more step, its place is one step later.
moved : (v u : View) (k j : ℕ) → u ≡ each_actor one_more v → v.actors ≡ Kernel k j ∷ [] → u.actors ≡ Kernel k (j + 1) ∷ []
moved v u k j go is =
    let more : suc j ≡ j + 1 = omega arith in
    ap (λ (w : View). w.actors) go ∙ ap (λ (l : List Actor). map one_more l) is ∙ ap (λ n. Kernel k n ∷ []) more

pub load-requires : goal.load-requires
load-requires c =
    let words = c.args.self.now in
    let kseat = c.args.kseat.now in
    let m = flight_in words in
    let next : kseat.frame + 1 ≡ suc kseat.frame = omega arith in (
      c.requires.seat.table,
      omega (arith, c.requires.i, words.keeps.places, c.kernel_index-at.ensures),
      confirm_publish_allows (mission_in words) words.table.shared.table_id.slots kseat.inner.id kseat.inner.me (sound (mission_in words) c.requires.seat.holds.facts c.requires.seat.holds.fits) kseat.empty
          kseat.frame kseat.step c.args.i c.kernel_index-at.result c.args.word c.requires.seat.mission c.requires.i (omega (arith, c.requires.frame)) c.requires.next kseat.alone c.kernel_index-at.ensures
          (c.requires.word ∙ ap (λ k. word_in (m.kernel_image k) c.args.i) next),
    )

pub store-requires : goal.store-requires
store-requires c =
    let words = c.args.self.now in
    let kseat = c.args.kseat.now in
    let fits = c.requires.seat in
    let still = left words kseat c.args.i c.args.word c.load.result c.load.new.seat.me fits c.requires.next c.requires.word (third c.load.ensures) c.if-load-word.true in (
      c.load.ensures.0 ∙ fits.table,
      omega (arith, c.requires.i, words.keeps.places, c.kernel_index-at.ensures),
      publish_allows (mission_in words) words.table.shared.table_id.slots c.load.new.seat.id c.load.new.seat.me (sound (mission_in words) fits.holds.facts fits.holds.fits) still.1
          kseat.frame kseat.step c.args.i c.kernel_index-at.result c.args.word c.requires.i (omega (arith, c.requires.frame)) c.requires.next (ap (λ (v : View). v.actors) still.0 ∙ kseat.alone) c.kernel_index-at.ensures
          (value words kseat c.args.i c.args.word c.load.result c.load.new.seat.me fits c.requires.next c.requires.word (third c.load.ensures)),
    )

pub invariant_of-kseat : goal.invariant_of-kseat
invariant_of-kseat c =
    let words = c.args.self.now in
    let kseat = c.args.kseat.now in
    elim c.if-load-word.branch [
      | then-load-word w ↦
          let still = left words kseat c.args.i c.args.word c.load.result c.load.new.seat.me c.requires.seat c.requires.next c.requires.word (third c.load.ensures) w.if-load-word.true in
          let steps = third w.store.ensures in
          rw (w.kseat-is) (record { alone = moved c.load.new.seat.me.0 w.store.new.seat.me.0 kseat.frame kseat.step steps.0 (ap (λ (v : View). v.actors) still.0 ∙ kseat.alone); empty = steps.1 })
      | else-load-word w ↦
          let steps = made words kseat c.args.i c.args.word c.load.result c.load.new.seat.me c.requires.seat c.requires.next c.requires.word (third c.load.ensures) w.if-load-word.false in
          rw (w.kseat-is) (record { alone = moved kseat.inner.me.0 c.load.new.seat.me.0 kseat.frame kseat.step steps.0 kseat.alone; empty = steps.1 })
    ]
