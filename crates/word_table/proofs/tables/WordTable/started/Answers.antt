use Rattle.std.proofs.Common.{◌∙◌, ◌+◌, ◌<◌, ap, subst, arith, List, rules}
use Rattle.std.specs.Prelude.{slice_index}
use Rattle.bank_words.specs.Images.{kernel_decode}
use Rattle.word_table.specs.declared.actors.Actor.{Actor}
use Rattle.word_table.specs.Actors.{frame_awaited}
use Rattle.word_table.specs.Plays.{IsFound, Sat}
use Rattle.word_table.specs.Tables.{flight_in, mission_in, seat_place, proc_of}
use Rattle.word_table.proofs.Allowing.{start_allows}
use Rattle.word_table.proofs.Finding.{words_read}
use Rattle.word_table.proofs.Seating.{sound}
use Rattle.word_table.proofs.Starting.{awaited_low}
use Rattle.word_table.proofs.Telling.{start_made, third}
use Rattle.word_table.proofs.tables.WordTable.started.Goals as goal

pub load-release-requires : goal.load-release-requires
load-release-requires c =
    let words = c.args.self.now in
    let seat = c.args.seat.now in (
      c.requires.seat.table,
      omega (arith, words.keeps.places),
      start_allows (mission_in words) words.table.shared.table_id.slots seat.inner.id seat.inner.me (sound (mission_in words) c.requires.seat.holds.facts c.requires.seat.holds.fits) seat.empty
          (proc_of seat) (seat_place seat) c.requires.seat.proc seat.alone c.requires.seat.mission c.requires.waits,
    )

pub returns-clause-seat : goal.returns-clause-seat
returns-clause-seat c =
    let words = c.args.self.now in
    let seat = c.args.seat.now in
    let m = flight_in words in
    let p = proc_of seat in
    let x = seat_place seat in
    let ready : frame_awaited (flight_in words) (proc_of seat) (seat_place seat) < c.load-release.result = omega (arith, c.if-release-from.false, c.from.ensures, c.frame_awaited-frame.ensures) in
    let made = start_made (mission_in words) seat.inner.me.0 c.load-release.new.seat.me c.load-release.result p x c.requires.seat.mission seat.alone c.requires.waits (third c.load-release.ensures) ready in
    let low = awaited_low (mission_in words) c.requires.seat.holds.fits p x c.requires.waits in
    record {
      holds = c.requires.seat.holds;
      table = c.read_kernel.ensures.table ∙ c.load-release.ensures.0 ∙ c.requires.seat.table;
      mission = ap (λ (me : Sat). me.0.mission) c.read_kernel.ensures.same ∙ ap (λ (me : Sat). me.0.mission) made ∙ c.requires.seat.mission;
      proc = c.requires.seat.proc;
      in_flight = (omega (arith, low, c.frame_awaited-frame.ensures), λ begun. omega (arith, low, c.frame_awaited-frame.ensures));
    }

pub returns-clause-image : goal.returns-clause-image
returns-clause-image c =
    let words = c.args.self.now in
    let seat = c.args.seat.now in
    let m = flight_in words in
    let p = proc_of seat in
    let x = seat_place seat in
    let ready : frame_awaited (flight_in words) (proc_of seat) (seat_place seat) < c.load-release.result = omega (arith, c.if-release-from.false, c.from.ensures, c.frame_awaited-frame.ensures) in
    let made = start_made (mission_in words) seat.inner.me.0 c.load-release.new.seat.me c.load-release.result p x c.requires.seat.mission seat.alone c.requires.waits (third c.load-release.ensures) ready in
    let low = awaited_low (mission_in words) c.requires.seat.holds.fits p x c.requires.waits in
    let few = c.requires.seat.holds.fits.frames in
    let read = words_read (mission_in words) c.requires.seat.holds.fits p (frame_awaited m p x) 1 c.read_kernel.result c.requires.seat.proc (omega arith) c.read_kernel.ensures.long
    (λ i inside. subst (λ (l : List Actor). IsFound (flight_in words) l (8 + i) (slice_index c.read_kernel.result i)) (ap (λ (me : Sat). me.0.actors) made) (c.read_kernel.ensures.read i inside)) in
    c.kernel_decode.ensures ∙ ap kernel_decode read ∙ c.kernel_images_come_back.ensures (mission_in words).spec (mission_in words).script (frame_awaited m p x) c.requires.seat.holds.facts c.requires.seat.holds.fits (omega (arith, low, few))

pub returns-clause-tries : goal.returns-clause-tries
returns-clause-tries c =
    let words = c.args.self.now in
    let seat = c.args.seat.now in
    let m = flight_in words in
    let p = proc_of seat in
    let x = seat_place seat in
    let ready : frame_awaited (flight_in words) (proc_of seat) (seat_place seat) < c.load-release.result = omega (arith, c.if-release-from.false, c.from.ensures, c.frame_awaited-frame.ensures) in
    let made = start_made (mission_in words) seat.inner.me.0 c.load-release.new.seat.me c.load-release.result p x c.requires.seat.mission seat.alone c.requires.waits (third c.load-release.ensures) ready in
    ap (λ (me : Sat). me.0.tries) c.read_kernel.ensures.same ∙ ap (λ (me : Sat). me.0.tries) made

pub invariant_of-seat-2 : goal.invariant_of-seat-2
invariant_of-seat-2 c = search rules

pub returns-then-release-from-clause-tries : goal.returns-then-release-from-clause-tries
returns-then-release-from-clause-tries c = search rules
