use Rattle.std.proofs.Common.{rules, ◌≡◌, ◌∙◌, ap, sym, length}
use Rattle.word_table.specs.Tables.{mission_in}
use Rattle.word_deck.specs.Kernels.{frames_noted}
use Rattle.word_deck.proofs.Noting.{done_log}
use Rattle.word_deck.proofs.Watching.{rows_again, rows_count, rows_rise, within_flight}
use Rattle.word_deck.proofs.watched.WatchedKernelKernelActor.work.Goals as goal

pub hand_row-requires-clause-taken : goal.hand_row-requires-clause-taken
hand_row-requires-clause-taken g c =
    let old = c.args.self.now.kernel in
    c.requires.seated.2 ∙ sym (rows_count old.mission.now c.rows-before.result.now (frames_noted (length old.mission.now.spec.procs) old.kseat) c.rows-before.ensures)

pub hand_row-requires-clause-rows : goal.hand_row-requires-clause-rows
hand_row-requires-clause-rows g c =
    let new = c.turn-turn.new.self in
    rows_again new.mission.now c.rows.result.now (frames_noted (length new.mission.now.spec.procs) new.kseat) c.rows.ensures

pub hand_row-requires-clause-most : goal.hand_row-requires-clause-most
hand_row-requires-clause-most g c =
    let new = c.turn-turn.new.self in
    let count = rows_count new.mission.now c.rows.result.now (frames_noted (length new.mission.now.spec.procs) new.kseat) c.rows.ensures in
    let most = within_flight (length new.mission.now.spec.procs) new.mission.now.script.frames new.kseat new.keeps.between in
    rw count most

pub returns-clause-seated : goal.returns-clause-seated
returns-clause-seated g c =
    let new = c.turn-turn.new.self in
    let count = rows_count new.mission.now c.rows.result.now (frames_noted (length new.mission.now.spec.procs) new.kseat) c.rows.ensures in
    (c.turn-turn.ensures.seat, c.hand_row.ensures.watched, c.hand_row.ensures.taken ∙ count)

pub returns-clause-done : goal.returns-clause-done
returns-clause-done g c = λ is.
    let new = c.turn-turn.new.self in
    let count = rows_count new.mission.now c.rows.result.now (frames_noted (length new.mission.now.spec.procs) new.kseat) c.rows.ensures in
    let done = c.turn-turn.ensures.finished.0 is in
    let same : mission_in c.args.words.now ≡ new.mission.now = search rules in
    let here = rw same at done in
    (done, c.hand_row.ensures.taken ∙ count ∙ done_log new.mission.now new.kseat new.keeps.between here ∙ ap (λ m. m.script.frames) (sym same))

pub hand_row-requires-clause-low : goal.hand_row-requires-clause-low
hand_row-requires-clause-low g c =
    let old = c.args.self.now.kernel in
    let new = c.turn-turn.new.self in
    let was : mission_in c.args.words.now ≡ old.mission.now = search rules in
    let same : mission_in c.args.words.now ≡ new.mission.now = search rules in
    (rows_rise (mission_in c.args.words.now) old.mission.now new.mission.now c.turn-turn.result old.kseat new.kseat c.rows-before.result.now c.rows.result.now was same
    c.rows-before.ensures c.rows.ensures c.turn-turn.ensures.place).0

pub hand_row-requires-clause-high : goal.hand_row-requires-clause-high
hand_row-requires-clause-high g c =
    let old = c.args.self.now.kernel in
    let new = c.turn-turn.new.self in
    let was : mission_in c.args.words.now ≡ old.mission.now = search rules in
    let same : mission_in c.args.words.now ≡ new.mission.now = search rules in
    (rows_rise (mission_in c.args.words.now) old.mission.now new.mission.now c.turn-turn.result old.kseat new.kseat c.rows-before.result.now c.rows.result.now was same
    c.rows-before.ensures c.rows.ensures c.turn-turn.ensures.place).1
