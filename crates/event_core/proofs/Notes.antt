-- The next event that the code computes for an actor is the one that `next_of` or `next_kernel` defines.
use Rattle.std.proofs.Common.{◌≡◌, ℕ, ◌<◌, true, arith}
use Rattle.std.specs.Prelude.{Option, Some, None, nat_lt, if◌then◌else◌}
use Rattle.std.proofs.lemmas.Bool.Decides.{nat_tests}
use Rattle.bank_words.specs.declared.events.Event.{Event}
use Rattle.bank_words.specs.declared.events.Event.TheVariants.{KNote}
use Rattle.scram_types.specs.Lookups.{proc_id}
use Rattle.fail_stop.specs.Events.{EndWord, Places, Word, may_note, next_kernel}
use Rattle.fail_stop.specs.Flights.{Flight}

-- If the kernel has not noted all processors, its next event is the next note if `may_note` allows that note, or
-- `None` otherwise.
pub note_next : (m : Flight) (at : Places) (words : Word → ℕ) (p end : ℕ) (next : Option Event) → at.frame < m.frames → at.step < m.procs → p ≡ at.step → end ≡ words (EndWord p)
    → next ≡ (if may_note m p at.frame end then Some (KNote (proc_id p)) else None) → next ≡ next_kernel m at words
note_next m at words p end next frame step is_p is_end is =
    let in_flight : nat_lt at.frame m.frames ≡ true = grind (arith, nat_tests, frame) in
    let more : nat_lt at.step m.procs ≡ true = grind (arith, nat_tests, step) in
    rw (in_flight, more, ← is_p, ← is_end) is
