-- The invariant of the data link's counts.
use Rattle.std.specs.Prelude.{◌≡◌, ℕ, ℤ, pos, ◌+ℤ◌, ◌<ℤ◌}
use Rattle.scram_types.specs.Numbers.{word}
use Rattle.scram_types.specs.declared.orders.Order.TheVariants.{Run}
use Rattle.app_model.specs.declared.seen.Seen.{Seen}
use Rattle.app_model.specs.Reads.{own_word}
use Rattle.app_model.specs.DataLink.{fresh}
use Rattle.app_model.specs.Law.{law}

-- Word `i` of the data link's area after a run.
abbrev pub after_run : Seen → ℕ → ℤ
after_run seen i = word (law 4 Run seen) i

-- If both counts are below their maximum after a run, the sum of the messages sent, queued and dropped equals the sum
-- that was read before the run plus the number of new messages.
abbrev pub KeepsCount : Type 0
KeepsCount = (seen : Seen) → after_run seen 2 <ℤ pos 1000000 → after_run seen 4 <ℤ pos 1000000
    → (after_run seen 2 +ℤ after_run seen 1) +ℤ after_run seen 4
    ≡ ((own_word 4 seen 2 +ℤ own_word 4 seen 1) +ℤ own_word 4 seen 4) +ℤ fresh seen
