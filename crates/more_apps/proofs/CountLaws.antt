-- The data link counts every message.
use Rattle.std.proofs.Common.{◌≡◌, ◌+ℤ◌, ◌<ℤ◌, pos, arith}
use Rattle.std.proofs.lemmas.Int.{ints, clamps}
use Rattle.scram_types.specs.Numbers.{word}
use Rattle.app_model.specs.declared.seen.Seen.{Seen}
use Rattle.app_model.specs.Reads.{own_word}
use Rattle.app_model.specs.DataLink.{fresh, waiting, queued_after, sent_after, left_over, dropped_after, data_link_ran}
use Rattle.more_apps.specs.Counts.{KeepsCount}

words_kept : (seen : Seen) → sent_after seen <ℤ pos 1000000 → dropped_after seen <ℤ pos 1000000
    → (sent_after seen +ℤ queued_after seen) +ℤ dropped_after seen ≡ ((own_word 4 seen 2 +ℤ own_word 4 seen 1) +ℤ own_word 4 seen 4) +ℤ fresh seen
unfolding sent_after dropped_after left_over waiting
words_kept seen s d = omega (arith, ints, clamps)

pub keeps_count : KeepsCount
unfolding word data_link_ran
keeps_count seen s d = words_kept seen s d
