use denote.Param.Sent.{code_send}
use denote.Param.Send.{sendable}
use Rattle.word_deck.proofs.Sharing.{mission_sync, seat_fields, cell_sync, table_sync}
use Rattle.word_deck.proofs.landings.start.Goals as goal

pub spawn_with-spawned-requires-send-F : goal.spawn_with-spawned-requires-send-F
spawn_with-spawned-requires-send-F g c κs within = search (mission_sync, table_sync, seat_fields, cell_sync, code_send, sendable) depth 30 fits 5000
