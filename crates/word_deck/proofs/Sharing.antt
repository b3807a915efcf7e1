-- The values of a flight may be sent to other threads or shared between threads.
use denote.RattleType.{RattleType}
use denote.Param.Object.{Ghosts, table_of}
use denote.Param.Sent.{Sends}
use denote.Param.Send.{IsSend, IsSync, recorded_send, sendable, struct_send}
use denote.Struct.Declared.{shape}
use Rattle.std.proofs.Crossing.{crosses, dyn_box_send}
use Rattle.atomic_table.proofs.shared.Seat.TheSendSync as shared_seat
use Rattle.app_model.specs.contracts.racks.Rack as rack
use Rattle.word_table.specs.contracts.seats.Seat as seat
use Rattle.word_deck.specs.contracts.landings.RackPair as pair
use Rattle.word_deck.specs.contracts.landings.RackCell as cell
use Rattle.atomic_table.proofs.shared.Shared.TheSendSync as shared
use Rattle.atomic_table.proofs.send_lease.SendLease.TheSendSync as lease
use Rattle.scram_types.specs.contracts.scripts.Script as script
use Rattle.scram_types.specs.contracts.mode_lists.Modes as modes
use Rattle.scram_types.specs.contracts.demands.Demand as demand
use Rattle.scram_types.specs.contracts.specification.Spec as spec
use Rattle.coverage_check.specs.contracts.missions.Mission as mission
use Rattle.word_table.specs.contracts.tables.WordTable as table

script_sync : IsSync script.the_row
script_sync = search (sendable, crosses) depth 40

modes_sync : IsSync modes.the_row
modes_sync = search (sendable, crosses) depth 40

demand_sync : IsSync demand.the_row
demand_sync = search (modes_sync, sendable, crosses) depth 40 fits 5000

spec_sync : IsSync spec.the_row
spec_sync = search (demand_sync, sendable, crosses) depth 40 fits 20000

pub mission_sync : IsSync mission.the_row
mission_sync = search (spec_sync, script_sync, sendable, crosses) depth 40

pub table_sync : IsSync table.the_row
table_sync = search (shared.the_sync, lease.the_sync, sendable, crosses) depth 40

-- Threads may take or share seats and cells of boxes if boxes may be sent to another thread.

pub seat_fields : IsSend seat.the_field.row
seat_fields = search (shared_seat.the_send, sendable, crosses) depth 40 fits 5000

module _ (D : RattleType) (g : Ghosts D.Denot) (s : Sends (table_of D.Denot g)) (d : IsSend D) where
  rack_fields : IsSend (rack.the_field D g).row
  rack_fields = let box = dyn_box_send D g s d in struct_send (shape (rack.the_type D g)) (search (box, sendable, crosses) depth 40 fits 5000, tt)

  kit_fields : IsSend (pair.the_field D g).row
  kit_fields = struct_send (shape (pair.the_type D g)) (search (rack_fields, sendable, crosses), (search (rack_fields, sendable, crosses), tt))

  kit_send : IsSend (pair.the_row D g)
  kit_send = recorded_send (pair.the_field D g).row _ _ (pair.the_type D g).to_one kit_fields

  pub cell_sync : IsSync (cell.the_row D g)
  cell_sync = search (kit_send, sendable, crosses) depth 40 fits 5000
