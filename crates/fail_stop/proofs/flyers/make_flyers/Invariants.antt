use Rattle.std.proofs.Common.{◌≡◌, ◌+◌, ◌++◌, ◌<◌, ℕ, length}
use Rattle.std.specs.Prelude.{Some, map, slice_index_or}
use Rattle.fail_stop.specs.Events.{At}
use Rattle.fail_stop.specs.Flights.{Flight}
use Rattle.fail_stop.specs.Flyers.{IsFlyerAt, unit_rack}
use Rattle.fail_stop.proofs.flyers.make_flyers.Given as goal

abbrev pub invariant-loop-p : goal.invariant-loop-p
invariant-loop-p g l = record {
  racks_left : l.racks.rest.len + l.p ≡ 8;
  spares_left : l.spares.rest.len + l.p ≡ 8;
  racks_taken : map (λ flyer. unit_rack flyer.unit) l.flyers.items ++ map Some l.racks.rest.items ≡ map Some l.fn.boxes.racks.items;
  spares_taken : map (λ flyer. flyer.spare) l.flyers.items ++ map Some l.spares.rest.items ≡ map Some l.fn.boxes.spares.items;
  made : length l.flyers.items ≡ l.p;
  each : (m : Flight) (k : ℕ) (none : _) → k < length l.flyers.items → IsFlyerAt m k (At 0 0) (slice_index_or l.flyers.items k none);
}
