-- The law of each kind: the area after a frame, given the order and the view of the application.
use Rattle.std.specs.Prelude.{ℕ, ℤ, pos, ◌-◌, ◌+◌, ◌==◌, List, [], ◌∷◌, replicate, slice_index_or}
use Rattle.scram_types.specs.declared.orders.Order.{Order}
use Rattle.scram_types.specs.declared.orders.Order.TheVariants.{Run, Hold, Halt, Prepare, Init, Off}
use Rattle.app_model.specs.declared.seen.Seen.{Seen}
use Rattle.app_model.specs.Orders.{halted, initialising, kept_area}
use Rattle.app_model.specs.Autopilot.{autopilot_ran}
use Rattle.app_model.specs.FlightControl.{flight_control_ran}
use Rattle.app_model.specs.PowerMonitor.{power_monitor_ran}
use Rattle.app_model.specs.Navigator.{navigator_ran}
use Rattle.app_model.specs.DataLink.{data_link_ran}
use Rattle.app_model.specs.Tasks.{task_ran}

-- The functions that return the area after a run, in the order of the kinds' numbers.
abbrev pub runs_of_kinds : List (Seen → List ℤ)
runs_of_kinds = autopilot_ran ∷ flight_control_ran ∷ power_monitor_ran ∷ navigator_ran ∷ data_link_ran ∷ task_ran ∷ []

-- The area after a run of an application of kind `kind`, or of the task if there is no such kind.
abbrev pub ran : ℕ → Seen → List ℤ
ran kind seen = slice_index_or runs_of_kinds kind task_ran seen

-- The area of an application of kind `kind` after a frame with order `order`, given its view `seen`. In frame `k` of
-- the `n` frames of a halt phase, `n - k` frames are left, including this one. Frame `k` is the last frame of an init
-- phase if `k + 1` is `n`.
abbrev pub law : ℕ → Order → Seen → List ℤ
law kind Run seen = ran kind seen
law kind (Halt k n) seen = halted kind (n - k) seen
law kind Hold seen = seen.own
law kind (Prepare k n) seen = kept_area kind (pos 3) seen
law kind (Init k n) seen = initialising kind (k + 1 == n) seen
law kind Off seen = replicate 8 (pos 0)
