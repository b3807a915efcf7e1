-- Each area that the law of a kind defines has eight words.
use Rattle.std.proofs.Common.{◌≡◌, ℕ, zero, suc, ◌+◌, refl, Bool, true, false, List, length}
use Rattle.std.specs.Prelude.{ℤ, ◌==◌, if◌then◌else◌}
use Rattle.scram_types.specs.declared.orders.Order.{Order}
use Rattle.scram_types.specs.declared.orders.Order.TheVariants.{Run, Hold, Halt, Prepare, Init, Off}
use Rattle.app_model.specs.declared.seen.Seen.{Seen}
use Rattle.app_model.specs.Autopilot.{autopilot_ran}
use Rattle.app_model.specs.DataLink.{data_link_ran}
use Rattle.app_model.specs.FlightControl.{flight_control_ran}
use Rattle.app_model.specs.Law.{law, ran}
use Rattle.app_model.specs.Navigator.{navigator_ran}
use Rattle.app_model.specs.Orders.{halted, initialised, kept_area}
use Rattle.app_model.specs.PowerMonitor.{power_monitor_ran}
use Rattle.app_model.specs.Tasks.{task_ran}

-- If two lists have eight words, the list that a test chooses has eight words.
pub either_eight : (x y : List ℤ) (b : Bool) → length x ≡ 8 → length y ≡ 8 → length (if b then x else y) ≡ 8
either_eight x y true is_x is_y = is_x
either_eight x y false is_x is_y = is_y

ran_eight : (kind : ℕ) (seen : Seen) → length (ran kind seen) ≡ 8
unfolding autopilot_ran flight_control_ran power_monitor_ran navigator_ran data_link_ran task_ran
ran_eight zero seen = refl
ran_eight (suc zero) seen = refl
ran_eight (suc (suc zero)) seen = refl
ran_eight (suc (suc (suc zero))) seen = refl
ran_eight (suc (suc (suc (suc zero)))) seen = refl
ran_eight (suc (suc (suc (suc (suc zero))))) seen = refl
ran_eight (suc (suc (suc (suc (suc (suc kind)))))) seen = refl

pub law_eight : (kind : ℕ) (order : Order) (seen : Seen) → length seen.own ≡ 8 → length (law kind order seen) ≡ 8
unfolding halted kept_area initialised
law_eight kind Run seen own = ran_eight kind seen
law_eight kind (Halt k n) seen own = refl
law_eight kind Hold seen own = own
law_eight kind (Prepare k n) seen own = refl
law_eight kind (Init k n) seen own = either_eight _ _ (k + 1 == n) refl refl
law_eight kind Off seen own = refl
