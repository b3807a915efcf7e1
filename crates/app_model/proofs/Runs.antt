-- The area after a run of an application of any kind lies in the ranges of the application's mode.
use Rattle.std.proofs.Common.{◌≡◌, refl, ℕ, ℤ, pos, ◌+ℤ◌, ◌-ℤ◌, ◌≤ℤ◌, ◌<◌, ◌==◌, if◌then◌else◌, arith}
use Rattle.std.proofs.lemmas.Int.{ints, clamps}
use Rattle.app_model.specs.declared.seen.Seen.{Seen}
use Rattle.scram_types.specs.Numbers.{word}
use Rattle.scram_types.specs.Ranges.{limit}
use Rattle.scram_types.proofs.Clamping.{IsInRange, in_circle, in_clamp}
use Rattle.kind_table.specs.Kinds.{kind_variable}
use Rattle.kind_table.specs.Ranges.{sane_range, widest_mode, mode_range}
use Rattle.app_model.specs.Reads.{own_word, lead_word, goal_altitude, goal_heading}
use Rattle.app_model.specs.Headings.{short_turn}
use Rattle.app_model.specs.Autopilot.{target_alt, target_heading, integral_after, pitch_after, roll_after, autopilot_ran}
use Rattle.app_model.specs.FlightControl.{command, elevator_after, aileron_after, flight_control_ran}
use Rattle.app_model.specs.PowerMonitor.{supply_after, demand_after, charge_after, shed_after, power_monitor_ran, alternator_gives}
use Rattle.app_model.specs.Navigator.{on_course, navigator_ran, climb_left_after, bearing_error_after}
use Rattle.app_model.specs.DataLink.{fresh_of, fresh, rate_after, waiting, going, queued_after, sent_after, left_over, dropped_after, data_link_ran}
use Rattle.app_model.specs.Tasks.{task_ran}
use Rattle.app_model.specs.Law.{ran}
use Rattle.kind_table.proofs.EachKind.{each_kind}
use Rattle.app_model.proofs.Within.{Within, each, in_choice, in_either, in_zero, in_one, in_number, in_sum, in_twice, in_ticks}

autopilot_within : (seen : Seen) → Within (mode_range 0 seen.mode.0) (autopilot_ran seen)
unfolding autopilot_ran word mode_range pitch_after roll_after target_alt target_heading goal_altitude goal_heading integral_after own_word kind_variable
autopilot_within seen = each (λ i. IsInRange (mode_range 0 seen.mode.0 i) (word (autopilot_ran seen) i))
    (in_clamp _ _)
    (in_choice (seen.mode.0 == 1) (limit 150 150) (limit 0 0) _ _ (in_clamp _ _) (in_zero _))
    (in_either (seen.mode.0 == 1) _ _ _ (in_clamp _ _) (in_clamp _ _))
    (in_either (seen.mode.0 == 1) _ _ _ (in_clamp _ _) (in_clamp _ _))
    (in_clamp _ _)
    (in_ticks 0 seen (in_clamp _ _))
    (in_zero _)

in_command : (seen : Seen) (i : ℕ) → IsInRange (sane_range 0 i) (command seen i)
unfolding command lead_word
in_command seen i = in_either _ _ _ _ (in_clamp _ _) (in_zero _)

flight_control_within : (seen : Seen) → Within (mode_range 1 seen.mode.0) (flight_control_ran seen)
unfolding flight_control_ran word mode_range sane_range widest_mode elevator_after aileron_after own_word kind_variable
flight_control_within seen = each (λ i. IsInRange (mode_range 1 seen.mode.0 i) (word (flight_control_ran seen) i))
    (in_choice (seen.mode.0 == 1) (limit 100 100) (limit 200 200) _ _ (in_clamp _ _) (in_twice 100 (command seen 1) (in_command seen 1)))
    (in_choice (seen.mode.0 == 1) (limit 150 150) (limit 300 300) _ _ (in_clamp _ _) (in_twice 150 (command seen 2) (in_command seen 2)))
    (in_command seen 1)
    (in_command seen 2)
    (in_zero _)
    (in_ticks 1 seen (in_clamp _ _))
    (in_zero _)

in_alternator : (value : ℕ) → IsInRange (limit 0 60) (alternator_gives value)
unfolding alternator_gives
in_alternator value = in_either (value == 0) _ _ _ (in_number 60 60 (omega arith)) (in_zero _)

power_monitor_within : (seen : Seen) → Within (mode_range 2 seen.mode.0) (power_monitor_ran seen)
unfolding power_monitor_ran word mode_range charge_after supply_after demand_after shed_after own_word kind_variable
power_monitor_within seen = each (λ i. IsInRange (mode_range 2 seen.mode.0 i) (word (power_monitor_ran seen) i))
    (in_clamp _ _)
    (in_sum 60 60 _ _ (in_alternator _) (in_alternator _))
    (in_choice (seen.mode.0 == 1) (limit 0 100) _ _ _ (in_number 100 100 (omega arith)) (in_choice (seen.mode.0 == 2) (limit 0 60) (limit 0 20) _ _ (in_number 60 60 (omega arith)) (in_number 20 20 (omega arith))))
    (in_either _ _ _ _ in_one (in_zero _))
    (in_zero _)
    (in_ticks 2 seen (in_clamp _ _))
    (in_zero _)

in_turn : (target from : ℤ) → IsInRange (limit 1800 1799) (short_turn target from)
unfolding short_turn
in_turn target from = let p = in_circle ((target -ℤ from) +ℤ pos 5400) in record { least = omega (arith, ints, p.least); greatest = omega (arith, ints, p.greatest) }

navigator_within : (seen : Seen) → Within (mode_range 3 seen.mode.0) (navigator_ran seen)
unfolding navigator_ran word mode_range bearing_error_after climb_left_after on_course own_word kind_variable
navigator_within seen = each (λ i. IsInRange (mode_range 3 seen.mode.0 i) (word (navigator_ran seen) i))
    (in_turn _ _)
    (in_choice (seen.mode.0 == 1) (limit 5000 5000) (limit 0 0) _ _ (in_clamp _ _) (in_zero _))
    (in_either _ _ _ _ in_one (in_zero _))
    (in_zero _)
    (in_zero _)
    (in_ticks 3 seen (in_clamp _ _))
    (in_zero _)

in_fresh_of : (kind : ℕ) (seen : Seen) → IsInRange (limit 0 1) (fresh_of kind seen)
unfolding fresh_of
in_fresh_of kind seen = in_either _ _ _ _ in_one (in_zero _)

in_fresh : (seen : Seen) → IsInRange (limit 0 4) (fresh seen)
unfolding fresh
in_fresh seen = in_sum 3 1 _ _ (in_sum 2 1 _ _ (in_sum 1 1 _ _ (in_fresh_of 0 seen) (in_fresh_of 1 seen)) (in_fresh_of 2 seen)) (in_fresh_of 3 seen)

in_rate : (seen : Seen) → IsInRange (if seen.mode.0 == 1 then limit 0 4 else limit 0 1) (rate_after seen)
unfolding rate_after
in_rate seen = in_choice (seen.mode.0 == 1) (limit 0 4) (limit 0 1) _ _ (in_number 4 4 (omega arith)) in_one

rate_some : (seen : Seen) → pos 0 ≤ℤ rate_after seen
unfolding rate_after
rate_some seen = (in_either (seen.mode.0 == 1) (limit 0 4) (pos 4) (pos 1) (in_number 4 4 (omega arith)) (in_number 4 1 (omega arith))).least

module _ (seen : Seen) (queued : IsInRange (limit 0 64) (own_word 4 seen 1)) (sent : IsInRange (limit 0 1000000) (own_word 4 seen 2)) (dropped : IsInRange (limit 0 1000000) (own_word 4 seen 4)) where
  in_queued : IsInRange (limit 0 64) (queued_after seen)
  unfolding queued_after going waiting
  in_queued = let f = in_fresh seen in let r = rate_some seen in record { least = omega (arith, ints, clamps, f.least, queued.least, r); greatest = omega (arith, ints, clamps) }

  in_sent : IsInRange (limit 0 1000000) (sent_after seen)
  unfolding sent_after going waiting
  in_sent = let f = in_fresh seen in let r = rate_some seen in record { least = omega (arith, ints, clamps, f.least, queued.least, sent.least, r); greatest = omega (arith, ints, clamps) }

  in_dropped : IsInRange (limit 0 1000000) (dropped_after seen)
  unfolding dropped_after left_over queued_after going waiting
  in_dropped = record { least = omega (arith, ints, clamps, dropped.least); greatest = omega (arith, ints, clamps) }

data_link_within : (seen : Seen) → Within (mode_range 4 seen.mode.0) (data_link_ran seen)
unfolding data_link_ran word mode_range own_word kind_variable
data_link_within seen = each (λ i. IsInRange (mode_range 4 seen.mode.0 i) (word (data_link_ran seen) i))
    (in_queued seen (in_clamp _ _) (in_clamp _ _) (in_clamp _ _))
    (in_sent seen (in_clamp _ _) (in_clamp _ _) (in_clamp _ _))
    (in_rate seen)
    (in_dropped seen (in_clamp _ _) (in_clamp _ _) (in_clamp _ _))
    (in_zero _)
    (in_ticks 4 seen (in_clamp _ _))
    (in_zero _)

task_within : (seen : Seen) → Within (mode_range 5 seen.mode.0) (task_ran seen)
unfolding task_ran word mode_range own_word kind_variable
task_within seen = each (λ i. IsInRange (mode_range 5 seen.mode.0 i) (word (task_ran seen) i))
    (in_zero _)
    (in_zero _)
    (in_zero _)
    (in_zero _)
    (in_zero _)
    (in_ticks 5 seen (in_clamp _ _))
    (in_zero _)

pub ran_within : (kind : ℕ) → kind < 6 → (seen : Seen) → Within (mode_range kind seen.mode.0) (ran kind seen)
ran_within = each_kind (λ kind. (seen : Seen) → Within (mode_range kind seen.mode.0) (ran kind seen)) autopilot_within flight_control_within power_monitor_within navigator_within data_link_within task_within

-- An application that ran has status 1.
pub ran_status : (kind : ℕ) → kind < 6 → (seen : Seen) → word (ran kind seen) 0 ≡ pos 1
unfolding word autopilot_ran flight_control_ran power_monitor_ran navigator_ran data_link_ran task_ran
ran_status = each_kind (λ kind. (seen : Seen) → word (ran kind seen) 0 ≡ pos 1) (λ seen. refl) (λ seen. refl) (λ seen. refl) (λ seen. refl) (λ seen. refl) (λ seen. refl)
