-- Flights without restarts, and the policy that always chooses the target anew.
use Rattle.std.proofs.Common.{◌≡◌, ◌∙◌, ℕ, zero, suc, ◌+◌, ◌-◌, ◌≤◌, refl, ap, sym, arith, Bool, true, false, not, ◌&&◌, ◌||◌, List, [], ◌∷◌}
use Rattle.std.specs.Prelude.{◌==◌, nat_le, nat_lt, Some, None, if◌then◌else◌}
use Rattle.std.specs.List.{list_any}
use Rattle.std.proofs.lemmas.Bool.Decides.{nat_tests}
use Rattle.scram_types.specs.declared.ids.ConfId.{ConfId}
use Rattle.scram_types.specs.declared.orders.KMode.TheVariants.{Stable, Moving}
use Rattle.scram_types.specs.declared.scripts.HaltAt.{HaltAt}
use Rattle.scram_types.specs.Scripts.{ScriptParts}
use Rattle.scram_types.specs.Specification.{Parts}
use Rattle.scram_types.proofs.Items.{any_or, any_same}
use Rattle.dep_order.specs.Timetables.{halting_time, initialising_time, preparing_time}
use Rattle.fault_script.specs.Times.{halts_in, is_halt_in, is_restart_between, is_up_since, latest_halt}
use Rattle.frame_model.specs.declared.phases.Phase.{Phase}
use Rattle.frame_model.specs.declared.phases.Phase.TheVariants.{Running, Halting, Preparing, Initialising}
use Rattle.frame_model.specs.Decisions.{moving_decision, stable_decision, wanted}
use Rattle.frame_model.specs.Laws.{HaltsLastWithoutRestarts, RetargetChoosesAnew, SettlesWithItsPhases, has_halted}
use Rattle.frame_model.specs.Phases.{after_halting, is_running}

earlier : (b : Bool) (h f : ℕ) → (b && nat_lt h (suc f)) ≡ ((b && h == f) || (b && nat_lt h f))
earlier true h f = grind (arith, nat_tests)
earlier false h f = refl

halted_more : (script : ScriptParts) (p f : ℕ) → has_halted script p (suc f) ≡ (halts_in script p f || has_halted script p f)
halted_more script p f =
    any_same (λ (halt : HaltAt). halt.proc.0 == p && nat_lt halt.frame (suc f)) (λ (halt : HaltAt). is_halt_in p f halt || (halt.proc.0 == p && nat_lt halt.frame f)) script.halts
    (λ halt. earlier (halt.proc.0 == p) halt.frame f)
    ∙ any_or (is_halt_in p f) (λ (halt : HaltAt). halt.proc.0 == p && nat_lt halt.frame f) script.halts

no_time : (b : Bool) (h : ℕ) → (b && nat_lt h 0) ≡ false
no_time true h = grind (arith, nat_tests)
no_time false h = refl

none_yet : (halts : List HaltAt) (p : ℕ) → list_any (λ (halt : HaltAt). halt.proc.0 == p && nat_lt halt.frame 0) halts ≡ false
none_yet [] p = refl
none_yet (halt ∷ halts) p = rw (no_time (halt.proc.0 == p) halt.frame, none_yet halts p) refl

down_for_good : (script : ScriptParts) → script.restarts ≡ [] → (p f h : ℕ) → is_up_since script p f (Some h) ≡ false
down_for_good script none p f h = ap (list_any (is_restart_between p h f)) none

by_halt : (script : ScriptParts) → script.restarts ≡ [] → (p f g : ℕ) (b : Bool) → is_up_since script p g (latest_halt script p f) ≡ not (has_halted script p f)
    → is_up_since script p g (if b then Some f else latest_halt script p f) ≡ not (b || has_halted script p f)
by_halt script none p f g true before = down_for_good script none p g f
by_halt script none p f g false before = before

-- In a script without restarts, a processor is up since its latest halt before frame `f` if and only if there is no
-- such halt.
up_since_latest : (script : ScriptParts) → script.restarts ≡ [] → (p f g : ℕ) → is_up_since script p g (latest_halt script p f) ≡ not (has_halted script p f)
up_since_latest script none p zero g = ap not (sym (none_yet script.halts p))
up_since_latest script none p (suc f) g = rw (halted_more script p f) (by_halt script none p f g (halts_in script p f) (up_since_latest script none p f g))

pub halts_last : HaltsLastWithoutRestarts
halts_last script none p f = up_since_latest script none p f f

pub chooses_anew : RetargetChoosesAnew
chooses_anew spec is frame (Stable c) settled arrived v = refl
chooses_anew spec is frame (Moving from halting to since) settled arrived v =
    ap (λ policy. if arrived then stable_decision spec to frame v else moving_decision spec frame from halting to since settled (wanted policy spec from to v)) is

late : (p i h age total : ℕ) (b c : Bool) → nat_lt age p ≡ b → nat_lt (age - p) i ≡ c → total ≡ age + h → nat_le (h + p + i) total ≡ (if b then false else (if c then false else true))
late p i h age total true c in_p in_i is = grind (arith, nat_tests, in_p, is)
late p i h age total false true in_p in_i is = grind (arith, nat_tests, in_p, in_i, is)
late p i h age total false false in_p in_i is = grind (arith, nat_tests, in_p, in_i, is)

inner : (b c : Bool) (x y z : Phase) → is_running x ≡ false → is_running y ≡ false → is_running z ≡ true → is_running (if b then x else (if c then y else z)) ≡ (if b then false else (if c then false else true))
inner true c x y z is_x is_y is_z = is_x
inner false true x y z is_x is_y is_z = is_y
inner false false x y z is_x is_y is_z = is_z

runs_after : (spec : Parts) (to : ConfId) (age h total : ℕ) → total ≡ age + h
    → nat_le (h + preparing_time spec to + initialising_time spec to) total ≡ is_running (after_halting spec to age)
runs_after spec to age h total is =
    late (preparing_time spec to) (initialising_time spec to) h age total (nat_lt age (preparing_time spec to)) (nat_lt (age - preparing_time spec to) (initialising_time spec to)) refl refl is
    ∙ sym (inner (nat_lt age (preparing_time spec to)) (nat_lt (age - preparing_time spec to) (initialising_time spec to))
    (Preparing to age) (Initialising to (age - preparing_time spec to)) (Running to) refl refl refl)

while_halting : (spec : Parts) (c to : ConfId) (age : ℕ) (b : Bool) → nat_lt age (halting_time spec c) ≡ b
    → nat_le (halting_time spec c + preparing_time spec to + initialising_time spec to) age ≡ is_running (if b then Halting c age else after_halting spec to (age - halting_time spec c))
while_halting spec c to age true is = grind (arith, nat_tests, is)
while_halting spec c to age false is =
    let past : halting_time spec c ≤ age = grind (arith, nat_tests, is) in
    runs_after spec to (age - halting_time spec c) (halting_time spec c) age (omega arith)

pub settles : SettlesWithItsPhases
settles spec from None to since f = runs_after spec to (f - since) 0 (f - since) (omega arith)
settles spec from (Some c) to since f = while_halting spec c to (f - since) (nat_lt (f - since) (halting_time spec c)) refl
