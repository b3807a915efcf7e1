-- Lemmas that a flight is over if and only if it has no frame or the kernel has noted every processor in the last
-- frame.
use Rattle.std.proofs.Common.{◌≡◌, ◌∙◌, ◌⊎◌, ℕ, suc, ◌+◌, ◌<◌, ◌≤◌, true, false, ap, sym, subst, inl, inr, arith, List, [], ◌∷◌, length}
use Rattle.scram_types.specs.declared.specification.Proc.{Proc}
use Rattle.std.specs.Prelude.{IsTrue, Some, nat_le}
use Rattle.std.proofs.lemmas.Bool.Decides.{nat_tests}
use native.Mathlib.Decide.{dec_le}
use Rattle.bank_words.specs.declared.events.Event.{Event}
use Rattle.scram_types.specs.Scripts.{ScriptParts}
use Rattle.scram_types.specs.Specification.{Parts}
use Rattle.fail_stop.specs.Ends.{IsDone, IsOver}
use Rattle.fail_stop.specs.Events.{At, Halted, Place, Places}
use Rattle.fail_stop.specs.Flights.{Flight}
use Rattle.fail_stop.specs.Kept.{IsPlaced}
use Rattle.fail_stop.specs.ScriptFlights.{flight_of, kernel_words}
use Rattle.fail_stop.specs.Schedules.{IsSchedule, Machine, opening}
use Rattle.fail_stop.proofs.ScriptBorder.{restarts_within}
use Rattle.event_core.specs.declared.places.Places.{Places as KeptPlaces}
use Rattle.bank_words.specs.Images.{kernel_encode}
use Rattle.bank_words.specs.declared.images.KernelImage.{KernelImage}
use Rattle.frame_model.specs.Storage.{kernel_image}
use Rattle.scram_kernel.specs.Kernels.{KernelParts, kernel_after}
use Rattle.event_core.specs.Cores.{CoreParts, MachineKeeps, core_of, frames_ended, core_flight, core_places}
use Rattle.event_core.specs.Places.{machine_places}
use Rattle.event_core.proofs.Ending.{ended_by}
use Rattle.event_core.proofs.Fewer.{first_flies}
use Rattle.event_core.proofs.Steps.{kept_of}

-- A processor that the kernel has noted in the last frame has flown all frames or has halted for good.
done_by : (m : Flight) (k j p : ℕ) (place : Place) → IsPlaced m k j p place → p < j → suc k ≡ m.frames → ((r : ℕ) → m.restart p ≡ Some r → r < m.frames) → IsDone m p place
done_by m k j p (At f n) is noted last within = let past = is.noted noted in omega (arith, past, is.high, last)
done_by m k j p (Halted h) is noted last within = λ r back. by_frame r back (dec_le r h)
  where
    by_frame : (r : ℕ) → m.restart p ≡ Some r → Dec (r ≤ h) → r ≤ h
    by_frame r back (yes d) = d
    by_frame r back (no d) = let later = is.noted noted r back (omega (arith, d)) in let low = within r back in absurd (omega (arith, later, low, last))

nothing_flown : (m : Flight) (es : List Event) (t : Machine) → m.frames ≡ 0 → IsSchedule m (opening m) es t → t ≡ opening m
nothing_flown m [] t none is = is
nothing_flown m (x ∷ es) t none is = let some = first_flies m (opening m).words x is.0 in absurd (omega (arith, some, none))

module _ {spec : Parts} {script : ScriptParts} {places : KeptPlaces} {stored : List ℕ} {history : List Event} {room count : ℕ} (k : MachineKeeps spec script places stored history room count) where
  pub is_over : (script.frames ≡ 0) ⊎ ((suc places.frame ≡ script.frames) × (length spec.procs ≤ places.step)) → IsOver (flight_of spec script) (machine_places places)
  is_over (inl none) = inl none
  is_over (inr last) =
      let kept = kept_of k in
      inr ((λ p low. done_by (flight_of spec script) places.frame places.step p _ (kept.placed p low) (let all = last.1 in omega (arith, low, all)) last.0 (λ r back. restarts_within spec script k.fits p r back)), last.0, last.1)

  all_ended : suc places.frame ≡ script.frames → length spec.procs ≤ places.step → frames_ended spec places ≡ script.frames
  all_ended last all =
      let noted : nat_le (length spec.procs) places.step ≡ true = grind (arith, nat_tests, all) in
      ended_by spec places true noted ∙ (let next : places.frame + 1 ≡ script.frames = omega (arith, last) in next)

  none_ended : script.frames ≡ 0 → frames_ended spec places ≡ script.frames
  none_ended none =
      let start = nothing_flown (flight_of spec script) history k.replay.state none k.replay.schedule in
      let at : machine_places places ≡ (opening (flight_of spec script)).at = k.replay.places_are ∙ ap (λ (s : Machine). s.at) start in
      let frame : places.frame ≡ 0 = ap (λ (at : Places). at.frame) at in
      let step : places.step ≡ 0 = ap (λ (at : Places). at.step) at in
      let one = k.facts.procs_count.enough in
      let waits : nat_le (length spec.procs) places.step ≡ false = grind (arith, nat_tests, step, one) in
      ended_by spec places false waits ∙ (let same : places.frame ≡ script.frames = omega (arith, frame, none) in same)

  -- If the flight is over, then all frames have ended.
  pub over_ended : IsOver (flight_of spec script) (machine_places places) → frames_ended spec places ≡ script.frames
  over_ended (inl none) = none_ended none
  over_ended (inr last) = all_ended last.1 last.2

-- If the flight has no frame, or the kernel has noted all processors in the last frame, then the flight of the core
-- is over.
pub over_by : (core : CoreParts) (spec : Parts) (script : ScriptParts) (places : KeptPlaces) (stored : List ℕ) (history : List Event) (room count : ℕ) → core_of spec script places stored history ≡ core
    → MachineKeeps spec script places stored history room count → (script.frames ≡ 0) ⊎ ((suc places.frame ≡ script.frames) × (length spec.procs ≤ places.step)) → IsOver (core_flight core) (core_places core)
over_by core spec script places stored history room count is k over = subst (λ (core : CoreParts). IsOver (core_flight core) (core_places core)) is (is_over k over)

true_less : (a b : ℕ) → IsTrue (nat_le a b) → a ≤ b
true_less a b is = grind (arith, nat_tests, is)

less_true : (a b : ℕ) → a ≤ b → IsTrue (nat_le a b)
less_true a b is = grind (arith, nat_tests, is)

-- In the last frame the flight is over if and only if all processors are noted.
pub over_told : (core : CoreParts) (spec : Parts) (script : ScriptParts) (places : KeptPlaces) (stored : List ℕ) (history : List Event) (room count : ℕ) (procs : List Proc) → core_of spec script places stored history ≡ core
    → MachineKeeps spec script places stored history room count → procs ≡ spec.procs → 0 < script.frames → suc places.frame ≡ script.frames
    → (IsTrue (nat_le (length procs) places.step) → IsOver (core_flight core) (core_places core)) × (IsOver (core_flight core) (core_places core) → IsTrue (nat_le (length procs) places.step))
over_told core spec script places stored history room count procs is k is_procs some last = rw is_procs (
  λ all. over_by core spec script places stored history room count is k (inr (last, true_less (length spec.procs) places.step all)),
  λ over. told (subst (λ (core : CoreParts). IsOver (core_flight core) (core_places core)) (sym is) over),
) where
  told : IsOver (flight_of spec script) (machine_places places) → IsTrue (nat_le (length spec.procs) places.step)
  told (inl none) = absurd (omega (arith, some, none))
  told (inr frames_ended) = less_true (length spec.procs) places.step frames_ended.2

pub ended_in : (core : CoreParts) (spec : Parts) (script : ScriptParts) (places : KeptPlaces) (stored : List ℕ) (history : List Event) (room count : ℕ) (kernel : KernelParts) → core_of spec script places stored history ≡ core
    → MachineKeeps spec script places stored history room count → kernel ≡ kernel_after spec script (frames_ended spec places) → IsOver (core_flight core) (core_places core) → kernel.past ≡ kernel.script.frames
ended_in core spec script places stored history room count kernel is k is_kernel over =
    let here : IsOver (flight_of spec script) (machine_places places) = subst (λ (core : CoreParts). IsOver (core_flight core) (core_places core)) (sym is) over in
    ap (λ (k : KernelParts). k.past) is_kernel ∙ over_ended k here ∙ sym (ap (λ (k : KernelParts). k.script.frames) is_kernel)

pub word_said : (core : CoreParts) (spec : Parts) (script : ScriptParts) (places : KeptPlaces) (stored : List ℕ) (history : List Event) (image : KernelImage) → core_of spec script places stored history ≡ core
    → image ≡ kernel_image spec script (frames_ended spec places) → length core.spec.procs ≤ core.places.step → kernel_encode image ≡ kernel_words core.spec core.script (core.places.frame + 1)
word_said core spec script places stored history image is is_image all =
    let here : length spec.procs ≤ places.step = subst (λ (core : CoreParts). length core.spec.procs ≤ core.places.step) (sym is) all in
    let noted : nat_le (length spec.procs) places.step ≡ true = grind (arith, nat_tests, here) in
    subst (λ (core : CoreParts). kernel_encode image ≡ kernel_words core.spec core.script (core.places.frame + 1)) is
    (ap kernel_encode (is_image ∙ ap (kernel_image spec script) (ended_by spec places true noted)))
