-- Lemmas on the number of frames that have ended, and on the kernel after these frames.
use Rattle.std.proofs.Common.{◌≡◌, ◌∙◌, ℕ, ◌+◌, Bool, true, false, refl, ap, sym, subst, arith, List, length}
use Rattle.std.specs.Prelude.{nat_le, if◌then◌else◌}
use Rattle.std.proofs.lemmas.Bool.Decides.{nat_tests}
use Rattle.bank_words.specs.declared.events.Event.{Event}
use Rattle.bank_words.specs.declared.events.Event.TheVariants.{Start, Look, Store, Flip, Done, Halt, KNote, KStore, Release}
use Rattle.bank_words.specs.declared.images.KernelImage.{KernelImage}
use Rattle.frame_model.specs.Storage.{kernel_image}
use Rattle.scram_kernel.specs.Kernels.{KernelParts, kernel_after}
use Rattle.scram_types.specs.Scripts.{ScriptParts}
use Rattle.scram_types.specs.Specification.{IsSpec, Parts}
use Rattle.fail_stop.specs.Events.{IsNext, Word}
use Rattle.fail_stop.specs.Listed.{Moves}
use Rattle.fail_stop.specs.ScriptFlights.{flight_of}
use Rattle.fail_stop.proofs.Plans.{next_kstore, next_note, next_release}
use Rattle.event_core.specs.declared.places.Places.{Places as KeptPlaces}
use Rattle.event_core.specs.Cores.{CoreKeeps, MachineKeeps, frames_ended, ends_frame}
use Rattle.event_core.specs.Places.{machine_places}

pub ended_by : (spec : Parts) (places : KeptPlaces) (b : Bool) → nat_le (length spec.procs) places.step ≡ b → frames_ended spec places ≡ (if b then places.frame + 1 else places.frame)
ended_by spec places b is = ap (λ b. if b then places.frame + 1 else places.frame) is

module _ (spec : Parts) (facts : IsSpec spec) (script : ScriptParts) (places places2 : KeptPlaces) (words : Word → ℕ) where
  still : places2.frame ≡ places.frame → places2.step ≡ places.step → frames_ended spec places2 ≡ frames_ended spec places
  still frame step = rw (frame, step) refl

  pub goes_on : (e : Event) → IsNext (flight_of spec script) (machine_places places) words e → Moves (flight_of spec script) (machine_places places) e (machine_places places2) → ends_frame spec e ≡ false
      → frames_ended spec places2 ≡ frames_ended spec places
  goes_on (Start p) i v not_last = still v.frame v.step
  goes_on (Look p q) i v not_last = still v.frame v.step
  goes_on (Store p x) i v not_last = still v.frame v.step
  goes_on (Flip p) i v not_last = still v.frame v.step
  goes_on (Done p) i v not_last = still v.frame v.step
  goes_on (Halt p) i v not_last = still v.frame v.step
  goes_on (KNote p) i v not_last =
      let n = next_note (flight_of spec script) (machine_places places) words p.0 i in
      let low = n.0 in let at = n.1 in let step = v.step in
      let before : nat_le (length spec.procs) places.step ≡ false = grind (arith, nat_tests, low, at) in
      let after : nat_le (length spec.procs) places2.step ≡ false = grind (arith, nat_tests, low, at, step, not_last) in
      ended_by spec places2 false after ∙ v.frame ∙ sym (ended_by spec places false before)
  goes_on (KStore x) i v not_last =
      let n = next_kstore (flight_of spec script) (machine_places places) words x i in
      let low = n.0 in let step = v.step in
      let before : nat_le (length spec.procs) places.step ≡ true = grind (arith, nat_tests, low) in
      let after : nat_le (length spec.procs) places2.step ≡ true = grind (arith, nat_tests, low, step) in
      ended_by spec places2 true after ∙ ap (λ f. f + 1) v.frame ∙ sym (ended_by spec places true before)
  goes_on Release i v not_last =
      let n = next_release (flight_of spec script) (machine_places places) words i in
      let at = n.0 in let step = v.step in let frame = v.frame in let one = facts.procs_count.enough in
      let before : nat_le (length spec.procs) places.step ≡ true = grind (arith, nat_tests, at) in
      let after : nat_le (length spec.procs) places2.step ≡ false = grind (arith, nat_tests, step, one) in
      ended_by spec places2 false after ∙ (let next : places2.frame ≡ places.frame + 1 = omega (arith, frame) in next) ∙ sym (ended_by spec places true before)

  pub record Ends : Type 0 where
    pub step : places2.step ≡ length spec.procs
    pub same : places2.frame ≡ places.frame
    pub before : frames_ended spec places ≡ places2.frame
    pub after : frames_ended spec places2 ≡ places2.frame + 1

  pub ends : (e : Event) → IsNext (flight_of spec script) (machine_places places) words e → Moves (flight_of spec script) (machine_places places) e (machine_places places2) → ends_frame spec e ≡ true → Ends
  ends (Start p) i v is_last = cc
  ends (Look p q) i v is_last = cc
  ends (Store p x) i v is_last = cc
  ends (Flip p) i v is_last = cc
  ends (Done p) i v is_last = cc
  ends (Halt p) i v is_last = cc
  ends (KStore x) i v is_last = cc
  ends Release i v is_last = cc
  ends (KNote p) i v is_last =
      let n = next_note (flight_of spec script) (machine_places places) words p.0 i in
      let low = n.0 in let at = n.1 in let step = v.step in let frame = v.frame in
      let last : places2.step ≡ length spec.procs = grind (arith, nat_tests, at, step, is_last) in
      let before : nat_le (length spec.procs) places.step ≡ false = grind (arith, nat_tests, low, at) in
      let after : nat_le (length spec.procs) places2.step ≡ true = grind (arith, nat_tests, last) in
      record { step = last; same = frame; before = ended_by spec places false before ∙ sym frame; after = ended_by spec places2 true after }

-- Lemmas on a core whose machine satisfies `MachineKeeps`. If the kernel of the core is the kernel after the frames
-- that have ended, the core satisfies `CoreKeeps`.
module _ (spec : Parts) (script : ScriptParts) (places2 : KeptPlaces) (stored2 : List ℕ) (history2 : List Event) (room2 count2 : ℕ) (machine : MachineKeeps spec script places2 stored2 history2 room2 count2)
    (kernel : KernelParts) where
  pub core_on : frames_ended spec places2 ≡ places2.frame + 1 → kernel ≡ kernel_after spec script (places2.frame + 1) → CoreKeeps spec script places2 stored2 history2 room2 count2 kernel
  core_on after is_kernel = record { machine = machine; kernel_is = is_kernel ∙ ap (kernel_after spec script) (sym after) }

  pub core_still : (f : ℕ) → frames_ended spec places2 ≡ f → kernel ≡ kernel_after spec script f → CoreKeeps spec script places2 stored2 history2 room2 count2 kernel
  core_still f after is_kernel = record { machine = machine; kernel_is = is_kernel ∙ ap (kernel_after spec script) (sym after) }

-- The image of the kernel after `f` frames is the kernel image of frame `f`.
pub kernel_says : (kernel : KernelParts) (spec : Parts) (script : ScriptParts) (f : ℕ) (image : KernelImage) → kernel ≡ kernel_after spec script f → image ≡ kernel_image kernel.spec kernel.script kernel.past
    → image ≡ kernel_image spec script f
kernel_says kernel spec script f image is said = subst (λ (k : KernelParts). image ≡ kernel_image k.spec k.script k.past) is said
