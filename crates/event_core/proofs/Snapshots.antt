-- The words that a processor reads once it has made all looks of its frame are the snapshot of that frame.
use Rattle.std.proofs.Common.{◌≡◌, ◌∙◌, ◌⊎◌, ℕ, pos, ◌<◌, ◌≤◌, false, refl, ap, sym, subst, arith, List, ◌∷◌, length}
use Rattle.std.specs.Prelude.{nat_le, slice_index_or}
use Rattle.std.proofs.lemmas.Bool.Decides.{nat_tests}
use native.Mathlib.Decide.{dec_le}
use Rattle.scram_types.specs.Scripts.{ScriptParts}
use Rattle.scram_types.specs.Specification.{Parts}
use Rattle.bank_words.specs.Images.{kernel_encode}
use Rattle.bank_words.specs.declared.images.KernelImage.{KernelImage}
use Rattle.fault_script.specs.Times.{words}
use Rattle.frame_model.specs.Flights.{image_in}
use Rattle.frame_model.specs.Storage.{kernel_image}
use Rattle.fail_stop.specs.declared.snapshots.Snapshot.{Snapshot}
use Rattle.fail_stop.specs.Drafts.{IsSnapshot}
use Rattle.bank_words.specs.declared.events.Event.{Event}
use Rattle.fail_stop.specs.Ends.{IsOver}
use Rattle.fail_stop.specs.Events.{At, BankWord, Halted, IsNext, KernelWord, Place, Places, frame_of}
use Rattle.fail_stop.specs.Flights.{Flight, word_in}
use Rattle.fail_stop.specs.Kept.{IsPlaced}
use Rattle.fail_stop.specs.Laws.{Finds, MachineGoesOn, ReadersFind}
use Rattle.fail_stop.specs.Listed.{stored_in}
use Rattle.fail_stop.specs.ScriptFlights.{flight_of, image_words_after}
use Rattle.event_core.specs.declared.places.Places.{Places as KeptPlaces}
use Rattle.event_core.specs.Cores.{CoreParts, MachineKeeps, core_of, core_places, core_words, core_flight, frames_ended}
use Rattle.event_core.specs.Places.{HasLooked, machine_places}
use Rattle.event_core.specs.Reads.{bank_taken, kernel_words_stored, word_read}
use Rattle.event_core.proofs.Ending.{ended_by}
use Rattle.event_core.proofs.ImagesFound.{images_found}
use Rattle.event_core.proofs.Steps.{kept_of}

-- Lemmas that twenty words are the words of a kernel image if each of them equals the word of the image at the same
-- index.
next_same : (x y : ℕ) (xs ys : List ℕ) → x ≡ y → xs ≡ ys → x ∷ xs ≡ y ∷ ys
next_same x y xs ys is are = rw (is, are) refl

pub words_are : (stored : List ℕ) (image : KernelImage) → ((i : ℕ) → i < 20 → stored_in stored (KernelWord i) ≡ word_in (kernel_encode image) i) → kernel_words_stored stored ≡ kernel_encode image
words_are stored image held =
    next_same _ _ _ _ (held 0 (omega arith)) (next_same _ _ _ _ (held 1 (omega arith)) (next_same _ _ _ _ (held 2 (omega arith)) (next_same _ _ _ _ (held 3 (omega arith))
    (next_same _ _ _ _ (held 4 (omega arith)) (next_same _ _ _ _ (held 5 (omega arith)) (next_same _ _ _ _ (held 6 (omega arith)) (next_same _ _ _ _ (held 7 (omega arith))
    (next_same _ _ _ _ (held 8 (omega arith)) (next_same _ _ _ _ (held 9 (omega arith)) (next_same _ _ _ _ (held 10 (omega arith)) (next_same _ _ _ _ (held 11 (omega arith))
    (next_same _ _ _ _ (held 12 (omega arith)) (next_same _ _ _ _ (held 13 (omega arith)) (next_same _ _ _ _ (held 14 (omega arith)) (next_same _ _ _ _ (held 15 (omega arith))
    (next_same _ _ _ _ (held 16 (omega arith)) (next_same _ _ _ _ (held 17 (omega arith)) (next_same _ _ _ _ (held 18 (omega arith)) (next_same _ _ _ _ (held 19 (omega arith)) refl)))))))))))))))))))

-- Processor `p` is in the kernel's frame and is not noted in it. The stored words satisfy `Finds` for that frame.
pub record Looking (spec : Parts) (script : ScriptParts) (places : KeptPlaces) (stored : List ℕ) (p : ℕ) : Type 0 where
  pub now : frame_of ((machine_places places).proc p) ≡ places.frame
  pub early : places.step ≤ p
  pub finds : Finds spec script (stored_in stored) places.frame

module _ (m : Flight) (at : Places) (p : ℕ) where
  in_frame : (f n : ℕ) → IsPlaced m at.frame at.step p (At f n) → 0 < n → Dec (f ≤ at.frame) → f ≡ at.frame
  in_frame f n is some (yes d) = omega (arith, is.low, d)
  in_frame f n is some (no d) = let none = is.fresh (omega (arith, d)) in absurd (omega (arith, none, some))

  not_noted : (f n : ℕ) → IsPlaced m at.frame at.step p (At f n) → f ≡ at.frame → Dec (at.step ≤ p) → at.step ≤ p
  not_noted f n is same (yes d) = d
  not_noted f n is same (no d) = let past = is.noted (omega (arith, d)) in absurd (omega (arith, past, same))

module _ {spec : Parts} {script : ScriptParts} {places : KeptPlaces} {stored : List ℕ} {history : List Event} {room count : ℕ} (k : MachineKeeps spec script places stored history room count) (find : ReadersFind) where
  at_place : (p : ℕ) (place : Place) → p < length spec.procs → (machine_places places).proc p ≡ place → HasLooked (flight_of spec script) place → Looking spec script places stored p
  at_place p (At f n) low here looked =
      let kept = kept_of k in
      let is : IsPlaced (flight_of spec script) places.frame places.step p (At f n) = subst (λ (x : Place). IsPlaced (flight_of spec script) places.frame places.step p x) here (kept.placed p low) in
      let some : 0 < n = let past = looked.0 in omega (arith, past) in
      let same : f ≡ places.frame = in_frame (flight_of spec script) (machine_places places) p f n is some (dec_le f places.frame) in
      let now : frame_of ((machine_places places).proc p) ≡ places.frame = ap frame_of here ∙ same in
      record {
        now = now;
        early = not_noted (flight_of spec script) (machine_places places) p f n is same (dec_le places.step p);
        finds = subst (λ f. Finds spec script (stored_in stored) f) same (find spec script k.fits (machine_places places) (stored_in stored) kept p f n low (here, some));
      }
  at_place p (Halted h) low here looked = absurd looked

  pub looking : (p : ℕ) → p < length spec.procs → HasLooked (flight_of spec script) ((machine_places places).proc p) → Looking spec script places stored p
  looking p low looked = at_place p ((machine_places places).proc p) low refl looked

-- If a processor of a core has made all looks of its frame, but neither its flip nor its halt, then the core's kernel
-- is in the same frame. The kernel has not noted the processor in this frame.
pub looking_in : (core : CoreParts) (spec : Parts) (script : ScriptParts) (places : KeptPlaces) (stored : List ℕ) (history : List Event) (room count p : ℕ) → core_of spec script places stored history ≡ core
    → MachineKeeps spec script places stored history room count → ReadersFind → p < length core.spec.procs → HasLooked (core_flight core) ((core_places core).proc p) → Looking spec script places stored p
looking_in core spec script places stored history room count p is k find low looked =
    looking k find p (subst (λ (core : CoreParts). p < length core.spec.procs) (sym is) low) (subst (λ (core : CoreParts). HasLooked (core_flight core) ((core_places core).proc p)) (sym is) looked)

pub said_by : (core : CoreParts) (spec : Parts) (script : ScriptParts) (places : KeptPlaces) (stored : List ℕ) (history : List Event) (p : ℕ) (image : KernelImage) → core_of spec script places stored history ≡ core
    → p < length core.spec.procs → Looking spec script places stored p → image ≡ kernel_image spec script (frames_ended spec places) → image ≡ kernel_image spec script places.frame
said_by core spec script places stored history p image is known l is_image =
    let low : p < length spec.procs = subst (λ (core : CoreParts). p < length core.spec.procs) (sym is) known in
    let early = l.early in
    let waits : nat_le (length spec.procs) places.step ≡ false = grind (arith, nat_tests, early, low) in
    is_image ∙ ap (kernel_image spec script) (ended_by spec places false waits)

pub words_held : (spec : Parts) (script : ScriptParts) (places : KeptPlaces) (stored : List ℕ) (p : ℕ) (image : KernelImage) → Looking spec script places stored p → image ≡ kernel_image spec script places.frame
    → (i : ℕ) → i < 20 → stored_in stored (KernelWord i) ≡ word_in (kernel_encode image) i
words_held spec script places stored p image l is i low = l.finds.kernel i low ∙ ap (λ (image : KernelImage). word_in (kernel_encode image) i) (sym is)

held_now : (spec : Parts) (script : ScriptParts) (stored : List ℕ) (f : ℕ) → Finds spec script (stored_in stored) f
    → (p i : ℕ) → p < length spec.procs → i < words spec → stored_in stored (BankWord p (bank_taken stored f p) i) ≡ word_in (image_words_after spec script p f) i
held_now spec script stored f finds p i low inside = ap (λ b. stored_in stored (BankWord p b i)) (finds.picked p low) ∙ finds.held p i low inside

-- The kernel image of a processor's frame and the images that are read in that frame are the snapshot of that frame.
pub snapshot_by : (core : CoreParts) (spec : Parts) (script : ScriptParts) (places : KeptPlaces) (stored : List ℕ) (history : List Event) (room count p : ℕ) (snap : Snapshot) (frame : ℕ)
    → core_of spec script places stored history ≡ core → MachineKeeps spec script places stored history room count → Looking spec script places stored p
    → snap.kernel ≡ kernel_image spec script places.frame → frame ≡ frame_of ((core_places core).proc p)
    → ((p : ℕ) → p < 8 → length (image_in snap.images p) ≡ 64) → ((p : ℕ) → p < 8 → (i : ℕ) → i < 64 → slice_index_or (image_in snap.images p) i (pos 0) ≡ word_read spec stored frame p i)
    → IsSnapshot core.spec core.script (frame_of ((core_places core).proc p)) snap
snapshot_by core spec script places stored history room count p snap frame is k l kernel is_frame long read =
    let here : frame ≡ frame_of ((machine_places places).proc p) = is_frame ∙ ap (λ (core : CoreParts). frame_of ((core_places core).proc p)) (sym is) in
    let now : frame ≡ places.frame = here ∙ l.now in
    let finds : Finds spec script (stored_in stored) frame = subst (λ f. Finds spec script (stored_in stored) f) (sym now) l.finds in
    let snapshot : IsSnapshot spec script frame snap = record {
      kernel = kernel ∙ ap (kernel_image spec script) (sym now);
      images = images_found spec k.facts script stored frame snap.images k.facts.procs_count.few (held_now spec script stored frame finds) long read;
    } in
    subst (λ (core : CoreParts). IsSnapshot core.spec core.script (frame_of ((core_places core).proc p)) snap) is
    (subst (λ f. IsSnapshot spec script f snap) here snapshot)

-- If the flight of a core is not over, then some actor has a next event.
pub goes_on_by : (core : CoreParts) (spec : Parts) (script : ScriptParts) (places : KeptPlaces) (stored : List ℕ) (history : List Event) (room count : ℕ) → core_of spec script places stored history ≡ core
    → MachineKeeps spec script places stored history room count → MachineGoesOn → IsOver (core_flight core) (core_places core) ⊎ ((event : Event) × IsNext (core_flight core) (core_places core) (core_words core) event)
goes_on_by core spec script places stored history room count is k on =
    subst (λ (core : CoreParts). IsOver (core_flight core) (core_places core) ⊎ ((event : Event) × IsNext (core_flight core) (core_places core) (core_words core) event)) is
    (on spec script k.fits (machine_places places) (stored_in stored) (kept_of k))
