-- After an event, the kernels of both units and the processors in flight satisfy `PairCoreKeeps` for the new state.
use Rattle.std.proofs.Common.{◌≡◌, ◌∙◌, ℕ, suc, ◌<◌, ◌≤◌, refl, ap, sym, subst, arith, List, length}
use Rattle.std.specs.Prelude.{Option}
use Rattle.scram_types.specs.declared.ids.ProcId.{ProcId}
use Rattle.scram_types.specs.Scripts.{ScriptParts}
use Rattle.scram_types.specs.Specification.{IsSpec, Parts}
use Rattle.bank_words.specs.declared.images.KernelImage.{KernelImage}
use Rattle.frame_model.specs.Storage.{kernel_image}
use Rattle.scram_kernel.specs.Kernels.{KernelParts, kernel_after}
use Rattle.fail_stop.specs.declared.flyers.Flyer.{Flyer}
use Rattle.fail_stop.specs.Events.{Place}
use Rattle.fail_stop.specs.Flights.{Flight}
use Rattle.fail_stop.specs.Flyers.{AreFlyersAt}
use Rattle.fail_stop.specs.ScriptFlights.{flight_of}
use Rattle.kernel_pair.specs.declared.events.UnitHalt.{UnitHalt}
use Rattle.kernel_pair.specs.declared.events.PairEvent.{PairEvent}
use Rattle.kernel_pair.specs.declared.events.PairEvent.TheVariants.{Fly, Note, Store, Ready, Meet, Release, Stop}
use Rattle.kernel_pair.specs.Cores.{PairCoreKeeps, IsKernelOf, IsQuiet, IsTurn, places_in}
use Rattle.kernel_pair.specs.Kept.{PairKept}
use Rattle.kernel_pair.specs.Laws.{noted_frames}
use Rattle.kernel_pair.specs.Machines.{AreEventWords, IsPairStep, PairParts, pair_flight, pair_in}
use Rattle.kernel_pair.specs.Pairs.{IsPairNext, Pair, noted, pair_after}
use Rattle.kernel_pair.proofs.Noted.{Noting, noted_same, noting, storing, unit_after}

quiet_places : (m : Flight) (halt : Option UnitHalt) (s : Pair) (e : PairEvent) → IsQuiet e → places_in (pair_after m halt s e) ≡ places_in s
quiet_places m halt s (Fly p u) q = absurd q
quiet_places m halt s (Note u p) q = absurd q
quiet_places m halt s (Store u i) q = refl
quiet_places m halt s (Ready u) q = refl
quiet_places m halt s (Meet u) q = refl
quiet_places m halt s (Release u) q = refl
quiet_places m halt s (Stop u) q = refl

module _ (old new : PairParts) (e : PairEvent) (step : IsPairStep old e new) where
  abbrev after : Pair
  after = pair_after (pair_flight old) old.halt (pair_in old) e

  kernels_are : (u : ℕ) → kernel_after new.spec new.script (noted_frames (pair_flight new) ((pair_in new).unit u)) ≡ kernel_after old.spec old.script (noted_frames (pair_flight old) (after.unit u))
  kernels_are u = λ i. kernel_after (step.spec i) (step.script i) (noted_frames (flight_of (step.spec i) (step.script i)) ((step.state i).unit u))

  stays : (u : ℕ) (kernel : KernelParts) → noted_frames (pair_flight old) (after.unit u) ≡ noted_frames (pair_flight old) ((pair_in old).unit u) → IsKernelOf old u kernel → IsKernelOf new u kernel
  stays u kernel same is = is ∙ ap (λ (n : ℕ). kernel_after old.spec old.script n) (sym same) ∙ sym (kernels_are u)

  module _ {X : Type 0} {Y : X → Type 0} where
    flyers_go : (flyers : List (Flyer X Y)) → AreFlyersAt (pair_flight old) (places_in after) flyers → AreFlyersAt (pair_flight new) (places_in (pair_in new)) flyers
    flyers_go flyers are =
        let one = subst (λ (s : Pair). AreFlyersAt (flight_of old.spec old.script) (places_in s) flyers) (sym step.state) are in
        let two = subst (λ (spec : Parts). AreFlyersAt (flight_of spec old.script) (places_in (pair_in new)) flyers) (sym step.spec) one in
        subst (λ (script : ScriptParts). AreFlyersAt (flight_of new.spec script) (places_in (pair_in new)) flyers) (sym step.script) two

    pub quiet_keeps : IsSpec old.spec → IsPairNext (pair_flight old) old.halt (pair_in old) e → IsQuiet e → (first second : KernelParts) (flyers : List (Flyer X Y)) → PairCoreKeeps old first second flyers → PairCoreKeeps new first second flyers
    quiet_keeps facts next quiet first second flyers k = record {
      first = stays 0 first (noted_same (pair_flight old) old.halt (pair_in old) facts.procs_count.enough e next quiet 0) k.first;
      second = stays 1 second (noted_same (pair_flight old) old.halt (pair_in old) facts.procs_count.enough e next quiet 1) k.second;
      flyers = flyers_go flyers (subst (λ (at : ℕ → Place). AreFlyersAt (pair_flight old) at flyers) (sym (quiet_places (pair_flight old) old.halt (pair_in old) e quiet)) k.flyers);
    }

module _ {X : Type 0} {Y : X → Type 0} (old new : PairParts) where
  pub fly_keeps : (p : ProcId) (u : ℕ) → IsPairStep old (Fly p u) new → (first second : KernelParts) (flyers flyers2 : List (Flyer X Y)) → PairCoreKeeps old first second flyers
      → AreFlyersAt (pair_flight old) (places_in (pair_after (pair_flight old) old.halt (pair_in old) (Fly p u))) flyers2 → PairCoreKeeps new first second flyers2
  fly_keeps p u step first second flyers flyers2 k are = record {
    first = stays old new (Fly p u) step 0 first refl k.first;
    second = stays old new (Fly p u) step 1 second refl k.second;
    flyers = flyers_go old new (Fly p u) step flyers2 are;
  }

  -- If unit 0 makes a note, and its new kernel satisfies `IsKernelOf`, then `PairCoreKeeps` holds for this kernel and
  -- the unchanged kernel of unit 1.
  pub first_notes : (u : ℕ) (p : ProcId) → u ≡ 0 → IsPairStep old (Note u p) new → (first first2 second : KernelParts) (flyers : List (Flyer X Y)) → PairCoreKeeps old first second flyers → IsKernelOf new u first2 → PairCoreKeeps new first2 second flyers
  first_notes u p zero step first first2 second flyers k is =
      let own : IsPairStep old (Note 0 p) new = subst (λ (v : ℕ). IsPairStep old (Note v p) new) zero step in record {
        first = subst (λ (v : ℕ). IsKernelOf new v first2) zero is;
        second = stays old new (Note 0 p) own 1 second refl k.second;
        flyers = flyers_go old new (Note 0 p) own flyers k.flyers;
      }

  pub second_notes : (u : ℕ) (p : ProcId) → u ≡ 1 → IsPairStep old (Note u p) new → (first second second2 : KernelParts) (flyers : List (Flyer X Y)) → PairCoreKeeps old first second flyers → IsKernelOf new u second2 → PairCoreKeeps new first second2 flyers
  second_notes u p one step first second second2 flyers k is =
      let own : IsPairStep old (Note 1 p) new = subst (λ (v : ℕ). IsPairStep old (Note v p) new) one step in record {
        first = stays old new (Note 1 p) own 0 first refl k.first;
        second = subst (λ (v : ℕ). IsKernelOf new v second2) one is;
        flyers = flyers_go old new (Note 1 p) own flyers k.flyers;
      }

module _ (old new : PairParts) (u : ℕ) (p : ProcId) (step : IsPairStep old (Note u p) new) (kept : PairKept (pair_flight old) old.halt (pair_in old)) (next : IsPairNext (pair_flight old) old.halt (pair_in old) (Note u p)) where
  at : Noting (pair_flight old) old.halt (pair_in old) u
  at = noting (pair_flight old) old.halt (pair_in old) kept u p next

  unit_is : (pair_in new).unit u ≡ noted p.0 ((pair_in old).proc p.0) ((pair_in old).unit u)
  unit_is = ap (λ (s : Pair). s.unit u) step.state ∙ unit_after (pair_flight old) old.halt (pair_in old) u p

  frame_is : ((pair_in new).unit u).frame ≡ ((pair_in old).unit u).frame
  frame_is = λ i. (unit_is i).frame

  pub steps_after : ((pair_in new).unit u).step ≤ length new.spec.procs
  steps_after =
      let low = at.low in
      let is : ((pair_in new).unit u).step ≡ suc ((pair_in old).unit u).step = λ i. (unit_is i).step in
      let same : length new.spec.procs ≡ length old.spec.procs = λ i. length (step.spec i).procs in
      omega (arith, low, is, same)

  pub frame_after : ((pair_in new).unit u).frame < new.script.frames
  frame_after =
      let below = at.below in
      let same : new.script.frames ≡ old.script.frames = λ i. (step.script i).frames in
      omega (arith, below, frame_is, same)

  pub kernel_before : (kernel : KernelParts) → IsKernelOf old u kernel → kernel ≡ kernel_after new.spec new.script ((pair_in new).unit u).frame
  kernel_before kernel is = is ∙ ap (λ (n : ℕ). kernel_after old.spec old.script n) (at.before ∙ sym frame_is) ∙ sym (λ i. kernel_after (step.spec i) (step.script i) ((pair_in new).unit u).frame)

-- A turn is neither a frame of a processor nor a note.
pub turn_quiet : (e : PairEvent) → IsTurn e → IsQuiet e
turn_quiet (Fly p u) turn = absurd turn
turn_quiet (Note u p) turn = absurd turn
turn_quiet (Store u i) turn = tt
turn_quiet (Ready u) turn = tt
turn_quiet (Meet u) turn = tt
turn_quiet (Release u) turn = tt
turn_quiet (Stop u) turn = tt

pub turn_words : (m : Flight) (s : Pair) (e : PairEvent) (draft : List ℕ) (word : ℕ) → IsTurn e → AreEventWords m s e draft word
turn_words m s (Fly p u) draft word turn = absurd turn
turn_words m s (Note u p) draft word turn = absurd turn
turn_words m s (Store u i) draft word turn = absurd turn
turn_words m s (Ready u) draft word turn = tt
turn_words m s (Meet u) draft word turn = tt
turn_words m s (Release u) draft word turn = tt
turn_words m s (Stop u) draft word turn = tt

-- If a unit stores a word next, then its kernel's image is the kernel image of the next frame.
pub image_stored : (k : PairParts) (u i : ℕ) (kernel : KernelParts) (image : KernelImage) → IsPairNext (pair_flight k) k.halt (pair_in k) (Store u i) → IsKernelOf k u kernel → image ≡ kernel_image kernel.spec kernel.script kernel.past
    → image ≡ kernel_image k.spec k.script (suc ((pair_in k).unit u).frame)
image_stored k u i kernel image next is said =
    said ∙ ap (λ (x : KernelParts). kernel_image x.spec x.script x.past) is ∙ ap (λ (n : ℕ). kernel_image k.spec k.script n) (storing (pair_flight k) k.halt (pair_in k) u i next)
